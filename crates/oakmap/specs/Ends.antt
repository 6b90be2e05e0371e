-- How the program ends: its status, the map that was closed, what it read and wrote, and why.
use Rattle.std.specs.Prelude.{◌≡◌, ◌<◌, ◌^◌, ◌-◌, ℕ, List, Option, Some, None, ◌⊎◌}
use Rattle.std.specs.Io.KnownBytes.{Appends, Keeps}
use Rattle.oak_core.specs.declared.closing.Closed.{Closed}
use Rattle.outside.specs.Cause.{Rose}
use Rattle.outside.specs.Taken.{AppendsFront}
use Rattle.outside.specs.Whole.{ConsumesUpTo, ReadsToEnd, ReadsPast}
use Rattle.oak_script.specs.declared.faults.ScriptFault.{ScriptFault}
use Rattle.oak_script.specs.Faults.{IsFirstFault}
use Rattle.oakmap.specs.declared.commands.Command.{Command}
use Rattle.oakmap.specs.declared.commands.Command.TheVariants.{Run, Gen}
use Rattle.oakmap.specs.declared.commands.Workload.{Workload}
use Rattle.oakmap.specs.declared.status.TheConstants.{GREATEST_INPUT}
use Rattle.oakmap.specs.declared.status.Status.{Status}
use Rattle.oakmap.specs.declared.status.Status.TheVariants.{Done, Usage, NoScript, ReadFault, WriteFault, NoMemory}
use Rattle.oakmap.specs.Messages.{usage_line, long_line, read_fault_line, script_fault_line}
use Rattle.oakmap.specs.RunOf.{IsRunOf, PrintsSummary}

abbrev pub code_of : Status → ℕ
code_of (Done closed) = 0
code_of Usage = 2
code_of NoScript = 3
code_of ReadFault = 4
code_of (WriteFault closed) = 5
code_of NoMemory = 6

-- the map that was closed behind the threads, where a run's text was written, whole or in part
abbrev pub closed_of : Status → Option Closed
closed_of (Done closed) = Some closed
closed_of Usage = None
closed_of NoScript = None
closed_of ReadFault = None
closed_of (WriteFault closed) = Some closed
closed_of NoMemory = None

-- what a source has left, where it tells that, and its count of faults
pub record Input : Type 0 where
  pub left : Option (List ℕ)
  pub faults : ℕ

-- what was written to a sink, where it tells that, and its count of faults
pub record Output : Type 0 where
  pub written : Option (List ℕ)
  pub faults : ℕ

-- the line was written, or its front, and then a fault of the sink
pub data Says (old now : Output) (line : List ℕ) : Type 0 where
  Whole : Appends old.written now.written line → Says old now line
  Front : AppendsFront old.written now.written line → Rose old.faults now.faults → Says old now line

-- The answer to an input that was read to its end. What a run's text tells is judged by the map that was closed behind this run.
abbrev pub Answered : Status → List ℕ → Output → Output → Type 0
Answered (Done closed) input old now = (text : List ℕ) × IsRunOf closed input text × Appends old.written now.written text
Answered (WriteFault closed) input old now = Rose old.faults now.faults × ((text : List ℕ) × IsRunOf closed input text × AppendsFront old.written now.written text)
Answered NoScript input old now = (f : ScriptFault) × IsFirstFault input f × Says old now (script_fault_line f.line f.what)
Answered NoMemory input old now = Keeps old.written now.written
Answered Usage input old now = ⊥
Answered ReadFault input old now = ⊥

-- more came than may
pub record TooLong (old now : Input) : Type 0 where
  pub bytes : List ℕ
  pub past : ReadsPast old.left now.left GREATEST_INPUT bytes

-- the input was read to its end, and answered so
abbrev pub Answers : Status → Input → Input → Output → Output → Type 0
Answers s source source_after sink sink_after = (input : List ℕ) × ReadsToEnd source.left source_after.left GREATEST_INPUT input × Answered s input sink sink_after

-- The end of the command `run` by its status, in the order of its work: the input is read, the script is read, the threads run,
-- the text is made and written. A read fault is told only where no more than may came.
abbrev pub RunEnds : Status → Input → Input → Output → Output → Type 0
RunEnds ReadFault source source_after sink sink_after = Rose source.faults source_after.faults × ConsumesUpTo source.left source_after.left GREATEST_INPUT × Says sink sink_after read_fault_line
RunEnds NoMemory source source_after sink sink_after = Keeps sink.written sink_after.written
RunEnds NoScript source source_after sink sink_after = (TooLong source source_after × Says sink sink_after long_line) ⊎ Answers NoScript source source_after sink sink_after
RunEnds (Done closed) source source_after sink sink_after = Answers (Done closed) source source_after sink sink_after
RunEnds (WriteFault closed) source source_after sink sink_after = Answers (WriteFault closed) source source_after sink sink_after
RunEnds Usage source source_after sink sink_after = ⊥

-- The end of the command `gen` by its status: the threads run, the summary is made and written. What it tells is judged by the map
-- that was closed behind this run.
abbrev pub GenEnds : Status → Workload → Output → Output → Type 0
GenEnds (Done closed) w old now = (text : List ℕ) × PrintsSummary w closed text × Appends old.written now.written text
GenEnds (WriteFault closed) w old now = Rose old.faults now.faults × ((text : List ℕ) × PrintsSummary w closed text × AppendsFront old.written now.written text)
GenEnds NoMemory w old now = Keeps old.written now.written
GenEnds Usage w old now = ⊥
GenEnds NoScript w old now = ⊥
GenEnds ReadFault w old now = ⊥

-- The program's end: the words are judged first. Where they give no command that is said, and `gen` reads nothing.
abbrev pub Ends : Status → Option Command → Input → Input → Output → Output → Type 0
Ends s None source source_after sink sink_after = (s ≡ Usage) × (source_after ≡ source) × Says sink sink_after usage_line
Ends s (Some Run) source source_after sink sink_after = RunEnds s source source_after sink sink_after
Ends s (Some (Gen w)) source source_after sink sink_after = (source_after ≡ source) × GenEnds s w sink sink_after

-- a count of faults did not rise, and does not stand at its last value
abbrev pub Unrisen : ℕ → ℕ → Type 0
Unrisen before now = (now ≡ before) × (before < 2 ^ 64 - 1)
