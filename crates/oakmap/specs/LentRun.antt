-- What the program leaves of the recipes that it is lent.
use Rattle.std.specs.Prelude.{◌≡◌, ℕ, List, [], length, Option, Some, None}
use Rattle.oak_core.specs.declared.closing.Closed.{Closed}
use Rattle.oak_script.specs.declared.scripts.Script.{Script}
use Rattle.oak_run.specs.LentRecipes.{risen}
use Rattle.oakmap.specs.declared.commands.Command.{Command}
use Rattle.oakmap.specs.declared.commands.Command.TheVariants.{Run, Gen}
use Rattle.oakmap.specs.declared.commands.Workload.{Workload}
use Rattle.oakmap.specs.declared.status.Status.{Status}
use Rattle.oakmap.specs.declared.status.Status.TheVariants.{Done, Usage, NoScript, ReadFault, WriteFault, NoMemory}
use Rattle.oakmap.specs.Ends.{Input, Output, Answered, RunEnds, GenEnds, Ends}
use Rattle.oakmap.specs.RunOf.{PrintsRun, PrintsSummary}

-- of an answer with a run's text, how often each thread's recipe computed in that run, and no number of another
abbrev pub computed_by : (s : Status) (input : List ℕ) (old now : Output) → Answered s input old now → List ℕ
computed_by (Done closed) input old now a = a.1.run.computed
computed_by (WriteFault closed) input old now a = a.1.1.run.computed
computed_by NoScript input old now a = []
computed_by NoMemory input old now a = []
computed_by Usage input old now a = []
computed_by ReadFault input old now a = []

-- the same of an end of the command `run`
abbrev pub computed_in_run : (s : Status) (source source_after : Input) (sink sink_after : Output) → RunEnds s source source_after sink sink_after → List ℕ
computed_in_run (Done closed) source source_after sink sink_after e = computed_by (Done closed) e.0 sink sink_after e.2
computed_in_run (WriteFault closed) source source_after sink sink_after e = computed_by (WriteFault closed) e.0 sink sink_after e.2
computed_in_run NoScript source source_after sink sink_after e = []
computed_in_run NoMemory source source_after sink sink_after e = []
computed_in_run Usage source source_after sink sink_after e = []
computed_in_run ReadFault source source_after sink sink_after e = []

-- of an end of the command `gen`
abbrev pub computed_in_gen : (s : Status) (w : Workload) (old now : Output) → GenEnds s w old now → List ℕ
computed_in_gen (Done closed) w old now e = e.1.computed
computed_in_gen (WriteFault closed) w old now e = e.1.1.computed
computed_in_gen NoScript w old now e = []
computed_in_gen NoMemory w old now e = []
computed_in_gen Usage w old now e = []
computed_in_gen ReadFault w old now e = []

-- and of an end of the program
abbrev pub computed_in : (s : Status) (c : Option Command) (source source_after : Input) (sink sink_after : Output) → Ends s c source source_after sink sink_after → List ℕ
computed_in s None source source_after sink sink_after e = []
computed_in s (Some Run) source source_after sink sink_after e = computed_in_run s source source_after sink sink_after e
computed_in s (Some (Gen w)) source source_after sink sink_after e = computed_in_gen s w sink sink_after e.1

-- The counts of the recipes behind it: that of the i-th rose by the i-th number, and the others are as they were. Where memory was
-- lacking there are as many as before.
abbrev pub CountsBehind : Status → List ℕ → List ℕ → List ℕ → Type 0
CountsBehind (Done closed) computed before now = now ≡ risen before computed
CountsBehind (WriteFault closed) computed before now = now ≡ risen before computed
CountsBehind NoScript computed before now = now ≡ risen before computed
CountsBehind Usage computed before now = now ≡ risen before computed
CountsBehind ReadFault computed before now = now ≡ risen before computed
CountsBehind NoMemory computed before now = length now ≡ length before

-- an input was answered so, and the recipes' counts went from the first to the last
abbrev pub AnsweredLent : Status → List ℕ → Output → Output → List ℕ → List ℕ → Type 0
AnsweredLent s input old now before after = (a : Answered s input old now) × CountsBehind s (computed_by s input old now a) before after

-- the commands ended so, and the recipes' counts went from the first to the last
abbrev pub RunEndsLent : Status → Input → Input → Output → Output → List ℕ → List ℕ → Type 0
RunEndsLent s source source_after sink sink_after before after =
    (ends : RunEnds s source source_after sink sink_after) × CountsBehind s (computed_in_run s source source_after sink sink_after ends) before after

abbrev pub GenEndsLent : Status → Workload → Output → Output → List ℕ → List ℕ → Type 0
GenEndsLent s w old now before after = (ends : GenEnds s w old now) × CountsBehind s (computed_in_gen s w old now ends) before after

-- and the program
abbrev pub EndsLent : Status → Option Command → Input → Input → Output → Output → List ℕ → List ℕ → Type 0
EndsLent s c source source_after sink sink_after before after =
    (ends : Ends s c source source_after sink sink_after) × CountsBehind s (computed_in s c source source_after sink sink_after ends) before after

-- the text is that of a run in which each thread's recipe computed so often
abbrev pub PrintsCounts : Script → Closed → List ℕ → List ℕ → Type 0
PrintsCounts script closed text computed = (run : PrintsRun script closed text) × (run.computed ≡ computed)

-- the text is that of a run, and the recipes' counts rose as this run's replies tell
abbrev pub PrintsLent : Script → Closed → List ℕ → List ℕ → List ℕ → Type 0
PrintsLent script closed text before after = (run : PrintsRun script closed text) × (after ≡ risen before run.computed)

-- the same of the summary of a workload's run
abbrev pub SummaryCounts : Workload → Closed → List ℕ → List ℕ → Type 0
SummaryCounts w closed text computed = (run : PrintsSummary w closed text) × (run.computed ≡ computed)

abbrev pub SummaryLent : Workload → Closed → List ℕ → List ℕ → List ℕ → Type 0
SummaryLent w closed text before after = (run : PrintsSummary w closed text) × (after ≡ risen before run.computed)
