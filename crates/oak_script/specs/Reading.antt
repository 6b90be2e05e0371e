-- What a reader of lines has taken.
use Rattle.std.specs.Prelude.{◌≡◌, ℕ, suc, ◌+◌, ◌<◌, ◌≤◌, ◌==◌, ◌&&◌, ◌||◌, not, List, [], ◌∷◌, ◌++◌, length, Option, Some, None, IfSome, ⊤}
use Rattle.std.specs.List.{list_any, flat_map, AllByRecursion}
use Rattle.oak_script.specs.declared.limits.TheConstants.{GREATEST_THREADS, GREATEST_CALLS, GREATEST_SCANS}
use Rattle.oak_script.specs.declared.faults.What.{What}
use Rattle.oak_script.specs.declared.faults.What.TheVariants as what
use Rattle.oak_script.specs.declared.scripts.Call.{Call}
use Rattle.oak_script.specs.declared.stops.Stop.{Stop}
use Rattle.oak_script.specs.declared.stops.Stop.TheVariants.{Fault, OutOfMemory}
use Rattle.oak_script.specs.declared.verbs.Verb.{Verb}
use Rattle.oak_script.specs.declared.stages.Stage.{Stage}
use Rattle.oak_script.specs.declared.stages.Stage.TheVariants.{Start, Headed, Shaped, Opened, Ended}
use Rattle.oak_script.specs.Lines.{Words, words_of}
use Rattle.oak_model.specs.Limits.{Sizes}
use Rattle.oak_script.specs.ShapeLine.{shape_line, SizesFit}
use Rattle.oak_script.specs.Grammar.{oak_line, end_line, thread_lines, CallFits, is_scan, scans_in, all_calls, default_sizes}
use Rattle.oak_script.specs.Forms.{form, fills, is_call}
use Rattle.oak_script.specs.Faults.{Past, past_of, is_empty, where_so, slot_faults, part_faults, faults, faults_at}
use Rattle.oak_script.specs.Stops.{Stops}

-- the faults of the words behind a call's word, where none is empty
abbrev pub call_faults : Verb → Words → List What
call_faults v ws = where_so (not (fills (form v) ws)) what.Word ++ slot_faults (form v) ws

-- the faults of a line where only a call may stand
abbrev pub line_faults : Words → List What
line_faults line = where_so (list_any is_empty line || not (is_call line)) what.Word ++ part_faults (Some line)

-- the faults of one thread more
abbrev pub thread_faults : List (List Call) → List What
thread_faults threads = where_so (length threads == GREATEST_THREADS) what.Threads

-- the faults of one call more
abbrev pub count_faults : List (List Call) → Call → List What
count_faults threads call =
    where_so (length (all_calls threads) == GREATEST_CALLS) what.Calls
    ++ where_so (is_scan call && (scans_in (all_calls threads) == GREATEST_SCANS)) what.Scans

-- the calls of threads that a script may have, or of the first of them
pub record AreCalls (threads : List (List Call)) : Type 0 where
  pub each : AllByRecursion (AllByRecursion CallFits) threads
  pub threads_few : length threads ≤ GREATEST_THREADS
  pub few : length (all_calls threads) ≤ GREATEST_CALLS
  pub scans : scans_in (all_calls threads) ≤ GREATEST_SCANS

-- so many calls, and so many scans among them
pub record AreCounted (threads : List (List Call)) (calls scans : ℕ) : Type 0 where
  pub are : AreCalls threads
  pub calls_are : calls ≡ length (all_calls threads)
  pub scans_are : scans ≡ scans_in (all_calls threads)

-- the last thread has a call more
abbrev pub with_call : List (List Call) → Call → List (List Call)
with_call [] call = []
with_call (calls ∷ []) call = (calls ++ call ∷ []) ∷ []
with_call (calls ∷ next ∷ more) call = calls ∷ with_call (next ∷ more) call

-- the lines before the first `thread` line, with the `shape` line or without it
abbrev pub opening : Option Sizes → List Words
opening None = oak_line ∷ []
opening (Some s) = oak_line ∷ shape_line s ∷ []

-- the lines that were taken
abbrev pub so_far : Stage → List (List Call) → List Words
so_far Start threads = []
so_far Headed threads = oak_line ∷ []
so_far (Shaped s) threads = oak_line ∷ shape_line s ∷ []
so_far (Opened shape) threads = opening shape ++ flat_map thread_lines threads
so_far (Ended shape) threads = (opening shape ++ flat_map thread_lines threads) ++ end_line ∷ []

-- how many `shape` lines were taken
abbrev pub shapes_in : Option Sizes → ℕ
shapes_in None = 0
shapes_in (Some s) = 1

-- how many lines the threads have, and so many more
abbrev pub lines_in : List (List Call) → ℕ → ℕ
lines_in [] more = more
lines_in (calls ∷ threads) more = suc (length calls + lines_in threads more)

-- what the rows ask of them
abbrev pub past_at : Stage → List (List Call) → Past
past_at Start threads = record { lines = 0; threads = 0; ends = 0; calls = 0; scans = 0 }
past_at Headed threads = record { lines = 1; threads = 0; ends = 0; calls = 0; scans = 0 }
past_at (Shaped s) threads = record { lines = 2; threads = 0; ends = 0; calls = 0; scans = 0 }
past_at (Opened shape) threads = record { lines = suc (lines_in threads (shapes_in shape)); threads = length threads; ends = 0; calls = length (all_calls threads); scans = scans_in (all_calls threads) }
past_at (Ended shape) threads = record { lines = suc (suc (lines_in threads (shapes_in shape))); threads = length threads; ends = 1; calls = length (all_calls threads); scans = scans_in (all_calls threads) }

-- threads come behind the first `thread` line alone, and sizes fit
abbrev pub CallsFit : Stage → List (List Call) → Type 0
CallsFit Start threads = threads ≡ []
CallsFit Headed threads = threads ≡ []
CallsFit (Shaped s) threads = (threads ≡ []) × SizesFit s
CallsFit (Opened shape) threads = (0 < length threads) × AreCalls threads × IfSome shape SizesFit
CallsFit (Ended shape) threads = (0 < length threads) × AreCalls threads × IfSome shape SizesFit

-- the sizes that a script asks for by its `shape` line, or without one
abbrev pub sizes_for : Option Sizes → ℕ → Sizes
sizes_for None threads = default_sizes threads
sizes_for (Some s) threads = record s { passes = threads + 1 }

-- none of these lines has a fault
abbrev pub AreFine : List Words → Type 0
AreFine lines = (k : ℕ) → k < length lines → faults_at lines k ≡ []

-- the first line that was left was taken, and has no fault
pub record Took (before : List Words) (left : List (List ℕ)) (after : List Words) (rest : List (List ℕ)) : Type 0 where
  pub line : List ℕ
  pub first : left ≡ line ∷ rest
  pub fine : faults (past_of before) (Some (words_of line)) ≡ []
  pub grown : after ≡ before ++ words_of line ∷ []

-- the first line that was left has a fault, and this is its first, or memory ran out
abbrev pub StopsAt : Stop → List Words → List (List ℕ) → Type 0
StopsAt OutOfMemory before left = ⊤
StopsAt (Fault w) before [] = ⊥
StopsAt (Fault w) before (line ∷ more) = Stops (Fault w) (faults (past_of before) (Some (words_of line)))
