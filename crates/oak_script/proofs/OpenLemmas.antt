-- The faults of a line behind the first `thread` line.
use Rattle.std.proofs.Common.{◌≡◌, ◌<◌, false, List, [], ◌∷◌, ◌++◌, length, Option, Some, None, eqb, ◌&&◌, refl, subst, ◌∙◌, arith, append_assoc}
use Rattle.std.proofs.lemmas.List.{append-nil}
use Rattle.oak_script.specs.declared.limits.TheConstants.{GREATEST_CALLS, GREATEST_SCANS}
use Rattle.oak_script.specs.declared.faults.What.{What}
use Rattle.oak_script.specs.declared.faults.What.TheVariants as what
use Rattle.oak_model.specs.Limits.{Sizes}
use Rattle.oak_script.specs.Grammar.{thread_line, end_line, call_words, scans_in, all_calls}
use Rattle.oak_script.specs.declared.scripts.Call.{Call}
use Rattle.oak_script.specs.declared.stops.Stop.{Stop}
use Rattle.oak_script.specs.declared.stages.Stage.TheVariants.{Opened}
use Rattle.oak_script.specs.Lines.{Words}
use Rattle.oak_script.specs.Forms.{is_thread, is_end, is_call, is_scan_line}
use Rattle.oak_script.specs.Faults.{Here, faults, where_so}
use Rattle.oak_script.specs.Stops.{Stops}
use Rattle.oak_script.specs.Reading.{line_faults, thread_faults, count_faults, past_at}
use Rattle.oak_script.proofs.StopLemmas.{stops_more}
use Rattle.oak_script.proofs.PastLemmas.{call-call, call-scan}

abbrev pub line_counts : List (List Call) → Words → List What
line_counts threads line =
    where_so (is_call line && eqb (length (all_calls threads)) GREATEST_CALLS) what.Calls
    ++ where_so (is_scan_line line && eqb (scans_in (all_calls threads)) GREATEST_SCANS) what.Scans

-- whether a `shape` line came makes no difference
pub open-same : (shape : Option Sizes) (threads : List (List Call)) (here : Here) → 0 < length threads → faults (past_at (Opened None) threads) here ≡ faults (past_at (Opened shape) threads) here
open-same shape [] here some = absurd (omega arith)
open-same shape (t ∷ ts) here some = refl

pub open-thread : (shape : Option Sizes) (threads : List (List Call)) → 0 < length threads → faults (past_at (Opened shape) threads) (Some thread_line) ≡ thread_faults threads
open-thread shape [] some = absurd (omega arith)
open-thread shape (t ∷ ts) some = append-nil (thread_faults (t ∷ ts))

pub open-end : (shape : Option Sizes) (threads : List (List Call)) → 0 < length threads → faults (past_at (Opened shape) threads) (Some end_line) ≡ []
open-end shape [] some = absurd (omega arith)
open-end shape (t ∷ ts) some = refl

pub open-line : (shape : Option Sizes) (threads : List (List Call)) (line : Words) → 0 < length threads → is_thread line ≡ false → is_end line ≡ false → faults (past_at (Opened shape) threads) (Some line) ≡ line_faults line ++ line_counts threads line
open-line shape [] line some thread end_ = absurd (omega arith)
open-line shape (t ∷ ts) line some thread end_ = rw (thread, end_) (simp (append_assoc, append-nil))

pub open_stops : (shape : Option Sizes) (threads : List (List Call)) (line : Words) (e : Stop) → 0 < length threads → is_thread line ≡ false → is_end line ≡ false → Stops e (line_faults line) → Stops e (faults (past_at (Opened shape) threads) (Some line))
open_stops shape threads line e some thread end_ h = rw (open-line shape threads line some thread end_) (stops_more e (line_faults line) (line_counts threads line) h)

-- the counts of a line that spells a call
counts-of : (threads : List (List Call)) (line : Words) (c : Call) → call_words c ≡ line → line_counts threads line ≡ count_faults threads c
counts-of threads line c is = subst (λ (l : Words). line_counts threads l ≡ count_faults threads c) is (rw (call-scan c, call-call c) refl)

pub open-called : (shape : Option Sizes) (threads : List (List Call)) (line : Words) (c : Call) → 0 < length threads → is_thread line ≡ false → is_end line ≡ false → call_words c ≡ line → line_faults line ≡ [] → faults (past_at (Opened shape) threads) (Some line) ≡ count_faults threads c
open-called shape threads line c some thread end_ is none = open-line shape threads line some thread end_ ∙ rw none (counts-of threads line c is)
