-- The end of a run of one thread: its pass is the only one from the first call on, and settles, scans and closes.
use Rattle.std.proofs.Common.{◌≡◌, ℕ, ◌+◌, ◌≤◌, List, [], ◌∷◌, length, sym, ◌∙◌, subst}
use Rattle.oak_model.specs.declared.replies.Pair.{Pair}
use Rattle.oak_model.specs.declared.replies.Reply.{Reply}
use Rattle.oak_model.specs.Limits.{Sizes}
use Rattle.chunk_ops.specs.RoomPins.{HadMoment}
use Rattle.oak_core.specs.declared.closing.Closed.{Closed}
use Rattle.oak_core.specs.declared.states.PassState.{PassState}
use Rattle.oak_core.specs.AloneWords.{LeavesWords}
use Rattle.oak_core.specs.CallSteps.{MetMore}
use Rattle.oak_core.proofs.calls.CallSteps.{met_both}
use Rattle.oak_core.specs.Closing.{closed_key, closed_state, closed_words}
use Rattle.oak_core.specs.PassState.{IsAlone}
use Rattle.oak_core.specs.Splitting.{Ends}
use Rattle.oak_map.specs.Closings.{UsesJustMap}
use Rattle.oak_map.proofs.ClosedMaps.{settled_leaves, still_leaves}
use Rattle.oak_script.specs.declared.scripts.Call.{Call}
use Rattle.rebalance.specs.LoneCalls.{IsSettled}
use Rattle.scan_cursor.specs.Views.{view_of}
use Rattle.oak_run.specs.declared.worker.Answered.{Answered}
use Rattle.oak_run.specs.ClosedRuns.{closing_of}
use Rattle.oak_run.specs.EndsRun.{EndsRun}
use Rattle.oak_run.specs.FullsExactly.{FullsExactly}
use Rattle.oak_run.specs.LoneCalls.{LoneCalls}
use Rattle.oak_run.specs.MapThreads.{ThreadFits}
use Rattle.oak_run.specs.Reads.{IsOnlyThread, OnlyReads}
use Rattle.oak_run.specs.RunFits.{RunFits}
use Rattle.oak_run.specs.ScriptRun.{RunsThreads}
use Rattle.oak_run.specs.Workers.{AnswersThread}
use Rattle.oak_run.proofs.ExactFulls.{fulls_exactly}
use Rattle.oak_run.proofs.LoneRuns.{lone_run_fits}
use Rattle.oak_run.proofs.OnlyThreads.{only_still}
use Rattle.oak_run.proofs.ReadsLaws.{learns_reads, leaves_reads, reads_itself, reads_then}

-- what the closed map has in use, where the pass was alone from the settling on
pub uses_just : (z : Sizes) (call : ℕ) (v : PassState) (finals : List Pair) (c : Closed) → IsAlone v → EndsRun z call v finals c → UsesJustMap c
uses_just z call v finals c alone e =
    let left : (words : List ℕ) × LeavesWords words e.settled × IsSettled z words = settled_leaves z e.settling v e.settled alone e.settles in
    e.uses left.0 (still_leaves left.0 e.settled (closed_state c) left.1 e.scan.still) left.2

-- behind the calls it only read
pub reads_behind : (z : Sizes) (call : ℕ) (v : PassState) (finals : List Pair) (c : Closed) → EndsRun z call v finals c → OnlyReads v (closed_state c)
reads_behind z call v finals c e = reads_then v e.settled (closed_state c) (leaves_reads e.settling v e.settled e.settles.leaves) (learns_reads e.begun e.settled (closed_state c) e.scan.later.learns)

-- and all that it met there is of the call in which it ended
met_behind : (z : Sizes) (call : ℕ) (v : PassState) (finals : List Pair) (c : Closed) → EndsRun z call v finals c → MetMore call v (closed_state c)
met_behind z call v finals c e = met_both call v e.settled (closed_state c) (subst (λ (n : ℕ). MetMore n v e.settled) e.settled_in e.settles.leaves.met) (subst (λ (n : ℕ). MetMore n e.settled (closed_state c)) e.scanned_in e.scan.later.learns.met)

-- first is the state of the pass before the calls, v the one behind them
pub lone_run : (z shape : Sizes) (last : ℕ) (first v : PassState) (cs : List Call) (a : Answered) (finals : List Pair) (c : Closed) → z ≡ shape → 1 + length cs ≤ last → IsOnlyThread first → first.knowledge.mine ≡ [] → v.numbers ≡ first.numbers
    → AnswersThread z v cs a → LoneCalls z 1 first cs a.replies.items v → EndsRun z last v finals c → RunsThreads shape (cs ∷ []) (a ∷ []) finals c
lone_run z shape last first v cs a finals c same few only none still answers lone e = record {
  fits = subst (λ (s : Sizes). RunFits (closing_of c) s (cs ∷ []) (a.replies.items ∷ []) finals) (e.key ∙ same)
      (lone_run_fits c v cs a.replies.items (view_of z e.begun e.settled) (view_of z e.ended (closed_state c)) finals (subst (λ (y : Sizes). ThreadFits y v cs a.replies.items) (sym e.key) answers.fits) now (leaves_reads e.settling v e.settled e.settles.leaves)
      (subst (λ (y : Sizes). HadMoment y e.settled) (sym e.key) e.settles.ended) e.scan (reads_itself (closed_state c)) e.idle here (uses_just z last v finals c now.alone e));
  counted = (answers.counted, tt);
  exact = λ calls replies calls_are replies_are. subst (λ (l : List Call × List Reply). FullsExactly c 1 l.0 l.1) (λ i. (one_of calls_are i, one_of replies_are i)) exactly;
  noted = e.noted;
  ends = here;
  places = e.places;
}
  where
    one_of : {A : Type 0} {x y : A} → (x ∷ []) ≡ (y ∷ []) → x ≡ y
    one_of e = cc

    now : IsOnlyThread v
    now = only_still first v still only

    here : Ends (closed_key c) (closed_words c) (closed_state c)
    here = subst (λ (y : Sizes). Ends y (closed_words c) (closed_state c)) (sym e.key) e.ends

    exactly : FullsExactly c 1 cs a.replies.items
    exactly = fulls_exactly c last first v cs a.replies.items few only none (subst (λ (s : Sizes). LoneCalls s 1 first cs a.replies.items v) (sym e.key) lone) (reads_behind z last v finals c e) (met_behind z last v finals c e) here
