-- The end of a run of threads: the pass into which they were joined is alone, and settles, scans and closes.
use Rattle.std.proofs.Common.{◌≡◌, ℕ, List, length, sym, ap, subst}
use Rattle.std.specs.Prelude.{◌≢◌}
use Rattle.oak_model.specs.declared.replies.Pair.{Pair}
use Rattle.oak_model.specs.declared.replies.Reply.{Reply}
use Rattle.oak_model.specs.Limits.{Sizes}
use Rattle.chunk_ops.specs.RoomPins.{HadMoment}
use Rattle.oak_core.specs.declared.closing.Closed.{Closed}
use Rattle.oak_core.specs.declared.states.PassState.{PassState}
use Rattle.oak_core.specs.Closing.{closed_state, closed_words}
use Rattle.oak_core.specs.PassState.{IsAlone}
use Rattle.oak_core.specs.Splitting.{Ends}
use Rattle.oak_script.specs.declared.scripts.Call.{Call}
use Rattle.scan_cursor.specs.Views.{view_of}
use Rattle.oak_run.specs.declared.worker.Answered.{Answered}
use Rattle.oak_run.specs.ClosedRuns.{closing_of}
use Rattle.oak_run.specs.EndsRun.{EndsRun}
use Rattle.oak_run.specs.RunFits.{RunFits}
use Rattle.oak_run.specs.ScriptRun.{RunsThreads}
use Rattle.oak_run.specs.ThreadsRun.{AllCame, EachFits, joined_all}
use Rattle.oak_run.specs.Workers.{replies_in}
use Rattle.oak_run.proofs.LoneEnds.{reads_behind, uses_just}
use Rattle.oak_run.proofs.ReadsLaws.{leaves_reads, leaves_seen, reads_itself}
use Rattle.oak_run.proofs.SawBefore.{alone_before}
use Rattle.oak_run.proofs.ThreadsRuns.{threads_run_fit}

-- v is the state of the pass behind all joins
threads_fit : (z : Sizes) (call : ℕ) (v : PassState) (threads : List (List Call)) (answers : List Answered) (finals : List Pair) (c : Closed) → AllCame z v threads answers → IsAlone v → EndsRun z call v finals c → RunFits (closing_of c) z threads (replies_in answers) finals
threads_fit z call v threads answers finals c came alone ended =
    subst (λ (l : Sizes × (List (List Call) × List (List Reply))). RunFits (closing_of c) l.0 l.1.0 l.1.1 finals) (λ i. (e.key i, (came.calls_are i, came.replies_are i)))
    (threads_run_fit c came.first came.ends (view_of z e.begun e.settled) (view_of z e.ended (closed_state c)) finals came.number came.joined_before came.unwritten came.numbered (subst (λ (y : Sizes). EachFits y came.ends) (sym e.key) came.fit)
    (leaves_reads e.settling (joined_all came.first came.ends) e.settled e.settles.leaves) (leaves_seen e.settling (joined_all came.first came.ends) e.settled e.settles.leaves) (subst (λ (y : Sizes). HadMoment y e.settled) (sym e.key) e.settles.ended) e.scan
    (reads_itself (closed_state c)) (alone_before (closed_state c) (joined_all came.first came.ends) (sym (reads_behind z call (joined_all came.first came.ends) finals c e).numbers) alone_all) e.idle (subst (λ (y : Sizes). Ends y (closed_words c) (closed_state c)) (sym e.key) e.ends) (uses_just z call (joined_all came.first came.ends) finals c alone_all e))
  where
    e : EndsRun z call (joined_all came.first came.ends) finals c
    e = subst (λ (u : PassState). EndsRun z call u finals c) came.joined ended

    alone_all : IsAlone (joined_all came.first came.ends)
    alone_all = subst IsAlone came.joined alone

-- they are not one alone
pub threads_end : (z shape : Sizes) (call : ℕ) (v : PassState) (threads : List (List Call)) (answers : List Answered) (finals : List Pair) (c : Closed) → z ≡ shape → length threads ≢ 1 → AllCame z v threads answers → IsAlone v → EndsRun z call v finals c
    → RunsThreads shape threads answers finals c
threads_end z shape call v threads answers finals c same several came alone ended = record {
  fits = subst (λ (s : Sizes). RunFits (closing_of c) s threads (replies_in answers) finals) same (threads_fit z call v threads answers finals c came alone ended);
  counted = came.counted;
  exact = λ calls replies calls_are replies_are. absurd (several (ap length calls_are));
  noted = ended.noted;
  ends = subst (λ (y : Sizes). Ends y (closed_words c) (closed_state c)) (sym ended.key) ended.ends;
  places = ended.places;
}
