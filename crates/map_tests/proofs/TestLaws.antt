-- What each call of the tests leaves of their pass.
use Rattle.std.proofs.Common.{◌≡◌, ℕ, ◌<◌, ◌≤◌, List, Result, Ok, Err, IfOk, IfErr, sym, ap, ◌∙◌, subst}
use Rattle.oak_model.specs.declared.cells.CellCall.{CellCall}
use Rattle.oak_model.specs.declared.replies.Wrote.{Wrote}
use Rattle.oak_model.specs.Counts.{Each, one_at, total}
use Rattle.oak_model.specs.Limits.{Sizes}
use Rattle.oak_core.specs.declared.states.KeyedWrite.{KeyedWrite}
use Rattle.oak_core.specs.declared.states.Numbers.{Numbers}
use Rattle.oak_core.specs.declared.states.PassState.{PassState}
use Rattle.oak_core.specs.PassState.{IsAlone, rooted}
use Rattle.point_ops.specs.declared.halts.Halt.TheVariants as halts
use Rattle.point_ops.specs.Parts.{WroteFits}
use Rattle.point_ops.specs.TestStates.{IsReady, IsReadyAgain}
use Rattle.point_ops.proofs.TestLaws.{wrote_again}
use Rattle.oak_map.specs.declared.answers.Busy.{Busy}
use Rattle.oak_map.specs.GivingUp.{TriesInVain}
use Rattle.oak_map.specs.Replying.{PutFits, Tries}
use Rattle.oak_map.specs.Stopping.{StopsTrying}
use Rattle.oak_map.proofs.TestLaws.{put_again}

-- a call on one key that may give up
pub changed_again : (y : Result Wrote Busy) (P : PassState → PassState → Type 0) (call looks : ℕ) (key : List ℕ) (ask : CellCall) (v w : PassState) → IfOk y (λ x. WroteFits x call key ask v w) → IfErr y (λ _. TriesInVain P call looks v w) → IsReady call v → IsReadyAgain call v w
changed_again (Ok x) P call looks key ask v w f g r = wrote_again (Ok x) call key ask v w f tt r
changed_again (Err b) P call looks key ask v w f g r = wrote_again (Err halts.Busy) call key ask v w tt g.refused r

-- a put that stopped trying wrote nothing
tries_again : (z : Sizes) (call : ℕ) (v w : PassState) → Tries z call v w → IsReady call v → IsReadyAgain call v w
tries_again z call v w t r = record {
  numbers = t.holds.numbers;
  loaded = t.goes.loaded;
  ready = record {
    idle = record { hand = ap (λ (n : Numbers). n.hand) t.holds.numbers ∙ r.idle.hand; blocks = t.holds.blocks ∙ r.idle.blocks; headers = t.holds.headers ∙ r.idle.headers; rooms = t.holds.rooms ∙ r.idle.rooms };
    wrote = subst (Each (λ (x : KeyedWrite). x.write.call ≤ call)) (sym t.mine) r.wrote;
  };
}

pub tried_again : {E : Type 0} (r : Result Wrote E) (z : Sizes) (call looks : ℕ) (key : List ℕ) (ask : CellCall) (v w : PassState) → IfOk r (λ x. PutFits x z call key ask v w) → IfErr r (λ _. StopsTrying z call looks key ask v w) → IsReady call v → IsReadyAgain call v w
tried_again (Ok y) z call looks key ask v w f g r = put_again y z call key ask v w f r
tried_again (Err e) z call looks key ask v w f g r = tries_again z call v w g.tries r

-- a pass that was alone, and has the numbers that it had, is so still
pub alone_still : (v w : PassState) → w.numbers ≡ v.numbers → IsAlone v → IsAlone w
alone_still v w same alone = record {
  first = subst (λ (n : Numbers). 0 < rooted 0 n) (sym same) alone.first;
  others = subst (λ (n : Numbers). (k : ℕ) → 0 < total (λ (m : ℕ). one_at m k) n.made → 0 < rooted k n) (sym same) alone.others;
}
