-- What a recipe says of what it was fed, through the parts of a call.
use Rattle.std.proofs.Common.{◌≡◌, ℕ, ◌-◌, List, length, Result, Ok, Err, Some, true, sym, ◌∙◌, subst, IfOk}
use Rattle.oak_model.specs.declared.replies.Wrote.{Wrote}
use Rattle.oak_model.specs.declared.replies.Wrote.TheVariants.{New, Over, Kept, Done, Removed, Absent, Full}
use Rattle.oak_model.specs.declared.writes.Kind.{Kind}
use Rattle.oak_model.specs.declared.cells.CellCall.{CellCall}
use Rattle.oak_model.specs.Limits.{Sizes}
use Rattle.oak_model.specs.History.{state_at}
use Rattle.oak_model.specs.State.{State}
use Rattle.oak_core.specs.declared.states.KeyedWrite.{KeyedWrite}
use Rattle.oak_core.specs.declared.states.Knowledge.{Knowledge}
use Rattle.oak_core.specs.declared.states.PassState.{PassState}
use Rattle.oak_core.specs.KeyHistories.{writes_of}
use Rattle.oak_core.specs.PassState.{Extends, IsAlone, seen_of}
use Rattle.oak_model.specs.KeyNumber.{key_number}
use Rattle.value_ops.specs.Recipes.{SaysTheSame}
use Rattle.point_ops.specs.Counted.{FedLast, FedReplaced, Feeds, FeedsAlone, state_replaced, times_done}
use Rattle.point_ops.specs.LoneReplies.{SeesWhole, WroteAlone}
use Rattle.point_ops.specs.Parts.{WritesAt, WroteFits}
use Rattle.point_ops.specs.Replies.{MineAfter}
use Rattle.point_ops.specs.declared.halts.Halt.{Halt}
use Rattle.point_ops.proofs.LoneAnswers.{state_before}
use Rattle.point_ops.proofs.LoneHistories.{seen_wrote}

pub says_same : (says : List ℕ → Type 0) → SaysTheSame says says
says_same says = λ bytes. (λ p. p, λ p. p)

pub says_both : (a b c : List ℕ → Type 0) → SaysTheSame a b → SaysTheSame b c → SaysTheSame a c
says_both a b c first second = λ bytes. (λ p. (second bytes).0 ((first bytes).0 p), λ p. (first bytes).1 ((second bytes).1 p))

-- a write was made on the state that it replaced
pub replaced_by : (call : ℕ) (key : List ℕ) (kind : Kind) (before after : State) (at : ℕ) (v w : PassState) → WritesAt call key kind before after at v w → state_replaced key w ≡ before
replaced_by call key kind before after at v w x = let y = x.writes in subst (λ (l : List KeyedWrite). state_at (writes_of l) (length l - 1) ≡ before) (sym y.ends) (state_before y.rest y.write ∙ y.state)

-- a call that is not done fed nothing
pub feeds_none : (y : Result Wrote Halt) (key : List ℕ) (was now : List ℕ → Type 0) (w : PassState) → times_done y ≡ 0 → SaysTheSame was now → Feeds y key was now w
feeds_none (Ok (New at)) key was now w e s = s
feeds_none (Ok (Over at)) key was now w e s = s
feeds_none (Ok (Kept at)) key was now w e s = s
feeds_none (Ok (Done at)) key was now w e s = absurd cc
feeds_none (Ok (Removed at)) key was now w e s = s
feeds_none (Ok (Absent at)) key was now w e s = s
feeds_none (Ok (Full lack)) key was now w e s = s
feeds_none (Err why) key was now w e s = s

-- nothing was learned behind it
pub feeds_until : (y : Result Wrote Halt) (key : List ℕ) (was now : List ℕ → Type 0) (w x : PassState) → x.knowledge ≡ w.knowledge → Feeds y key was now w → Feeds y key was now x
feeds_until (Ok (New at)) key was now w x e f = f
feeds_until (Ok (Over at)) key was now w x e f = f
feeds_until (Ok (Kept at)) key was now w x e f = f
feeds_until (Ok (Done at)) key was now w x e f = record { bytes = f.bytes; held = subst (λ (q : Knowledge). state_at (writes_of (seen_of (key_number key) q)) (length (seen_of (key_number key) q) - 1) ≡ Some f.bytes) (sym e) f.held; said = f.said }
feeds_until (Ok (Removed at)) key was now w x e f = f
feeds_until (Ok (Absent at)) key was now w x e f = f
feeds_until (Ok (Full lack)) key was now w x e f = f
feeds_until (Err why) key was now w x e f = f

-- nothing was fed before it
pub feeds_since : (y : Result Wrote Halt) (key : List ℕ) (was then now : List ℕ → Type 0) (w : PassState) → SaysTheSame was then → Feeds y key then now w → Feeds y key was now w
feeds_since (Ok (New at)) key was then now w s f = says_both was then now s f
feeds_since (Ok (Over at)) key was then now w s f = says_both was then now s f
feeds_since (Ok (Kept at)) key was then now w s f = says_both was then now s f
feeds_since (Ok (Done at)) key was then now w s f = f
feeds_since (Ok (Removed at)) key was then now w s f = says_both was then now s f
feeds_since (Ok (Absent at)) key was then now w s f = says_both was then now s f
feeds_since (Ok (Full lack)) key was then now w s f = says_both was then now s f
feeds_since (Err why) key was then now w s f = says_both was then now s f

-- ---- to a pass that is alone

-- a write of the call replaced what the pass had seen last of the key
pub fed_last : (z : Sizes) (call : ℕ) (key : List ℕ) (at : ℕ) (now : List ℕ → Type 0) (v w : PassState) → IsAlone v → SeesWhole z v → w.numbers ≡ v.numbers → Extends v w → SeesWhole z w → MineAfter true call (key_number key) at v w → FedReplaced key now w → FedLast key now v
fed_last z call key at now v w alone begun numbers seen ended mine f = record {
  bytes = f.bytes;
  held = sym (state_before (seen_of (key_number key) v.knowledge) mine.0) ∙ subst (λ (l : List KeyedWrite). state_at (writes_of l) (length l - 1) ≡ Some f.bytes)
      (seen_wrote z v w alone begun numbers seen ended (key_number key) mine.0 mine.1 mine.2.0 mine.2.1) f.held;
  said = f.said;
}

pub feeds_alone : (y : Result Wrote Halt) (z : Sizes) (call : ℕ) (key : List ℕ) (ask : CellCall) (was now : List ℕ → Type 0) (v w : PassState) → IsAlone v → IfOk y (λ x. WroteFits x call key ask v w) → IfOk y (λ x. IsAlone v → WroteAlone x z key ask v w) → Feeds y key was now w → FeedsAlone y key now v
feeds_alone (Ok (New at)) z call key ask was now v w alone r a f = tt
feeds_alone (Ok (Over at)) z call key ask was now v w alone r a f = tt
feeds_alone (Ok (Kept at)) z call key ask was now v w alone r a f = tt
feeds_alone (Ok (Done at)) z call key ask was now v w alone r a f = fed_last z call key at now v w alone (a alone).begun r.holds.numbers r.goes.seen (a alone).ended r.mine f
feeds_alone (Ok (Removed at)) z call key ask was now v w alone r a f = tt
feeds_alone (Ok (Absent at)) z call key ask was now v w alone r a f = tt
feeds_alone (Ok (Full lack)) z call key ask was now v w alone r a f = tt
feeds_alone (Err why) z call key ask was now v w alone r a f = tt
