-- A call that puts goes on after it made way, where its pass is alone.
use Rattle.std.proofs.Common.{◌≡◌, ℕ, ◌≤◌, Bool, List, Option, Some, None, inl, inr, ⊎_elim, ap, ◌∙◌, subst, arith}
use Rattle.oak_model.specs.declared.cells.CellCall.{CellCall}
use Rattle.oak_model.specs.declared.replies.Lack.{Lack}
use Rattle.oak_model.specs.declared.replies.Lack.TheVariants.{Block, Header, Room}
use Rattle.oak_model.specs.Cell.{state_after}
use Rattle.oak_model.specs.Limits.{Sizes}
use Rattle.oak_core.specs.declared.states.PassState.{PassState}
use Rattle.oak_core.specs.AloneWords.{LeavesWords, Runs}
use Rattle.oak_core.specs.PassState.{IsAlone, seen_of}
use Rattle.point_ops.specs.declared.halts.Halt.{Halt}
use Rattle.point_ops.specs.declared.halts.Halt.TheVariants.{Busy, Moved, Crowded, NoBlock, NoHeader}
use Rattle.point_ops.specs.LonePuts.{LoneHalts}
use Rattle.point_ops.specs.LoneReplies.{SameAlone, SeesWhole}
use Rattle.point_ops.proofs.LoneHistories.{alone_later}
use Rattle.oak_map.specs.LoneRetrying.{LoneGoing, Retries, StaysSettled}
use Rattle.oak_map.specs.MakingRoom.{MakesWay}
use Rattle.oak_map.proofs.LoneWays.{NothingLacks, settles_then, ways_on}
use Rattle.oak_map.proofs.WordsThrough.{halts_somewhere, runs_through}

-- it learned nothing while it made way
way_learns : (halt : Halt) (z : Sizes) (call : ℕ) (key : List ℕ) (settled then : Bool) (result : Option Lack) (w x : PassState) → result ≡ None → MakesWay halt z call key settled then result w x → x.knowledge ≡ w.knowledge
way_learns Busy z call key settled then result w x none m = ap (λ (y : PassState). y.knowledge) m.1
way_learns Moved z call key settled then result w x none m = ap (λ (y : PassState). y.knowledge) m.1
way_learns (NoBlock k) z call key settled then result w x none m = (settles_then z call settled then (Block k) result w x m none).leaves.knowledge
way_learns NoHeader z call key settled then result w x none m = (settles_then z call settled then Header result w x m none).leaves.knowledge
way_learns Crowded z call key settled then result w x none (inl (again, inl g)) = g.1.leaves.knowledge
way_learns Crowded z call key settled then result w x none (inl (again, inr (inl s))) = s.compacts.leaves.knowledge
way_learns Crowded z call key settled then result w x none (inl (again, inr (inr (room, t, h, o)))) = o.stands.knowledge ∙ h.leaves.knowledge
way_learns Crowded z call key settled then result w x none (inr (t, f, r)) = (settles_then z call settled then Room result t x r none).leaves.knowledge ∙ f.compacts.leaves.knowledge

-- the call began at u, its last try, from v to w, was refused, and it made way until x
module _ (z : Sizes) (call : ℕ) (key value : List ℕ) (ask : CellCall) (halt : Halt) (settled then : Bool) (result : Option Lack) (u v w x : PassState) (makes : state_after None ask ≡ Some value) (numbers : v.numbers ≡ u.numbers)
    (lacks : halt ≡ Crowded → IsAlone u → (b c : List ℕ) → LeavesWords c w → LoneHalts Crowded z key value b c → StaysSettled z key ask u c → NothingLacks z key value u c)
    (going : LoneGoing z key ask settled u v) (same : SameAlone z v w) (halts : Runs (LoneHalts halt z key value) v w) (way : MakesWay halt z call key settled then result w x) (none : result ≡ None) where
  some_entries : IsAlone u → 2 ≤ z.entries
  some_entries alone = let l = (same (alone_later u v numbers alone)).ended.moment.rule.sizes.entries_least in omega arith

  begun : IsAlone u → SeesWhole z u
  begun alone = ⊎_elim (λ (e : v ≡ u). subst (SeesWhole z) e (same (alone_later u v numbers alone)).begun) (λ (f : IsAlone u → SeesWhole z u). f alone) going.begun

  pub lone_goes_on : LoneGoing z key ask then u x
  lone_goes_on = record {
    begun = inr begun;
    seen = λ alone q. ap (seen_of q) (way_learns halt z call key settled then result w x none way) ∙ ((same (alone_later u v numbers alone)).same q ∙ going.seen alone q);
    runs = runs_through (Retries z key ask settled u) (LoneHalts halt z key value) (Retries z key ask then u) u v w x (halts_somewhere halt z key value)
        (λ a b c l p q. ways_on z call key value ask settled then result u v w x makes some_entries a b c l p halt (λ e alone h s. lacks e alone b c l h s) none way q) going.runs halts;
  }
