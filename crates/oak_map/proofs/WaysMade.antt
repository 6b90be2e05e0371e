-- What a call that puts did for another try.
use Rattle.std.proofs.Common.{ℕ, Bool, Option, Some, None, IfNone, inl, inr, refl, sym, subst}
use Rattle.std.specs.Prelude.{List}
use Rattle.oak_model.specs.declared.replies.Lack.{Lack}
use Rattle.oak_model.specs.declared.replies.Lack.TheVariants.{Block, Header, Room}
use Rattle.oak_model.specs.Limits.{Sizes}
use Rattle.oak_core.specs.declared.states.PassState.{PassState}
use Rattle.oak_core.proofs.covers.FullClaims.{claims_none}
use Rattle.chunk_ops.specs.PinRecords.{OnlyMeets}
use Rattle.point_ops.specs.declared.halts.Halt.{Halt}
use Rattle.oak_map.specs.declared.going_on.Way.TheVariants.{Halted, Loosened, Opened}
use Rattle.oak_map.specs.MakingRoom.{FindsBusy, FindsWay, IsLacking, IsRefused, MakesWay, TriesAgain}
use Rattle.oak_map.specs.Replying.{Tries}
use Rattle.oak_map.proofs.GoingCalls.{waits_way}
use Rattle.oak_map.proofs.LoneWays.{settles_then}
use Rattle.oak_map.proofs.Trying.{tries_both, tries_leaves, tries_none}

module _ (z : Sizes) (call : ℕ) (key : List ℕ) (halt : Halt) (w x : PassState) where
  -- ---- it tried, in so far

  pub halted_tries : FindsWay Halted halt z call key w x → Tries z call w x
  halted_tries (e, f) = subst (Tries z call w) (sym f) (tries_none z call w)

  pub loosened_tries : FindsWay Loosened halt z call key w x → Tries z call w x
  loosened_tries (e, s) = tries_leaves z call w x s.compacts.leaves s.compacts.claims

  pub opened_tries : (room : ℕ) → FindsWay (Opened room) halt z call key w x → Tries z call w x
  opened_tries room (e, h) = tries_leaves z call w x h.leaves h.claims

  pub busy_tries : (looks : ℕ) → FindsBusy halt z call looks key w x → Tries z call w x
  busy_tries looks (e, g) = tries_leaves z call w x g.leaves (claims_none z w x g.unclaimed)

  pub lacking_tries : (lack : Lack) → IsLacking lack halt z call key w x → Tries z call w x
  lacking_tries (Block c) (e, f) = subst (Tries z call w) (sym f) (tries_none z call w)
  lacking_tries Header (e, f) = subst (Tries z call w) (sym f) (tries_none z call w)
  lacking_tries Room (e, f) = tries_leaves z call w x f.compacts.leaves f.compacts.claims

  -- where it tries again behind what it lacks, it settled
  pub lacks_rest : (lack : Lack) (y : PassState) → IsLacking lack halt z call key w x → (settled then : Bool) (o : Option Lack) → IsRefused z call settled then lack o x y → IfNone o (Tries z call w y)
  lacks_rest lack y is settled then None r = let s = settles_then z call settled then lack None x y r refl in tries_both z call w x y (lacking_tries lack is) (tries_leaves z call x y s.leaves s.claims)
  lacks_rest lack y is settled then (Some l) r = tt

  -- ---- which way it went

  module _ (settled : Bool) where
    again : TriesAgain settled settled None
    again = record { none = refl; same = refl }

    pub halted_way : FindsWay Halted halt z call key w x → MakesWay halt z call key settled settled None w x
    halted_way (e, f) = subst (λ (s : PassState). MakesWay halt z call key settled settled None w s) (sym f) (waits_way z call key halt settled w e)

    pub loosened_way : FindsWay Loosened halt z call key w x → MakesWay halt z call key settled settled None w x
    loosened_way (e, s) = subst (λ (h : Halt). MakesWay h z call key settled settled None w x) (sym e) (inl (again, inr (inl s)))

    pub busy_way : (looks : ℕ) → FindsBusy halt z call looks key w x → MakesWay halt z call key settled settled None w x
    busy_way looks (e, g) = subst (λ (h : Halt). MakesWay h z call key settled settled None w x) (sym e) (inl (again, inl (looks, g)))

    -- it only met more then
    pub opened_way : (room : ℕ) (y : PassState) → FindsWay (Opened room) halt z call key w x → OnlyMeets call x y → MakesWay halt z call key settled settled None w y
    opened_way room y (e, h) only = subst (λ (h : Halt). MakesWay h z call key settled settled None w y) (sym e) (inl (again, inr (inr (room, x, h, only))))

    -- it settled then, or was noted
    pub lacks_way : (lack : Lack) (then : Bool) (o : Option Lack) (y : PassState) → IsLacking lack halt z call key w x → IsRefused z call settled then lack o x y → MakesWay halt z call key settled then o w y
    lacks_way (Block c) then o y (e, f) r = subst (λ (h : Halt). MakesWay h z call key settled then o w y) (sym e) (subst (λ (s : PassState). IsRefused z call settled then (Block c) o s y) f r)
    lacks_way Header then o y (e, f) r = subst (λ (h : Halt). MakesWay h z call key settled then o w y) (sym e) (subst (λ (s : PassState). IsRefused z call settled then Header o s y) f r)
    lacks_way Room then o y (e, f) r = subst (λ (h : Halt). MakesWay h z call key settled then o w y) (sym e) (inr (x, f, r))
