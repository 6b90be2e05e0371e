-- A value is put over another behind a lock that was given up: what the part behind it did or found, told of the whole call.
use Rattle.std.proofs.Common.{None, ◌≡◌, ◌⊎◌, ℕ, List, length, Result, IfOk, IfErr, Some, sym, ap, subst, inl, inr, ⊎_elim}
use Rattle.std.proofs.lemmas.Result.{IfOk-weaker, IfErr-weaker}
use Rattle.oak_model.specs.declared.classes.Class.{Class}
use Rattle.oak_model.specs.declared.writes.Kind.TheVariants.{Put}
use Rattle.oak_model.specs.Class.{class_of}
use Rattle.oak_model.specs.Limits.{Sizes}
use Rattle.oak_core.specs.declared.states.PassState.{PassState}
use Rattle.oak_core.specs.CallSteps.{Learns, MetMore, Stands}
use Rattle.oak_core.specs.Finding.{LoadsMore}
use Rattle.oak_core.specs.QuietSteps.{MetOnly, Quiet, TookNone}
use Rattle.oak_core.proofs.calls.CallSteps.{learns_both, stands_both, stands_in, stands_learns, met_none}
use Rattle.oak_core.proofs.calls.QuietCalls.{of_took, only_both, quiet_loads, quiet_took}
use Rattle.value_ops.specs.declared.locking.NoLock.TheVariants as no_lock
use Rattle.value_ops.specs.Locking.{LocksHeader}
use Rattle.value_ops.specs.Pinning.{KnowsLife}
use Rattle.value_ops.specs.UnderLock.{GivesUp}
use Rattle.point_ops.specs.declared.halts.Halt.{Halt}
use Rattle.point_ops.specs.declared.halts.Halt.TheVariants.{Busy, NoBlock}
use Rattle.point_ops.specs.Changes.{HasOtherClass, NoLockBy, OverHalts}
use Rattle.point_ops.specs.Halting.{AllTaken}
use Rattle.point_ops.specs.Parts.{WritesAt}
use Rattle.point_ops.proofs.AloneHeld.{gave_up_stands}
use Rattle.point_ops.proofs.Composed.{taken_in}
use Rattle.point_ops.proofs.LocksKept.{load_stands}
use Rattle.point_ops.proofs.NoLockFacts.{refused_behind}
use Rattle.point_ops.proofs.WritesIn.{wrote_behind}

-- loads under a lock that is given up then teach nothing
pub looked_stands : (z : Sizes) (call loaded_at given_at h g stamp : ℕ) (v u w : PassState) → loaded_at ≡ call → given_at ≡ call → LoadsMore z loaded_at v u → GivesUp z given_at h g stamp u w → Stands call v w
looked_stands z call loaded_at given_at h g stamp v u w e d l t = stands_both call v u w (stands_in call loaded_at v u e (load_stands z loaded_at v u l)) (stands_in call given_at u w d (gave_up_stands z given_at h g stamp u w t))

-- nor is a block taken by them, by the lock before them, or by the search for a block behind them that found none
pub looked_took : (z : Sizes) (call loaded_at given_at h g i j stamp : ℕ) (v u y x w : PassState) → LocksHeader z call h g v u → LoadsMore z loaded_at u y → GivesUp z given_at i j stamp y x → Quiet x w → MetOnly TookNone v w
looked_took z call loaded_at given_at h g i j stamp v u y x w a l t q = only_both TookNone v u w (of_took z call v u a.more a.met a.calls) (only_both TookNone u y w (quiet_took u y (quiet_loads z loaded_at u y l))
    (only_both TookNone y x w (of_took z given_at y x t.ends.comes.more (ap (λ (s : PassState). s.findings.met) t.ends.comes.after) t.ends.comes.calls) (quiet_took x w q)))

-- blocks that were found taken in a part of a call
taken_behind : (z : Sizes) (call : ℕ) (c : Class) (u v w : PassState) → MetMore call u v → AllTaken z call c None v w → AllTaken z call c None u w
taken_behind z call c u v w m all = taken_in call u v w w m (met_none call w) z c None all

-- A part of the call, from the second state on, named the call anew.
module _ (call now : ℕ) (same : now ≡ call) where
  -- it learned nothing
  pub stands_learned : (v u w : PassState) (r : Result ℕ Halt) → Learns call v u → IfErr r (λ _. Stands now u w) → IfErr r (λ _. Learns call v w)
  stands_learned v u w r l f = IfErr-weaker r (λ _. Stands now u w) (λ _. Learns call v w) (λ _ s. learns_both call v u w l (stands_learns call u w (stands_in call now u w same s))) f

  module _ (h g : ℕ) (value : List ℕ) (v u w : PassState) where
    abbrev WritesOf : ℕ → PassState → ℕ → Type 0
    WritesOf i x at = (k : List ℕ) → KnowsLife h g k x.knowledge → (b : List ℕ) × WritesAt i k Put (Some b) (Some value) at x w

    -- it wrote the value
    pub over_written : (r : Result ℕ Halt) → Learns call v u → ((k : List ℕ) → KnowsLife h g k v.knowledge → KnowsLife h g k u.knowledge) → IfOk r (λ at. (k : List ℕ) → KnowsLife h g k u.knowledge → (b : List ℕ) × WritesAt now k Put (Some b) (Some value) at u w)
        → IfOk r (λ at. (k : List ℕ) → KnowsLife h g k v.knowledge → (b : List ℕ) × WritesAt call k Put (Some b) (Some value) at v w)
    over_written r l knows f = IfOk-weaker r (WritesOf call u) (WritesOf call v) (λ at all k known. let t = all k (knows k known) in (t.0, wrote_behind call k Put (Some t.0) (Some value) at v u w l t.1)) (subst (λ (i : ℕ). IfOk r (WritesOf i u)) same f)

module _ (z : Sizes) (call now : ℕ) (same : now ≡ call) (h g : ℕ) (value : List ℕ) (v u w : PassState) where
  -- it found no block
  pub no_block_halts : (why : Halt) (c : Class) → MetMore call v u → (why ≡ NoBlock c) × AllTaken z now c None u w → class_of (length value) ≡ Some c → ((key : List ℕ) → KnowsLife h g key v.knowledge → HasOtherClass c key v w) → MetOnly TookNone v w → OverHalts why z call h g value v w
  no_block_halts why c m none fits other took = subst (λ (o : Halt). OverHalts o z call h g value v w) (sym none.0) (taken_behind z call c v u w m (subst (λ (i : ℕ). AllTaken z i c None u w) same none.1), fits, other, took)

  -- it did not lock the header
  abbrev IsUnlocked : ℕ → Halt → Type 0
  IsUnlocked i why = (why ≡ Busy) × (NoLockBy no_lock.Busy z i h g u w ⊎ NoLockBy no_lock.Dead z i h g u w)

  one_unlocked : MetMore call v u → (why : Halt) → IsUnlocked call why → OverHalts why z call h g value v w
  one_unlocked m why none = subst (λ (o : Halt). OverHalts o z call h g value v w) (sym none.0)
      (⊎_elim (λ (f : NoLockBy no_lock.Busy z call h g u w). inl (refused_behind z call h g no_lock.Busy v u w m f)) (λ (f : NoLockBy no_lock.Dead z call h g u w). inr (refused_behind z call h g no_lock.Dead v u w m f)) none.1)

  pub unlocked_halts : (r : Result ℕ Halt) → MetMore call v u → IfErr r (λ why. (why ≡ Busy) × (NoLockBy no_lock.Busy z now h g u w ⊎ NoLockBy no_lock.Dead z now h g u w)) → IfErr r (λ why. OverHalts why z call h g value v w)
  unlocked_halts r m f = IfErr-weaker r (IsUnlocked call) (λ why. OverHalts why z call h g value v w) (one_unlocked m) (subst (λ (i : ℕ). IfErr r (IsUnlocked i)) same f)
