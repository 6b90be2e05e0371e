-- Why a present value was not changed. v is the state of the pass at the part's begin, w the one at its end.
use Rattle.std.specs.Prelude.{◌≡◌, ◌≢◌, ℕ, ◌⊎◌, List, length, Some, None}
use Rattle.oak_model.specs.declared.classes.Class.{Class}
use Rattle.oak_model.specs.Class.{class_of}
use Rattle.oak_model.specs.KeyNumber.{key_number}
use Rattle.oak_model.specs.Limits.{Sizes}
use Rattle.header_core.specs.Headers.{at_pin}
use Rattle.oak_core.specs.declared.states.PassState.{PassState}
use Rattle.oak_core.specs.KnownPlaces.{ReadAt}
use Rattle.oak_core.specs.Memory.{in_headers}
use Rattle.oak_core.specs.QuietSteps.{MetOnly, TookNone}
use Rattle.oak_core.specs.Sights.{SightedSince}
use Rattle.value_ops.specs.Pinning.{KnowsLife}
use Rattle.value_ops.specs.declared.locking.NoLock.{NoLock}
use Rattle.value_ops.specs.declared.locking.NoLock.TheVariants as no_lock
use Rattle.point_ops.specs.FoundWords.{FoundWord}
use Rattle.point_ops.specs.Halting.{IsLockedOut, IsDeadAt, IsPinned, AllTaken}
use Rattle.point_ops.specs.declared.halts.Halt.{Halt}
use Rattle.point_ops.specs.declared.halts.Halt.TheVariants.{Busy, Moved, Crowded, NoBlock, NoHeader}

-- why the header was not locked
abbrev pub NoLockBy : NoLock → Sizes → (call h g : ℕ) → PassState → PassState → Type 0
NoLockBy no_lock.Dead z call h g v w = FoundWord z call (in_headers (at_pin h)) (IsDeadAt g) v w
NoLockBy no_lock.Busy z call h g v w = FoundWord z call (in_headers (at_pin h)) (IsLockedOut g) v w ⊎ FoundWord z call (in_headers (at_pin h)) (IsPinned g) v w

-- the key was read present in the call, with a value of another class
pub record HasOtherClass (c : Class) (key : List ℕ) (v w : PassState) : Type 0 where
  pub at : ℕ
  pub bytes : List ℕ
  pub read : ReadAt (key_number key) at (Some bytes) v w
  pub sighted : SightedSince (key_number key) at v.findings w.findings
  pub other : class_of (length bytes) ≢ Some c

-- why a value was not put in place of that of the life
abbrev pub OverHalts : Halt → Sizes → (call h g : ℕ) → List ℕ → PassState → PassState → Type 0
OverHalts Busy z call h g value v w = NoLockBy no_lock.Busy z call h g v w ⊎ NoLockBy no_lock.Dead z call h g v w
OverHalts Moved z call h g value v w = ⊥
OverHalts Crowded z call h g value v w = ⊥
OverHalts (NoBlock c) z call h g value v w = AllTaken z call c None v w × (class_of (length value) ≡ Some c) × ((key : List ℕ) → KnowsLife h g key v.knowledge → HasOtherClass c key v w) × MetOnly TookNone v w
OverHalts NoHeader z call h g value v w = ⊥
