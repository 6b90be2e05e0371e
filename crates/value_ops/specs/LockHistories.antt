-- What a lock says of the key of its header.
use Rattle.std.specs.Prelude.{◌≡◌, ℕ, List, Some}
use Rattle.oak_model.specs.KeyNumber.{key_number}
use Rattle.oak_model.specs.Limits.{Sizes}
use Rattle.oak_core.specs.declared.states.PassState.{PassState}
use Rattle.oak_core.specs.LastReads.{EndsAs}
use Rattle.oak_core.specs.Sights.{SightedSince}
use Rattle.value_ops.specs.HeldValue.{stamp_held, value_held, value_locked}
use Rattle.value_ops.specs.UnderLock.{HasLock}

-- the pass has the header of the key locked, which had this value and this stamp at the lock
pub record LockOf (z : Sizes) (key : List ℕ) (h g : ℕ) (before : List ℕ) (stamp : ℕ) (v : PassState) : Type 0 where
  pub lock : HasLock z h g v
  pub key_is : key_number lock.row.header.key ≡ key_number key
  pub value : value_locked h v.headers.held ≡ before
  pub stamp_is : stamp_held h v.headers.held ≡ stamp

-- The lock of a header of which the pass knew the key: all of the key's history was learned, which ends with the value and the stamp that the header had then.
pub record LocksKey (z : Sizes) (call : ℕ) (key : List ℕ) (h g : ℕ) (v w : PassState) : Type 0 where
  pub before : List ℕ
  pub stamp : ℕ
  pub lock : LockOf z key h g before stamp w
  pub value : value_held h w.headers.held ≡ before
  pub sighted : SightedSince (key_number key) stamp v.findings w.findings
  pub ends : EndsAs (key_number key) stamp (Some before) w.knowledge
