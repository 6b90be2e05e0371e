-- What a lock of a header finds.
use Rattle.std.specs.Prelude.{◌≡◌, ◌≢◌, ℕ, ◌<◌, ◌⊎◌, ◌==◌, ◌&&◌, cond, Bool, List, ◌∷◌, map, Option, Some, None, ◌++◌}
use Rattle.pin_word.specs.PinWord.{generation_of, state_of, count_of}
use Rattle.oak_model.specs.Counts.{total, Each}
use Rattle.oak_model.specs.Limits.{Sizes}
use Rattle.arena_core.specs.Place.{content}
use Rattle.header_core.specs.declared.states.TheConstants.{LIVE, LOCKED, DEAD}
use Rattle.header_core.specs.HeaderHolds.{pins_on}
use Rattle.header_core.specs.HeaderStep.{IsLiveWord, locked_at}
use Rattle.oak_core.specs.declared.states.Finding.{Finding}
use Rattle.oak_core.specs.declared.states.PassState.{PassState}
use Rattle.oak_core.specs.Finding.{grown, IsOf}
use Rattle.oak_core.specs.HeaderCalls.{Locks}
use Rattle.oak_core.specs.Memory.{index, memory}
use Rattle.oak_core.specs.PassState.{headers_held}
use Rattle.oak_core.specs.Splitting.{Loads}
use Rattle.value_ops.specs.Claiming.{pin_spot, holds_header}
use Rattle.value_ops.specs.declared.locking.NoLock.{NoLock}
use Rattle.value_ops.specs.declared.locking.NoLock.TheVariants.{Busy, Dead}
use Rattle.oak_core.specs.CallSteps.{Learns}
use Rattle.oak_core.specs.LifeKeys.{key_known, key_or}

-- The step that locked the header, after others that only met more, found it live at the generation and without a pin. No pass held it or had it pinned at that moment. The pass has it locked now, with the place, the stamp and the words of its block that it had then, and with the key that the pass knew of the life; of rooms and blocks it has what it had, and what it met is all of the call and at words in front of the rooms.
pub record LocksHeader (z : Sizes) (call h g : ℕ) (v w : PassState) : Type 0 where
  pub inside : h < z.headers
  pub before : List Finding
  pub number : ℕ
  pub live : IsLiveWord number
  pub generation : generation_of number ≡ g
  pub told : Locks z call h number (grown before v) number w
  pub unheld : total (holds_header h) (map headers_held told.table.states) ≡ 0
  pub unpinned : total (pins_on h) (map headers_held told.table.states) ≡ 0
  pub more : List Finding
  pub calls : Each (IsOf z call) more
  pub met : w.findings.met ≡ v.findings.met ++ more
  pub learns : Learns call v w
  pub blocks : w.blocks ≡ v.blocks
  pub rooms : w.rooms ≡ v.rooms
  pub headers : w.headers ≡ record v.headers { held = record (locked_at (memory z told.table.words).headers (content (memory z told.table.words).arena.bytes) h) { key = key_or (key_known h g v.knowledge) } ∷ v.headers.held }

-- the word is that of a live header at the generation, without a pin
abbrev pub may_lock : ℕ → ℕ → Bool
may_lock n g = (state_of n == LIVE) && ((count_of n == 0) && (generation_of n == g))

-- the word says that the life at the generation was removed
abbrev pub IsDeadAt : ℕ → ℕ → Type 0
IsDeadAt g n = (generation_of n ≡ g) × (state_of n ≡ DEAD)

-- what is answered for a word that is not locked
abbrev pub refusal : ℕ → ℕ → NoLock
refusal word g = cond ((generation_of word == g) && (state_of word == DEAD)) Dead Busy

-- a look by a load alone
abbrev pub LooksOnce : Sizes → ℕ → ℕ → PassState → ℕ → PassState → Type 0
LooksOnce z call h v n w = Loads z call (index z (pin_spot h)) v n w

-- a load that saw a live header without a pin, and an exchange that found the number n
pub record LooksTwice (z : Sizes) (call h seen : ℕ) (v : PassState) (n : ℕ) (w : PassState) : Type 0 where
  pub between : PassState
  pub loads : LooksOnce z call h v seen between
  pub live : IsLiveWord seen
  pub told : Locks z call h seen between n w

-- one look, or two of which the first saw a number
abbrev pub Looks : Sizes → ℕ → ℕ → Option ℕ → PassState → ℕ → PassState → Type 0
Looks z call h None v n w = LooksOnce z call h v n w
Looks z call h (Some seen) v n w = LooksTwice z call h seen v n w

-- the word is of another generation, locked or pinned
abbrev pub IsBusy : ℕ → ℕ → Type 0
IsBusy g n = (generation_of n ≢ g) ⊎ ((state_of n ≡ LOCKED) ⊎ (0 < count_of n))

-- the word is a cause
abbrev pub IsNoLock : NoLock → ℕ → ℕ → Type 0
IsNoLock Dead g n = IsDeadAt g n
IsNoLock Busy g n = (¬ IsDeadAt g n) × IsBusy g n

-- the pass only met more, all in the call and at words in front of the rooms, and the number of the header's pin word that it found last is the cause
pub record FindsNoLock (z : Sizes) (call h g : ℕ) (why : NoLock) (v w : PassState) : Type 0 where
  pub first : Option ℕ
  pub number : ℕ
  pub looks : Looks z call h first v number w
  pub cause : IsNoLock why g number
  pub more : List Finding
  pub calls : Each (IsOf z call) more
  pub after : w ≡ grown more v
