-- How many rooms a pass pinned between two of its states, and how its tries count them.
use Rattle.std.specs.Prelude.{◌≡◌, ℕ, zero, suc, ◌+◌, ◌-◌, ◌%◌, ◌^◌, ◌<◌, ◌⊎◌, min, List, [], ◌∷◌, ◌++◌, Some}
use Rattle.oak_model.specs.Limits.{Sizes}
use Rattle.chunk_core.specs.Rooms.{at_room_pin}
use Rattle.oak_core.specs.declared.states.Finding.{Finding}
use Rattle.oak_core.specs.declared.table.Pass.{Pass}
use Rattle.oak_core.specs.Memory.{in_rooms, index}
use Rattle.oak_core.specs.Passes.{state, tries}

-- n raised k times by one, each time to 2 ^ 64 - 1 at most
abbrev pub raised : ℕ → ℕ → ℕ
raised n zero = n
raised n (suc k) = min (raised n k + 1) (2 ^ 64 - 1)

-- the step left the pin word of a room one higher than it found it: it pinned the room, whether or not that was open
pub record PinsARoom (z : Sizes) (f : Finding) : Type 0 where
  pub room : ℕ
  pub inside : room < z.chunks
  pub word : f.word ≡ index z (in_rooms (at_room_pin room))
  pub number : ℕ
  pub found : f.found ≡ Some number
  pub left : f.left ≡ (number + 1) % 2 ^ 64

-- so many of the findings have P, and the others have it not
abbrev pub ManyHave : (Finding → Type 0) → ℕ → List Finding → Type 0
ManyHave P n [] = n ≡ 0
ManyHave P n (f ∷ fs) = ((P f → ⊥) × ManyHave P n fs) ⊎ (P f × ((m : ℕ) × (n ≡ m + 1) × ManyHave P m fs))

-- So many steps of the pass between the two pinned a room, duds among them, and its tries were raised by just that.
pub record PinsRooms (z : Sizes) (n : ℕ) (p q : Pass) : Type 0 where
  pub more : List Finding
  pub met : (state q).findings.met ≡ (state p).findings.met ++ more
  pub many : ManyHave (PinsARoom z) n more
  pub tries : tries q ≡ raised (tries p) n
