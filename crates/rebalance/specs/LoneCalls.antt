-- What the rebalancing calls leave of the table's words, where their pass is alone.
use Rattle.std.specs.Prelude.{◌≡◌, ℕ, ◌+◌, ◌/◌, ◌<◌, List}
use Rattle.oak_model.specs.Limits.{Sizes}
use Rattle.chunk_core.specs.declared.holds.RoomCopy.{RoomCopy}
use Rattle.chunk_core.specs.declared.states.TheConstants.{FREE, OPEN}
use Rattle.chunk_core.specs.KeyWords.{low_number, high_number}
use Rattle.chunk_core.specs.LinkedEntries.{entries_in}
use Rattle.oak_core.specs.Memory.{memory}
use Rattle.oak_core.specs.Sweeping.{valueless}
use Rattle.rebalance.specs.Copies.{AllLinked}
use Rattle.rebalance.specs.LoneWords.{Divides, IsOpen, LeavesBut, these_two, no_room, this_room, room_in, state_in}

-- P holds of the words before and behind, in both of which the open rooms divide the keys among them, and each other one is free
pub record Divided (z : Sizes) (P : List ℕ → List ℕ → Type 0) (before after : List ℕ) : Type 0 where
  pub divided : Divides z before
  pub does : P before after
  pub divides : Divides z after

-- the words of the open room became these
pub record RewritesRoom (z : Sizes) (r : ℕ) (held opened : RoomCopy) (before after : List ℕ) : Type 0 where
  pub leaves : LeavesBut z no_room (this_room r) before after
  pub is_open : IsOpen z before r
  pub was : room_in z before r ≡ held
  pub is : room_in z after r ≡ opened

-- so did those of two
pub record RewritesBoth (z : Sizes) (r q : ℕ) (held opened next reopened : RoomCopy) (before after : List ℕ) : Type 0 where
  pub leaves : LeavesBut z no_room (these_two r q) before after
  pub is_open : IsOpen z before r
  pub upper_is_open : IsOpen z before q
  pub was : room_in z before r ≡ held
  pub is : room_in z after r ≡ opened
  pub was_upper : room_in z before q ≡ next
  pub is_upper : room_in z after q ≡ reopened

-- the open room came to have the lower words, and a free one the upper ones
pub record HalvesRoom (z : Sizes) (r q : ℕ) (held low high : RoomCopy) (before after : List ℕ) : Type 0 where
  pub leaves : LeavesBut z (this_room q) (these_two r q) before after
  pub is_open : IsOpen z before r
  pub free : state_in z before q ≡ FREE
  pub opened : state_in z after q ≡ OPEN
  pub was : room_in z before r ≡ held
  pub is : room_in z after r ≡ low
  pub is_upper : room_in z after q ≡ high

-- of two open rooms the one came to have these words, and the other is free
pub record JoinsRooms (z : Sizes) (r q : ℕ) (held next opened : RoomCopy) (before after : List ℕ) : Type 0 where
  pub leaves : LeavesBut z (this_room q) (these_two r q) before after
  pub is_open : IsOpen z before r
  pub upper_is_open : IsOpen z before q
  pub was : room_in z before r ≡ held
  pub was_upper : room_in z before q ≡ next
  pub is : room_in z after r ≡ opened
  pub freed : state_in z after q ≡ FREE

-- each room was open
abbrev pub AllOpen : Sizes → List ℕ → List ℕ → Type 0
AllOpen z before after = (r : ℕ) → r < z.chunks → state_in z before r ≡ OPEN

-- The open rooms divide the keys among them, and each other one is free; each entry is linked and has a value; and any two neighbours have more than half as many entries together as a room has.
pub record IsSettled (z : Sizes) (words : List ℕ) : Type 0 where
  pub divides : Divides z words
  pub valued : (r : ℕ) → IsOpen z words r → valueless (room_in z words r) ≡ 0
  pub linked : (r : ℕ) → IsOpen z words r → AllLinked (room_in z words r)
  pub many : (r s : ℕ) → IsOpen z words r → IsOpen z words s → high_number (room_in z words r).high ≡ low_number (room_in z words s).low + 1 → z.entries / 2 < entries_in (room_in z words r).count + entries_in (room_in z words s).count

-- each room that is open behind was open before, and its range begins where it did
abbrev pub NoneOpened : Sizes → List ℕ → List ℕ → Type 0
NoneOpened z before after = (r : ℕ) → IsOpen z after r → IsOpen z before r × ((room_in z after r).low ≡ (room_in z before r).low)

-- the words behind are settled, no room was opened and no range begun, and the words of the headers stay
pub record SettlesWords (z : Sizes) (before after : List ℕ) : Type 0 where
  pub settled : IsSettled z after
  pub opened : NoneOpened z before after
  pub headers : (memory z after).headers ≡ (memory z before).headers
