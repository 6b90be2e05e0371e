-- Entries own the blocks of their keys, beside passes and headers.
use Rattle.std.specs.Prelude.{ℕ, ◌+◌, ◌==◌, ◌&&◌, nat_lt, nat_le, Bool, false, List, Option, Some, None}
use Rattle.oak_model.specs.declared.limits.TheConstants.{GREATEST_KEY}
use Rattle.oak_model.specs.declared.classes.Class.{Class}
use Rattle.oak_model.specs.Class.{class_number, class_of}
use Rattle.oak_model.specs.Limits.{Sizes}
use Rattle.oak_model.specs.Counts.{one_if}
use Rattle.arena_core.specs.Place.{class_in, length_in, names_block, content}
use Rattle.chunk_core.specs.declared.holds.RoomHolds.{RoomHolds}
use Rattle.chunk_core.specs.Rooms.{RoomMemory}
use Rattle.chunk_core.specs.CoverSums.{owners_in_rooms}
use Rattle.oak_core.specs.Memory.{Memory}
use Rattle.oak_core.specs.Owners.{other_owners}

-- how many entries in use of open and frozen rooms, and carried ones, have the block
abbrev pub entry_owners : Sizes → RoomMemory → (ℕ → List ℕ) → List RoomHolds → ℕ → ℕ → ℕ
entry_owners z m content hs c b = owners_in_rooms z m content hs (names_block c b)

-- how many owners a block has beside the passes that hold it
abbrev pub all_others : Sizes → Memory → List RoomHolds → ℕ → ℕ → ℕ
all_others z m hs c b = other_owners z m.headers c b + entry_owners z m.rooms (content m.arena.bytes) hs c b

-- whether it is the number of that class
abbrev pub is_class : ℕ → Option Class → Bool
is_class c None = false
is_class c (Some d) = c == class_number d

-- 1 where the word names a block of the class that its length has, which is a key's
abbrev pub is_key_word : ℕ → ℕ
is_key_word word = one_if (nat_lt 0 (length_in word) && (nat_le (length_in word) GREATEST_KEY && is_class (class_in word) (class_of (length_in word))))
