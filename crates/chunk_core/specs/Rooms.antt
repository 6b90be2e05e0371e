-- The words of the rooms, as functions of a room's number and of the number of an entry or of a bound's word, and where each lies.
use Rattle.std.specs.Prelude.{ℕ, ◌+◌, ◌*◌, ◌<◌, ◌==◌, ◌&&◌, nat_lt, Bool}
use Rattle.oak_model.specs.Limits.{Sizes}
use Rattle.chunk_core.specs.declared.layout.TheConstants.{ROOM_FIELDS, BOUND_WORDS, ENTRY_WORDS}

-- where the entries of a room begin, counted from its first word
abbrev pub entries_at : ℕ
entries_at = ROOM_FIELDS + 2 * BOUND_WORDS

abbrev pub room_width : Sizes → ℕ
room_width z = entries_at + ENTRY_WORDS * z.entries

abbrev pub room_words : Sizes → ℕ
room_words z = z.chunks * room_width z

pub record RoomMemory : Type 0 where
  pub pin : ℕ → ℕ
  pub base : ℕ → ℕ
  pub count : ℕ → ℕ
  pub latch : ℕ → ℕ
  pub first : ℕ → ℕ
  pub low : ℕ → ℕ → ℕ
  pub high : ℕ → ℕ → ℕ
  pub key : ℕ → ℕ → ℕ
  pub value : ℕ → ℕ → ℕ
  pub next : ℕ → ℕ → ℕ

pub data RoomSpot : Type 0 where
  at_room_pin : ℕ → RoomSpot
  at_base : ℕ → RoomSpot
  at_count : ℕ → RoomSpot
  at_latch : ℕ → RoomSpot
  at_first : ℕ → RoomSpot
  at_low : ℕ → ℕ → RoomSpot
  at_high : ℕ → ℕ → RoomSpot
  at_key : ℕ → ℕ → RoomSpot
  at_value : ℕ → ℕ → RoomSpot
  at_next : ℕ → ℕ → RoomSpot

abbrev pub read_room : RoomMemory → RoomSpot → ℕ
read_room m (at_room_pin r) = m.pin r
read_room m (at_base r) = m.base r
read_room m (at_count r) = m.count r
read_room m (at_latch r) = m.latch r
read_room m (at_first r) = m.first r
read_room m (at_low r j) = m.low r j
read_room m (at_high r j) = m.high r j
read_room m (at_key r i) = m.key r i
read_room m (at_value r i) = m.value r i
read_room m (at_next r i) = m.next r i

-- the memory that has these numbers
abbrev pub rooms_of : (RoomSpot → ℕ) → RoomMemory
rooms_of f = record {
  pin = λ r. f (at_room_pin r);
  base = λ r. f (at_base r);
  count = λ r. f (at_count r);
  latch = λ r. f (at_latch r);
  first = λ r. f (at_first r);
  low = λ r j. f (at_low r j);
  high = λ r j. f (at_high r j);
  key = λ r i. f (at_key r i);
  value = λ r i. f (at_value r i);
  next = λ r i. f (at_next r i);
}

abbrev pub room_at : RoomSpot → ℕ
room_at (at_room_pin r) = r
room_at (at_base r) = r
room_at (at_count r) = r
room_at (at_latch r) = r
room_at (at_first r) = r
room_at (at_low r j) = r
room_at (at_high r j) = r
room_at (at_key r i) = r
room_at (at_value r i) = r
room_at (at_next r i) = r

-- the number of the bound's word or of the entry, and how many the room has of them
abbrev pub part_at : RoomSpot → ℕ
part_at (at_low r j) = j
part_at (at_high r j) = j
part_at (at_key r i) = i
part_at (at_value r i) = i
part_at (at_next r i) = i
part_at _ = 0

abbrev pub parts_at : Sizes → RoomSpot → ℕ
parts_at z (at_low r j) = BOUND_WORDS
parts_at z (at_high r j) = BOUND_WORDS
parts_at z (at_key r i) = z.entries
parts_at z (at_value r i) = z.entries
parts_at z (at_next r i) = z.entries
parts_at z _ = 1

-- which part of a room's words it is of
abbrev pub kind_at : RoomSpot → ℕ
kind_at (at_room_pin r) = 0
kind_at (at_base r) = 1
kind_at (at_count r) = 2
kind_at (at_latch r) = 3
kind_at (at_first r) = 4
kind_at (at_low r j) = 5
kind_at (at_high r j) = 6
kind_at (at_key r i) = 7
kind_at (at_value r i) = 8
kind_at (at_next r i) = 9

abbrev pub same_room_spot : RoomSpot → RoomSpot → Bool
same_room_spot p q = (kind_at p == kind_at q) && ((part_at p == part_at q) && (room_at p == room_at q))

-- the words that the table has
abbrev pub IsInRooms : Sizes → RoomSpot → Type 0
IsInRooms z p = (room_at p < z.chunks) × (part_at p < parts_at z p)

abbrev pub is_in_rooms : Sizes → RoomSpot → Bool
is_in_rooms z p = nat_lt (room_at p) z.chunks && nat_lt (part_at p) (parts_at z p)

-- where a word lies within its room
unfoldable pub place_in_room : RoomSpot → ℕ
place_in_room (at_room_pin r) = 0
place_in_room (at_base r) = 1
place_in_room (at_count r) = 2
place_in_room (at_latch r) = 3
place_in_room (at_first r) = 4
place_in_room (at_low r j) = ROOM_FIELDS + j
place_in_room (at_high r j) = ROOM_FIELDS + BOUND_WORDS + j
place_in_room (at_key r i) = entries_at + i * ENTRY_WORDS
place_in_room (at_value r i) = entries_at + i * ENTRY_WORDS + 1
place_in_room (at_next r i) = entries_at + i * ENTRY_WORDS + 2

-- and counted from the rooms' first
unfoldable pub room_index : Sizes → RoomSpot → ℕ
room_index z p = room_at p * room_width z + place_in_room p
