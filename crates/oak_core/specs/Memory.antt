-- All words of the table, as a record of functions, and where each lies: word 0, which has the given numbers, then the arena, the headers and the rooms.
use Rattle.std.specs.Prelude.{ℕ, ◌+◌, cond, Bool, true, false, List, slice_index, ⊤}
use Rattle.oak_model.specs.Limits.{Sizes}
use Rattle.arena_core.specs.Arena.{ArenaMemory, ArenaSpot, same_arena_spot, read_arena, arena_of, IsInArena, is_in_arena, arena_index, arena_words}
use Rattle.header_core.specs.Headers.{HeaderMemory, HeaderSpot, same_header_spot, read_header, headers_of, IsInHeaders, is_in_headers, header_index, header_words}
use Rattle.chunk_core.specs.Rooms.{RoomMemory, RoomSpot, same_room_spot, read_room, rooms_of, IsInRooms, is_in_rooms, room_index, room_words}

pub record Memory : Type 0 where
  pub given : ℕ
  pub arena : ArenaMemory
  pub headers : HeaderMemory
  pub rooms : RoomMemory

-- a word by its part
pub data Spot : Type 0 where
  at_given : Spot
  in_arena : ArenaSpot → Spot
  in_headers : HeaderSpot → Spot
  in_rooms : RoomSpot → Spot

abbrev pub same_spot : Spot → Spot → Bool
same_spot at_given at_given = true
same_spot (in_arena p) (in_arena q) = same_arena_spot p q
same_spot (in_headers p) (in_headers q) = same_header_spot p q
same_spot (in_rooms p) (in_rooms q) = same_room_spot p q
same_spot _ _ = false

abbrev pub read : Memory → Spot → ℕ
read m at_given = m.given
read m (in_arena p) = read_arena m.arena p
read m (in_headers p) = read_header m.headers p
read m (in_rooms p) = read_room m.rooms p

-- the memory that has these numbers
abbrev pub memory_of : (Spot → ℕ) → Memory
memory_of f = record { given = f at_given; arena = arena_of (λ p. f (in_arena p)); headers = headers_of (λ p. f (in_headers p)); rooms = rooms_of (λ p. f (in_rooms p)) }

-- the memory with x at one word
abbrev pub write : Memory → Spot → ℕ → Memory
write m p x = memory_of (λ q. cond (same_spot q p) x (read m q))

abbrev pub headers_at : Sizes → ℕ
headers_at z = 1 + arena_words z

abbrev pub rooms_at : Sizes → ℕ
rooms_at z = headers_at z + header_words z

-- how many words the table has
abbrev pub word_count : Sizes → ℕ
word_count z = rooms_at z + room_words z

-- the words that the table has
abbrev pub IsInside : Sizes → Spot → Type 0
IsInside z at_given = ⊤
IsInside z (in_arena p) = IsInArena z p
IsInside z (in_headers p) = IsInHeaders z p
IsInside z (in_rooms p) = IsInRooms z p

abbrev pub is_inside : Sizes → Spot → Bool
is_inside z at_given = true
is_inside z (in_arena p) = is_in_arena z p
is_inside z (in_headers p) = is_in_headers z p
is_inside z (in_rooms p) = is_in_rooms z p

-- the number of a word among all words of the table
unfoldable pub index : Sizes → Spot → ℕ
index z at_given = 0
index z (in_arena p) = 1 + arena_index z p
index z (in_headers p) = headers_at z + header_index p
index z (in_rooms p) = rooms_at z + room_index z p

-- what stands at a word, and 0 where the table has no such word
unfoldable pub number_at : Sizes → List ℕ → Spot → ℕ
number_at z words p = cond (is_inside z p) (slice_index words (index z p)) 0

abbrev pub memory : Sizes → List ℕ → Memory
memory z words = memory_of (number_at z words)
