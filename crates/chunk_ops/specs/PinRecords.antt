-- The pin of a room, read off the state of the pass that has it, and what stays while it stands.
use Rattle.std.specs.Prelude.{◌≡◌, ℕ, ◌*◌, ◌<◌, ◌≤◌, List, [], length, slice_index, Option, Some, None}
use Rattle.oak_model.specs.Counts.{Each, Has}
use Rattle.oak_model.specs.Key.{IsKey, AreBytes}
use Rattle.oak_model.specs.KeyNumber.{key_number}
use Rattle.oak_model.specs.Limits.{Sizes}
use Rattle.oak_model.specs.declared.limits.TheConstants.{CLASSES, GREATEST_ENTRIES}
use Rattle.arena_core.specs.Arena.{block_words, blocks}
use Rattle.arena_core.specs.Place.{class_in, block_in, length_in}
use Rattle.chunk_core.specs.declared.layout.TheConstants.{BOUND_WORDS}
use Rattle.chunk_core.specs.declared.holds.FoundEntry.{FoundEntry}
use Rattle.chunk_core.specs.declared.holds.PinnedRoom.{PinnedRoom}
use Rattle.chunk_core.specs.declared.holds.RoomHolds.{RoomHolds}
use Rattle.chunk_core.specs.KeyWords.{key_bytes}
use Rattle.chunk_core.specs.MayOnRooms.{PinsRoom, FindsEntry}
use Rattle.chunk_core.specs.PinnedRooms.{found_in, found_key}
use Rattle.chunk_core.specs.RoomRule.{AreBounds}
use Rattle.oak_core.specs.declared.states.PassState.{PassState}
use Rattle.oak_core.specs.AloneWords.{Runs}
use Rattle.oak_core.specs.CallSteps.{Learns, Stands}
use Rattle.oak_core.specs.QuietSteps.{Quiet}

-- the pin of a pass, which says nothing where it has none
abbrev pub pin_or : Option PinnedRoom → PinnedRoom
pin_or None = record { room = 0; found = 0; base = 0; low = []; high = []; count = None; entries = []; walked = [] }
pin_or (Some p) = p

abbrev pub room_pin : PassState → PinnedRoom
room_pin v = pin_or v.rooms.pin

abbrev pub with_room_pin : Option PinnedRoom → RoomHolds → RoomHolds
with_room_pin o a = record a { pin = o }

-- the pass has a pin of the room, a good one or a dud
pub record PinIsOn (z : Sizes) (r : ℕ) (a : RoomHolds) : Type 0 where
  pub inside : r < z.chunks
  pub is : a.pin ≡ Some (pin_or a.pin)
  pub room : (pin_or a.pin).room ≡ r
  pub claim : a.claim ≡ None

-- all words of a pin's bounds were recorded, and neither bound is longer than a key
pub record HasBounds (p : PinnedRoom) : Type 0 where
  pub fit : AreBounds (slice_index p.low 0) (slice_index p.high 0)
  pub low : length p.low ≡ BOUND_WORDS
  pub high : length p.high ≡ BOUND_WORDS

-- an entry that was found is one of those that a room has, and its key word names a block of the table with the key
pub record IsFoundWell (z : Sizes) (e : FoundEntry) : Type 0 where
  pub number : e.number < z.entries
  pub class : class_in e.word < CLASSES
  pub block : block_in e.word < blocks z (class_in e.word)
  pub long : length_in e.word ≡ length (key_bytes e.word e.words)
  pub key : IsKey (key_bytes e.word e.words)
  pub bytes : AreBytes (key_bytes e.word e.words)
  pub room : length (key_bytes e.word e.words) ≤ 8 * block_words (class_in e.word)
  pub same : found_key e ≡ key_number (key_bytes e.word e.words)

-- the pass has a good pin of the room
pub record RoomPinned (z : Sizes) (r : ℕ) (a : RoomHolds) : Type 0 where
  pub inside : r < z.chunks
  pub pin : PinsRoom r a (pin_or a.pin)
  pub bounds : HasBounds (pin_or a.pin)
  -- a room of the table has no more entries than a room may have
  pub few : z.entries ≤ GREATEST_ENTRIES
  -- the entries that were found under it are so, one of each number
  pub found : Each (IsFoundWell z) (found_in (pin_or a.pin))
  pub alike : (e f : FoundEntry) → Has e (found_in (pin_or a.pin)) → Has f (found_in (pin_or a.pin)) → e.number ≡ f.number → e ≡ f

abbrev pub HasRoomPin : Sizes → ℕ → PassState → Type 0
HasRoomPin z r v = RoomPinned z r v.rooms

-- the pins are of one room, the later with no less found
pub record PinStays (p q : PinnedRoom) : Type 0 where
  pub room : q.room ≡ p.room
  pub found : q.found ≡ p.found
  pub base : q.base ≡ p.base
  pub low : q.low ≡ p.low
  pub high : q.high ≡ p.high
  pub entries : (e : FoundEntry) → Has e (found_in p) → Has e (found_in q)

-- of rooms the pass has what it had, with the pin, which has no less found
pub record PinKept (z : Sizes) (r : ℕ) (a b : RoomHolds) : Type 0 where
  pub has : RoomPinned z r b
  pub stays : PinStays (pin_or a.pin) (pin_or b.pin)
  pub rooms : b ≡ with_room_pin (Some (pin_or b.pin)) a

abbrev pub KeepsPin : Sizes → ℕ → PassState → PassState → Type 0
KeepsPin z r v w = PinKept z r v.rooms w.rooms

-- under its pin the call may have learned, and holds what it held
pub record UnderPin (z : Sizes) (call r : ℕ) (v w : PassState) : Type 0 where
  pub learns : Learns call v w
  pub blocks : w.blocks ≡ v.blocks
  pub headers : w.headers ≡ v.headers
  pub pin : KeepsPin z r v w

-- the entry is one that the pin found, and has the key
pub record HasEntry (r i : ℕ) (key : List ℕ) (v : PassState) : Type 0 where
  pub entry : FoundEntry
  pub finds : FindsEntry r i v.rooms (room_pin v) entry
  pub key_is : key_bytes entry.word entry.words ≡ key

abbrev pub WordsStay : List ℕ → List ℕ → Type 0
WordsStay before after = after ≡ before

-- The pass only met more, all in the call, by loads, pins and their undoing alone: it learned nothing, and holds what it held. To a pass that is alone the words of the table stay.
pub record OnlyMeets (call : ℕ) (v w : PassState) : Type 0 where
  pub stands : Stands call v w
  pub quiet : Quiet v w
  pub blocks : w.blocks ≡ v.blocks
  pub headers : w.headers ≡ v.headers
  pub rooms : w.rooms ≡ v.rooms
  pub still : Runs WordsStay v w

-- The call met more, by loads, pins and their undoing alone, and may have learned, and the pass holds what it held. To a pass that is alone the words of the table stay.
pub record OnlyLearns (call : ℕ) (v w : PassState) : Type 0 where
  pub learns : Learns call v w
  pub quiet : Quiet v w
  pub blocks : w.blocks ≡ v.blocks
  pub headers : w.headers ≡ v.headers
  pub rooms : w.rooms ≡ v.rooms
  pub still : Runs WordsStay v w
