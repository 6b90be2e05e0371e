-- What a step finds, leaves and changes that opens a frozen room again.
use Rattle.std.specs.Prelude.{◌≡◌, ◌≢◌, ℕ, [], ◌∷◌, ◌++◌, map, Some}
use mathlib.Core.Option.{some}
use lib.ListN.{get_elem?}
use Rattle.pin_word.specs.PinWord.{state_of, count_of, generation_of}
use Rattle.oak_model.specs.Limits.{Sizes}
use Rattle.arena_core.specs.Place.{content}
use Rattle.chunk_core.specs.declared.states.TheConstants.{OPEN, FROZEN}
use Rattle.chunk_core.specs.declared.holds.PinnedRoom.{PinnedRoom}
use Rattle.chunk_core.specs.Covers.{Cover}
use Rattle.chunk_core.specs.CoverSums.{all_of}
use Rattle.chunk_core.specs.PinnedRooms.{IsGoodRoom, OnRoomPin, RoomPinHolds}
use Rattle.chunk_core.specs.RoomCopies.{without_room}
use Rattle.chunk_core.specs.RoomRule.{in_room_state}
use Rattle.chunk_core.specs.Rooms.{at_room_pin}
use Rattle.chunk_core.specs.RoomStep.{thaw_room}
use Rattle.oak_core.specs.declared.states.PassState.{PassState}
use Rattle.oak_core.specs.Finding.{finding}
use Rattle.oak_core.specs.Memory.{in_rooms, memory}
use Rattle.oak_core.specs.PassState.{rooms_held}
use Rattle.oak_core.specs.Rebalancing.{KeepsKeys}
use Rattle.oak_core.specs.Rule.{Rule}
use Rattle.oak_core.specs.Step.{on_rooms, table_after, Told}
use Rattle.oak_core.specs.TableState.{TableState}

-- whatever is added up over the covers is as it was: so is each key's range, its base, and its entry with its floor
abbrev pub KeepsCovers : Sizes → TableState → TableState → Type 0
KeepsCovers z s t = (F : Cover → ℕ) → all_of z (memory z t.words).rooms (content (memory z t.words).arena.bytes) (map rooms_held t.states) F ≡ all_of z (memory z s.words).rooms (content (memory z s.words).arena.bytes) (map rooms_held s.states) F

-- each room pin that was good of some pass is so still, and what it found stands
abbrev pub KeepsPins : Sizes → TableState → TableState → Type 0
KeepsPins z s t = (seat : ℕ) (u : PassState) → get_elem? s.states seat ≡ some u → OnRoomPin (λ (p : PinnedRoom). IsGoodRoom p → RoomPinHolds z (memory z t.words).rooms (content (memory z t.words).arena.bytes) p) u.rooms.pin

-- The room, which the pass had frozen, is open. The step found the word n; all that the pass has but the room stays.
pub record ThawsRoom (z : Sizes) (call r : ℕ) (v : PassState) (n : ℕ) (w : PassState) : Type 0 where
  pub told : Told z call (on_rooms (thaw_room r)) v n w
  -- the pass had frozen the room, and the word said so
  pub mine : in_room_state r FROZEN v.rooms ≡ 1
  pub was : state_of n ≡ FROZEN
  -- the word that the step left
  pub left : ℕ
  pub opened : state_of left ≡ OPEN
  pub count : count_of left ≡ count_of n
  pub generation : generation_of left ≡ generation_of n
  pub met : w.findings.met ≡ v.findings.met ++ finding z call (in_rooms (at_room_pin r)) (Some n) left told.table.words v ∷ []
  -- the pass has the room no more, and each other as it had it
  pub rooms : w.rooms ≡ record v.rooms { held = without_room r v.rooms.held }
  pub none : (s : ℕ) → in_room_state r s w.rooms ≡ 0
  pub others : (j s : ℕ) → j ≢ r → in_room_state j s w.rooms ≡ in_room_state j s v.rooms
  pub blocks : w.blocks ≡ v.blocks
  pub headers : w.headers ≡ v.headers
  pub numbers : w.numbers ≡ v.numbers
  pub knowledge : w.knowledge ≡ v.knowledge
  -- the rule holds behind the step; all good pins stand, the covers are those that they were, and so are the histories of all keys
  pub rule : Rule z (table_after z call (on_rooms (thaw_room r)) told.seat v told.table)
  pub pins : KeepsPins z told.table (table_after z call (on_rooms (thaw_room r)) told.seat v told.table)
  pub covers : KeepsCovers z told.table (table_after z call (on_rooms (thaw_room r)) told.seat v told.table)
  pub keys : KeepsKeys told.table (table_after z call (on_rooms (thaw_room r)) told.seat v told.table)
