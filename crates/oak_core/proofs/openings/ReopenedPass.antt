-- What the pass may do that holds room 0 of a new table, and what else it has meanwhile.
use Rattle.std.proofs.Common.{◌≡◌, ℕ, ◌+◌, ◌^◌, ◌<◌, List, sym, ap, ◌∙◌, subst, arith}
use Rattle.pin_word.specs.PinWord.{STATE, packed, HasNoPin}
use Rattle.pin_word.proofs.Laws.{state_of-packed, count_of-packed}
use Rattle.oak_model.specs.Limits.{Sizes}
use Rattle.arena_core.specs.Place.{content}
use Rattle.chunk_core.specs.declared.states.TheConstants.{FROZEN, HELD}
use Rattle.chunk_core.specs.declared.holds.RoomHolds.{RoomHolds}
use Rattle.chunk_core.specs.MayOnRooms.{MayRoom}
use Rattle.chunk_core.specs.RoomCopies.{copy_of}
use Rattle.chunk_core.specs.RoomHolds.{no_rooms}
use Rattle.chunk_core.specs.RoomRule.{in_room_state}
use Rattle.chunk_core.specs.RoomStep.{freeze_room, hold_room, store_room, open_room}
use Rattle.chunk_core.specs.Rooms.{RoomMemory, at_base}
use Rattle.oak_core.specs.declared.states.PassState.{PassState}
use Rattle.oak_core.specs.AloneWords.{LeavesWords}
use Rattle.oak_core.specs.Memory.{memory}
use Rattle.oak_core.specs.PassState.{HoldsNothing, IsAlone, is_alone}
use Rattle.oak_core.specs.RoomCalls.{NamesRoomPin}
use Rattle.oak_core.specs.Splitting.{Loads}
use Rattle.oak_core.specs.Step.{on_rooms, Told}
use Rattle.oak_core.proofs.seats.AloneLast.{alone_is}
use Rattle.oak_core.proofs.seats.AloneRuns.{is_alone-true}
use Rattle.oak_core.proofs.openings.ReopenedRoom.{IsBare, holding, freezing, may_reopen}
use Rattle.oak_core.proofs.openings.ReopenedSteps.{HasPin, pin_stands, frozen_pin, frozen_rooms, held_rooms, stored_rooms, reopened_rooms, frozen_once, held_once, pin_loaded}

-- one state more
pub next_word : (s : ℕ) → packed 0 (s + 1) 0 ≡ packed 0 s 0 + STATE
unfolding packed
next_word s = omega arith

-- The pass holds the room alone, which had no entry, with this base in its copy.
pub record HoldsBare (z : Sizes) (b : ℕ) (v : PassState) : Type 0 where
  pub memory : RoomMemory
  pub bytes : ℕ → List ℕ
  pub bare : IsBare memory
  pub rooms : v.rooms ≡ holding z memory bytes b

-- a pass that has the room frozen may hold it
pub may_hold : (word : ℕ) (v : PassState) → word ≡ packed 0 FROZEN 0 → v.rooms ≡ freezing → HasNoPin FROZEN word × (in_room_state 0 FROZEN v.rooms ≡ 1)
may_hold word v e is = (subst (HasNoPin FROZEN) (sym e) record { state = state_of-packed 0 FROZEN 0 (omega arith) (omega arith); count = count_of-packed 0 FROZEN 0 (omega arith) (omega arith) }, subst (λ (a : RoomHolds). in_room_state 0 FROZEN a ≡ 1) (sym is) frozen_once)

-- and then it holds it so
pub comes_to_hold : (z : Sizes) (call next old mid n k : ℕ) (u v w : PassState) (words : List ℕ) → 0 < z.chunks → IsAlone u → u.rooms ≡ no_rooms → LeavesWords words u → HasPin z old words → old + STATE ≡ mid
    → Told z call (on_rooms (freeze_room 0 old)) u n v → Told z next (on_rooms (hold_room 0 mid)) v k w → HoldsBare z 0 w
comes_to_hold z call next old mid n k u v w words some_room alone none leaves has e t s =
    let first = pin_stands z call u n v (freeze_room 0 old) words old leaves has t in
    let then = frozen_pin z call u n v old alone some_room t first in
    let second = pin_stands z next v k w (hold_room 0 mid) then.0 mid then.1 (subst (λ (x : ℕ). HasPin z x then.0) e then.2) s in
    let m : RoomMemory = (memory z s.table.words).rooms in let bytes : ℕ → List ℕ = content (memory z s.table.words).arena.bytes in record {
      memory = m;
      bytes = bytes;
      bare = second.bare;
      rooms = held_rooms z next v k w mid (frozen_rooms z call u n v old none t first) s second ∙ ap (holding z m bytes) (second.bare.others (at_base 0) (λ q. absurd cc));
    }

module _ (z : Sizes) (b : ℕ) (v : PassState) (h : HoldsBare z b v) where
  -- it may store the base
  pub may_store : (x : ℕ) → x < 2 ^ 64 → MayRoom z (store_room (at_base 0) x) v.rooms
  may_store x small = (subst (λ (a : RoomHolds). in_room_state 0 HELD a ≡ 1) (sym h.rooms) (held_once z h.memory h.bytes b), tt, small)

  -- and holds the room with that base then
  pub holds_stored : (call x n : ℕ) (w : PassState) → Told z call (on_rooms (store_room (at_base 0) x)) v n w → HoldsBare z x w
  holds_stored call x n w t = record { memory = h.memory; bytes = h.bytes; bare = h.bare; rooms = stored_rooms z call v n w h.memory h.bytes b x h.rooms t }

-- with the range's base it may open the room again, and has nothing of rooms then

pub may_open : (z : Sizes) (v : PassState) → HoldsBare z 0 v → MayRoom z (open_room 0) v.rooms
unfolding copy_of
may_open z v h = subst (MayRoom z (open_room 0)) (sym h.rooms) (held_once z h.memory h.bytes 0, may_reopen z h.memory h.bytes h.bare)

pub holds_no_more : (z : Sizes) (call n : ℕ) (v w : PassState) → HoldsBare z 0 v → Told z call (on_rooms (open_room 0)) v n w → w.rooms ≡ no_rooms
holds_no_more z call n v w h t = reopened_rooms z call v n w h.memory h.bytes h.rooms t

-- All but the rooms stays as it was.
pub record StaysElse (v w : PassState) : Type 0 where
  pub numbers : w.numbers ≡ v.numbers
  pub blocks : w.blocks ≡ v.blocks
  pub headers : w.headers ≡ v.headers

-- so it is behind two steps
pub else_then : (u v w : PassState) → StaysElse u v → StaysElse v w → StaysElse u w
else_then u v w a b = record { numbers = b.numbers ∙ a.numbers; blocks = b.blocks ∙ a.blocks; headers = b.headers ∙ a.headers }

module _ (z : Sizes) (call n : ℕ) (v w : PassState) where
  -- so it is behind each step

  pub else_frozen : (old : ℕ) → Told z call (on_rooms (freeze_room 0 old)) v n w → StaysElse v w
  else_frozen old t = record { numbers = λ i. (t.after i).numbers; blocks = λ i. (t.after i).blocks; headers = λ i. (t.after i).headers }

  pub else_held : (old : ℕ) → Told z call (on_rooms (hold_room 0 old)) v n w → StaysElse v w
  else_held old t = record { numbers = λ i. (t.after i).numbers; blocks = λ i. (t.after i).blocks; headers = λ i. (t.after i).headers }

  pub else_stored : (x : ℕ) → Told z call (on_rooms (store_room (at_base 0) x)) v n w → StaysElse v w
  else_stored x t = record { numbers = λ i. (t.after i).numbers; blocks = λ i. (t.after i).blocks; headers = λ i. (t.after i).headers }

  pub else_opened : Told z call (on_rooms (open_room 0)) v n w → StaysElse v w
  else_opened t = record { numbers = λ i. (t.after i).numbers; blocks = λ i. (t.after i).blocks; headers = λ i. (t.after i).headers }

  pub else_loaded : (word : ℕ) → NamesRoomPin z 0 word → Loads z call word v n w → StaysElse v w × (w.rooms ≡ v.rooms)
  else_loaded word names l = let e = pin_loaded z call word v n w names l in (record { numbers = λ i. (e i).numbers; blocks = λ i. (e i).blocks; headers = λ i. (e i).headers }, λ i. (e i).rooms)

-- a pass that has nothing of rooms either holds nothing
pub holds_nothing : (v w : PassState) → StaysElse v w → w.rooms ≡ no_rooms → HoldsNothing v → HoldsNothing w
holds_nothing v w s none idle = record { hand = (λ i. (s.numbers i).hand) ∙ idle.hand; blocks = s.blocks ∙ idle.blocks; headers = s.headers ∙ idle.headers; rooms = none }

-- a pass that was alone is alone
pub alone_still : (v w : PassState) → StaysElse v w → IsAlone v → IsAlone w
alone_still v w s a = alone_is w (ap is_alone s.numbers ∙ is_alone-true v a)
