-- What the steps of a rebalance leave as it is, and what no step does to a held room or to a base.
use Rattle.std.specs.Prelude.{◌≡◌, ◌≢◌, ℕ, ◌≤◌, Some}
use mathlib.Core.Option.{some}
use lib.ListN.{get_elem?}
use Rattle.pin_word.specs.PinWord.{state_of, count_of}
use Rattle.oak_model.specs.Limits.{Sizes}
use Rattle.chunk_core.specs.declared.holds.PinnedRoom.{PinnedRoom}
use Rattle.chunk_core.specs.declared.states.TheConstants.{HELD}
use Rattle.chunk_core.specs.PinnedRooms.{IsGoodRoom}
use Rattle.chunk_core.specs.RoomStep.{RoomStep, freeze_room, thaw_room, hold_room, claim_room, store_room, open_room, retire_room}
use Rattle.oak_core.specs.declared.states.PassState.{PassState}
use Rattle.oak_core.specs.KeyHistories.{state_behind}
use Rattle.oak_core.specs.KeyReads.{base_now, history_now, word_now}
use Rattle.oak_core.specs.Memory.{memory}
use Rattle.oak_core.specs.Schedule.{Event, steps}
use Rattle.oak_core.specs.Step.{Step, on_rooms}
use Rattle.oak_core.specs.TableState.{TableState}

-- the kinds of step that a rebalance makes on rooms, beside pins
abbrev pub IsRebalance : RoomStep → Type 0
IsRebalance (freeze_room r old) = Unit {0}
IsRebalance (thaw_room r) = Unit {0}
IsRebalance (hold_room r old) = Unit {0}
IsRebalance (claim_room r old) = Unit {0}
IsRebalance (store_room p x) = Unit {0}
IsRebalance (open_room r) = Unit {0}
IsRebalance (retire_room r) = Unit {0}
IsRebalance _ = ⊥

-- the step is one of them
abbrev pub MovesRooms : Step → Type 0
MovesRooms (on_rooms x) = IsRebalance x
MovesRooms _ = ⊥

-- the event is one of them, of the seat
abbrev pub RebalancesAt : ℕ → Event → Type 0
RebalancesAt seat (steps j call x) = (j ≡ seat) × MovesRooms x
RebalancesAt seat _ = ⊥

-- each key has the history that it had, and the state behind it
pub record KeepsKeys (s t : TableState) : Type 0 where
  pub histories : (k : ℕ) → history_now t.states k ≡ history_now s.states k
  pub states : (k : ℕ) → state_behind (history_now t.states k) ≡ state_behind (history_now s.states k)

-- a room that comes to be held had no pin
abbrev pub HoldsNoPin : Sizes → TableState → TableState → Type 0
HoldsNoPin z s t = (r : ℕ) → state_of ((memory z s.words).rooms.pin r) ≢ HELD → state_of ((memory z t.words).rooms.pin r) ≡ HELD → count_of ((memory z s.words).rooms.pin r) ≡ 0

-- the pass's pin on the room is a dud
pub record HasDud (seat r : ℕ) (t : TableState) : Type 0 where
  pub state : PassState
  pub here : get_elem? t.states seat ≡ some state
  pub pin : PinnedRoom
  pub is : state.rooms.pin ≡ Some pin
  pub room : pin.room ≡ r
  pub dud : IsGoodRoom pin → ⊥

-- the base of a key without an entry does not fall
abbrev pub BasesRise : Sizes → TableState → TableState → Type 0
BasesRise z s t = (k : ℕ) → word_now z (memory z s.words) s.states k ≡ 0 → base_now z (memory z s.words) s.states k ≤ base_now z (memory z t.words) t.states k
