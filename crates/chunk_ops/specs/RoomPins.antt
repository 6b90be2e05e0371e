-- What calls that pin a room find, and what the end of a pin leaves.
use Rattle.std.specs.Prelude.{◌≡◌, ◌≢◌, ℕ, ◌+◌, ◌-◌, ◌<◌, ◌⊎◌, List, slice_set, Some, None}
use Rattle.pin_word.specs.PinWord.{state_of, count_of}
use Rattle.oak_model.specs.Limits.{Sizes}
use Rattle.chunk_core.specs.declared.states.TheConstants.{OPEN}
use Rattle.chunk_core.specs.PinnedRooms.{span_of}
use Rattle.chunk_core.specs.RoomStep.{pin_room}
use Rattle.chunk_core.specs.Rooms.{at_room_pin}
use Rattle.chunk_core.specs.Spans.{Span}
use Rattle.oak_core.specs.declared.states.PassState.{PassState}
use Rattle.oak_core.specs.AloneWords.{Moment, Runs}
use Rattle.oak_core.specs.CallSteps.{MetMore, StepOfCall, Stands}
use Rattle.oak_core.specs.Memory.{in_rooms, index, memory}
use Rattle.oak_core.specs.QuietSteps.{Quiet}
use Rattle.oak_core.specs.RoomCalls.{PinsRoomWord}
use Rattle.oak_core.specs.Step.{load, on_rooms}
use Rattle.chunk_ops.specs.LoneRooms.{IsShut, LoneTry}
use Rattle.chunk_ops.specs.PinRecords.{room_pin, with_room_pin, HasRoomPin, OnlyMeets}

-- P held of the number of the room's pin word, which became f of it; no other word changed
abbrev pub ChangesRoomPin : Sizes → ℕ → (ℕ → Type 0) → (ℕ → ℕ) → List ℕ → List ℕ → Type 0
ChangesRoomPin z r P f before after = P ((memory z before).rooms.pin r) × (after ≡ slice_set before (index z (in_rooms (at_room_pin r))) (f ((memory z before).rooms.pin r)))

-- the room was open, and its word counts one pin more
abbrev pub AddsRoomPin : Sizes → ℕ → List ℕ → List ℕ → Type 0
AddsRoomPin z r = ChangesRoomPin z r (λ n. state_of n ≡ OPEN) (λ n. n + 1)

-- the word of the room counts one pin less
abbrev pub DropsRoomPin : Sizes → ℕ → List ℕ → List ℕ → Type 0
DropsRoomPin z r = ChangesRoomPin z r (λ n. 0 < count_of n) (λ n. n - 1)

-- there was a moment at which the rule held with the pass in this state
abbrev pub HadMoment : Sizes → PassState → Type 0
HadMoment z v = (words : List ℕ) × Moment z words v

-- the one step that pinned the room found it open
pub record PinsNow (z : Sizes) (call r : ℕ) (v w : PassState) : Type 0 where
  pub number : ℕ
  pub told : PinsRoomWord z call r v number w
  pub opened : state_of number ≡ OPEN

-- the first step between the two pinned the room
pub record PinsFirst (z : Sizes) (call r : ℕ) (v w : PassState) : Type 0 where
  pub number : ℕ
  pub to : PassState
  pub told : PinsRoomWord z call r v number to
  pub ended : MetMore call to w

-- it found the room not open, and another undid the pin
pub record FoundShut (z : Sizes) (call r : ℕ) (v w : PassState) : Type 0 where
  pub step : PinsFirst z call r v w
  pub shut : state_of step.number ≢ OPEN
  pub only : OnlyMeets call v w
  pub begun : HadMoment z v
  pub ended : HadMoment z w
  -- to a pass that is alone
  pub still : Runs (LoneTry z (IsShut z r) v.rooms) v w

-- The room was found open by a step of the call, with a range that has P, and the pass has the pin that this step made. It only met more else, by loads, pins and their undoing alone.
pub record PinsOpen (z : Sizes) (call r : ℕ) (P : Span → Type 0) (v w : PassState) : Type 0 where
  pub step : StepOfCall z call (on_rooms (pin_room r)) v w
  pub opened : state_of step.number ≡ OPEN
  pub stands : Stands call v w
  pub quiet : Quiet v w
  pub blocks : w.blocks ≡ v.blocks
  pub headers : w.headers ≡ v.headers
  pub has : HasRoomPin z r w
  pub rooms : w.rooms ≡ with_room_pin (Some (room_pin w)) v.rooms
  pub made : room_pin w ≡ room_pin step.to
  pub range : P (span_of (room_pin w))
  pub begun : HadMoment z v
  -- to a pass that is alone
  pub still : Runs (AddsRoomPin z r) v w

-- a load of the room's pin word in the call found the room not open
pub record LoadsShut (z : Sizes) (call r : ℕ) (v w : PassState) : Type 0 where
  pub step : StepOfCall z call (load (in_rooms (at_room_pin r))) v w
  pub shut : state_of step.number ≢ OPEN

-- a pin in the call found the room not open, or open with a range that has not P, as the pin says that the step made
pub record PinsOff (z : Sizes) (call r : ℕ) (P : Span → Type 0) (v w : PassState) : Type 0 where
  pub step : StepOfCall z call (on_rooms (pin_room r)) v w
  pub off : (state_of step.number ≢ OPEN) ⊎ (P (span_of (room_pin step.to)) → ⊥)

-- the room was found in the call not open, or open with a range that has not P
abbrev pub FoundOff : Sizes → ℕ → ℕ → (Span → Type 0) → PassState → PassState → Type 0
FoundOff z call r P v w = LoadsShut z call r v w ⊎ PinsOff z call r P v w

-- the first step between the two pinned the room, and found it so
pub record MissesFirst (z : Sizes) (call r : ℕ) (P : Span → Type 0) (v w : PassState) : Type 0 where
  pub step : PinsFirst z call r v w
  pub off : (state_of step.number ≢ OPEN) ⊎ (P (span_of (room_pin step.to)) → ⊥)

-- each room was found so in the call
abbrev pub FoundMoved : Sizes → ℕ → (Span → Type 0) → PassState → PassState → Type 0
FoundMoved z call P v w = (r : ℕ) → r < z.chunks → FoundOff z call r P v w

-- the pin is gone, and the pass only met more else, by loads, pins and their undoing alone
pub record Unpins (z : Sizes) (call r : ℕ) (v w : PassState) : Type 0 where
  pub stands : Stands call v w
  pub quiet : Quiet v w
  pub blocks : w.blocks ≡ v.blocks
  pub headers : w.headers ≡ v.headers
  pub rooms : w.rooms ≡ with_room_pin None v.rooms
  pub ended : HadMoment z w
  -- to a pass that is alone
  pub still : Runs (DropsRoomPin z r) v w
