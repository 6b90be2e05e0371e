-- What the tests keep of a pass.
use Rattle.std.specs.Prelude.{◌≡◌, ℕ, List, Some, None}
use Rattle.oak_model.specs.declared.classes.Class.{Class}
use Rattle.oak_model.specs.Limits.{Sizes}
use Rattle.oak_core.specs.declared.states.PassState.{PassState}
use Rattle.oak_core.specs.PassState.{HoldsNothing}
use Rattle.arena_ops.specs.Storing.{HasBytes, given}
use Rattle.chunk_ops.specs.PinRecords.{HasRoomPin, room_pin, with_room_pin}

-- but for a pin of a room it holds nothing
abbrev pub HoldsAPin : PassState → Type 0
HoldsAPin v = HoldsNothing (record v { rooms = with_room_pin None v.rooms })

-- it holds nothing, and has the numbers that it had
pub record IsIdleAgain (v w : PassState) : Type 0 where
  pub numbers : w.numbers ≡ v.numbers
  pub idle : HoldsNothing w

-- what it has but for the block
abbrev pub but_block : Class → ℕ → PassState → PassState
but_block c b v = record v { blocks = given c b v.blocks }

-- it has the key in the block, and nothing else that it had not
pub record HoldsKey (z : Sizes) (c : Class) (b : ℕ) (key : List ℕ) (v w : PassState) : Type 0 where
  pub has : HasBytes z c b key w
  pub numbers : w.numbers ≡ v.numbers
  pub blocks : given c b w.blocks ≡ v.blocks
  pub headers : w.headers ≡ v.headers
  pub rooms : w.rooms ≡ v.rooms

-- it has its pin still, and nothing else that it had not
pub record StillPinned (z : Sizes) (r : ℕ) (v w : PassState) : Type 0 where
  pub has : HasRoomPin z r w
  pub numbers : w.numbers ≡ v.numbers
  pub blocks : w.blocks ≡ v.blocks
  pub headers : w.headers ≡ v.headers
  pub rooms : w.rooms ≡ with_room_pin (Some (room_pin w)) v.rooms
