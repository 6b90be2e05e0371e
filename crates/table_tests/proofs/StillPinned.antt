-- What the tests keep of a pass under its pin.
use Rattle.std.proofs.Common.{ℕ, ap, ◌∙◌, Some}
use Rattle.oak_model.specs.Limits.{Sizes}
use Rattle.oak_core.specs.declared.states.PassState.{PassState}
use Rattle.chunk_ops.specs.PinRecords.{UnderPin, room_pin, with_room_pin}
use Rattle.chunk_ops.specs.TestStates.{StillPinned}

pub still_under : (z : Sizes) (call r : ℕ) (u v w : PassState) → StillPinned z r u v → UnderPin z call r v w → StillPinned z r u w
still_under z call r u v w s b = record {
  has = b.pin.has;
  numbers = b.learns.all.numbers ∙ s.numbers;
  blocks = b.blocks ∙ s.blocks;
  headers = b.headers ∙ s.headers;
  rooms = b.pin.rooms ∙ ap (with_room_pin (Some (room_pin w))) s.rooms;
}
