use Rattle.oak_map.proofs.RoomForKeys.{is_answered}
use Rattle.oak_map.proofs.laws.keys_have_room.Goals as goal

pub returns : goal.returns
returns c = is_answered
