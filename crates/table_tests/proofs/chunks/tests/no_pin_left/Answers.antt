use Rattle.std.proofs.Common.{arith}
use Rattle.chunk_core.specs.Rooms.{at_room_pin}
use Rattle.oak_core.specs.Memory.{in_rooms}
use Rattle.oak_core.specs.Passes.{key}
use Rattle.oak_core.proofs.memory.Words.{index_below}
use Rattle.table_tests.proofs.chunks.tests.no_pin_left.Goals as goal

pub load-word-requires-clause-inside : goal.load-word-requires-clause-inside
load-word-requires-clause-inside g c = let s = c.rooms-rooms.ensures.some in let r = c.rooms-rooms.ensures.is in let e = c.room_at.ensures in let l = index_below (key c.args.table.now) (in_rooms (at_room_pin 0)) (omega arith, omega arith) in omega arith
