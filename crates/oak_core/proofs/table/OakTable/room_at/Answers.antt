use Rattle.std.proofs.Common.{ℕ, ◌*◌, arith}
use Rattle.chunk_core.specs.Rooms.{at_room_pin}
use Rattle.oak_core.specs.Memory.{in_rooms}
use Rattle.oak_core.specs.Passes.{key}
use Rattle.oak_core.proofs.memory.OffsetPlaces.{fits, room_number}
use Rattle.oak_core.proofs.table.OakTable.room_at.Goals as goal

pub returns : goal.returns
returns c = room_number (key c.args.self.now) c.args.self.now.shape c.args.self.now.offsets c.args.self.now.shape_is c.args.self.now.offsets_are c.args.self.now.few c.args.room

pub overflow_add-result : goal.overflow_add-result
overflow_add-result c = let e = room_number (key c.args.self.now) c.args.self.now.shape c.args.self.now.offsets c.args.self.now.shape_is c.args.self.now.offsets_are c.args.self.now.few c.args.room in let f = fits (key c.args.self.now) c.args.self.now.shape c.args.self.now.offsets c.args.self.now.shape_is c.args.self.now.offsets_are c.args.self.now.few (in_rooms (at_room_pin c.args.room)) (c.requires, (omega arith)) in let x : ℕ = c.args.room * c.args.self.now.offsets.room_width in omega arith

pub overflow_mul-result : goal.overflow_mul-result
overflow_mul-result c = let e = room_number (key c.args.self.now) c.args.self.now.shape c.args.self.now.offsets c.args.self.now.shape_is c.args.self.now.offsets_are c.args.self.now.few c.args.room in let f = fits (key c.args.self.now) c.args.self.now.shape c.args.self.now.offsets c.args.self.now.shape_is c.args.self.now.offsets_are c.args.self.now.few (in_rooms (at_room_pin c.args.room)) (c.requires, (omega arith)) in let x : ℕ = c.args.room * c.args.self.now.offsets.room_width in omega arith
