use Rattle.std.proofs.Common.{arith}
use Rattle.header_core.specs.Headers.{at_pin}
use Rattle.oak_core.specs.Memory.{in_headers}
use Rattle.oak_core.specs.Passes.{key}
use Rattle.oak_core.proofs.memory.OffsetPlaces.{fits, pin_number}
use Rattle.oak_core.proofs.table.OakTable.pin_at.Goals as goal

pub returns : goal.returns
returns c = pin_number (key c.args.self.now) c.args.self.now.shape c.args.self.now.offsets c.args.self.now.shape_is c.args.self.now.offsets_are c.args.self.now.few c.args.header

pub overflow_add-result : goal.overflow_add-result
overflow_add-result c = let e = pin_number (key c.args.self.now) c.args.self.now.shape c.args.self.now.offsets c.args.self.now.shape_is c.args.self.now.offsets_are c.args.self.now.few c.args.header in let f = fits (key c.args.self.now) c.args.self.now.shape c.args.self.now.offsets c.args.self.now.shape_is c.args.self.now.offsets_are c.args.self.now.few (in_headers (at_pin c.args.header)) c.requires in omega arith

pub overflow_mul-result : goal.overflow_mul-result
overflow_mul-result c = let e = pin_number (key c.args.self.now) c.args.self.now.shape c.args.self.now.offsets c.args.self.now.shape_is c.args.self.now.offsets_are c.args.self.now.few c.args.header in let f = fits (key c.args.self.now) c.args.self.now.shape c.args.self.now.offsets c.args.self.now.shape_is c.args.self.now.offsets_are c.args.self.now.few (in_headers (at_pin c.args.header)) c.requires in omega arith
