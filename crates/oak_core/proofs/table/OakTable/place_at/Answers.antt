use Rattle.std.proofs.Common.{arith}
use Rattle.header_core.specs.Headers.{at_place}
use Rattle.oak_core.specs.Memory.{in_headers}
use Rattle.oak_core.specs.Passes.{key}
use Rattle.oak_core.proofs.memory.OffsetPlaces.{fits, place_behind}
use Rattle.oak_core.proofs.table.OakTable.place_at.Goals as goal

pub returns : goal.returns
returns c = place_behind (key c.args.self.now) c.args.header c.pin_at.result c.pin_at.ensures

pub overflow_add-result : goal.overflow_add-result
overflow_add-result c = let e = place_behind (key c.args.self.now) c.args.header c.pin_at.result c.pin_at.ensures in let f = fits (key c.args.self.now) c.args.self.now.shape c.args.self.now.offsets c.args.self.now.shape_is c.args.self.now.offsets_are c.args.self.now.few (in_headers (at_place c.args.header)) c.requires in omega arith
