use Rattle.oak_core.specs.Passes.{state, key as sizes, call_of}
use Rattle.chunk_ops.specs.AskedRanges.{bytes_in_option}
use Rattle.table_tests.proofs.FoundEntries.{nearest_has}
use Rattle.table_tests.proofs.chunks.adding_tests.byte_beside.Goals as goal

pub byte_of-requires-clause-entry : goal.byte_of-requires-clause-entry
byte_of-requires-clause-entry g c = nearest_has (sizes c.args.table.now) (call_of c.args.pass.now) c.args.pin.now.room _ (bytes_in_option c.args.key) (state c.args.pass.now) (state c.above-found.new.pass) c.above-found.result c.above-found.ensures.nearest

pub byte_of-requires-2-clause-entry : goal.byte_of-requires-2-clause-entry
byte_of-requires-2-clause-entry g c = nearest_has (sizes c.args.table.now) (call_of c.args.pass.now) c.args.pin.now.room _ (bytes_in_option c.args.key) (state c.args.pass.now) (state c.below-found.new.pass) c.below-found.result c.below-found.ensures.nearest
