use Rattle.oak_core.specs.Passes.{state}
use Rattle.arena_ops.proofs.StackLaws.{alone_rest}
use Rattle.table_tests.proofs.values.arena_ops_tests.a_shape_of_two_blocks.Goals as goal

pub close-requires-clause-alone : goal.close-requires-clause-alone
close-requires-clause-alone g c = alone_rest _ (state c.two_blocks.new.pass) (λ i. (c.in_ok-table.ensures.first.0 i).numbers) c.two_blocks.ensures.rest
