use Rattle.oak_core.specs.Passes.{state}
use Rattle.arena_ops.proofs.StackLaws.{alone_rest}
use Rattle.table_tests.proofs.values.arena_ops_tests.all_blocks_of_a_class_twice.Goals as goal

pub close-requires-clause-alone : goal.close-requires-clause-alone
close-requires-clause-alone g c = alone_rest _ (state c.take_and_give_twice.new.pass) (λ i. (c.in_ok-table.ensures.first.0 i).numbers) c.take_and_give_twice.ensures.rest
