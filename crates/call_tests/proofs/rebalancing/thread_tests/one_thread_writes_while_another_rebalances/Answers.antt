use Rattle.oak_core.specs.Passes.{state}
use Rattle.oak_core.proofs.seats.Alone.{numbers_alone}
use Rattle.call_tests.proofs.rebalancing.thread_tests.one_thread_writes_while_another_rebalances.Goals as goal

pub split_and_work-wrote-requires-clause-alone : goal.split_and_work-wrote-requires-clause-alone
split_and_work-wrote-requires-clause-alone g c _ = numbers_alone (state c.in_ok-table.pass) (λ i. (c.in_ok-table.ensures.first.0 i).numbers)
