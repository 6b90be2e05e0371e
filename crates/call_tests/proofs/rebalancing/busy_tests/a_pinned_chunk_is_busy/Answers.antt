use Rattle.oak_core.specs.Passes.{state}
use Rattle.oak_core.proofs.seats.Alone.{numbers_alone}
use Rattle.call_tests.proofs.rebalancing.busy_tests.a_pinned_chunk_is_busy.Goals as goal

pub split_and_try-requires-clause-alone : goal.split_and_try-requires-clause-alone
split_and_try-requires-clause-alone g c κs = numbers_alone (state c.in_ok-table.pass) (λ i. (c.in_ok-table.ensures.first.0 i).numbers)
