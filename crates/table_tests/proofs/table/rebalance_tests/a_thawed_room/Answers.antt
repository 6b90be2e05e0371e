use Rattle.oak_core.proofs.seats.Alone.{numbers_alone}
use Rattle.table_tests.proofs.table.rebalance_tests.a_thawed_room.Goals as goal

pub split_and_thaw-requires-clause-alone : goal.split_and_thaw-requires-clause-alone
split_and_thaw-requires-clause-alone g c = numbers_alone _ (λ i. (c.in_ok-table.ensures.first.0 i).numbers)
