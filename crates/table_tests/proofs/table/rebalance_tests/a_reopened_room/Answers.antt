use Rattle.oak_core.proofs.seats.Alone.{numbers_alone}
use Rattle.table_tests.proofs.table.rebalance_tests.a_reopened_room.Goals as goal

pub close_and_reopen-requires-clause-alone : goal.close_and_reopen-requires-clause-alone
close_and_reopen-requires-clause-alone g c = numbers_alone _ (λ i. (c.in_ok-table.ensures.first.0 i).numbers)
