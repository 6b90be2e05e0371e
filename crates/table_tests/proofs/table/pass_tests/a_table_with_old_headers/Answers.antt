use Rattle.oak_core.proofs.seats.Alone.{numbers_alone}
use Rattle.table_tests.proofs.table.pass_tests.a_table_with_old_headers.Goals as goal

pub close-requires-clause-alone : goal.close-requires-clause-alone
close-requires-clause-alone g c = numbers_alone _ (λ i. (c.in_ok-table.ensures.first.0 i).numbers)
