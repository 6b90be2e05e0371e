use Rattle.oak_core.proofs.seats.Alone.{numbers_alone}
use Rattle.table_tests.proofs.values.reading_tests.two_passes_over_one_header.Goals as goal

pub rounds_in_two_threads-requires-clause-alone : goal.rounds_in_two_threads-requires-clause-alone
rounds_in_two_threads-requires-clause-alone g c _ = numbers_alone _ (λ i. (c.in_ok-table.ensures.first.0 i).numbers)
