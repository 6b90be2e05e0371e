use Rattle.oak_core.specs.Passes.{state}
use Rattle.oak_core.proofs.seats.Alone.{numbers_alone}
use Rattle.call_tests.proofs.keys.reader_tests.a_reading_stands_beside_a_put.Goals as goal

pub split_and_read-requires-clause-alone : goal.split_and_read-requires-clause-alone
split_and_read-requires-clause-alone g c = numbers_alone (state c.in_ok-table.pass) (λ i. (c.in_ok-table.ensures.first.0 i).numbers)
