use Rattle.oak_core.proofs.seats.Alone.{numbers_alone}
use Rattle.table_tests.proofs.table.pass_tests.a_scratch_of_a_pass.Goals as goal

pub write_between_loads-requires-clause-alone : goal.write_between_loads-requires-clause-alone
write_between_loads-requires-clause-alone g c = numbers_alone _ (λ i. (c.in_ok-table.ensures.first.0 i).numbers)
