use Rattle.std.proofs.Common.{◌∙◌}
use Rattle.oak_core.specs.Passes.{state}
use Rattle.oak_core.proofs.seats.Alone.{numbers_alone}
use Rattle.table_tests.proofs.chunks.tests.tries_in_a_table_of_three_rooms.Goals as goal

pub close-requires-clause-alone : goal.close-requires-clause-alone
close-requires-clause-alone g c = numbers_alone (state c.tries_rise.new.pass) (c.tries_rise.ensures.idle.numbers ∙ (λ i. (c.in_ok-table.ensures.first.0 i).numbers))
