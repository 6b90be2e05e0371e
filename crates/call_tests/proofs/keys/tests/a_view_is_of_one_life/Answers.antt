use Rattle.std.proofs.Common.{◌∙◌}
use Rattle.oak_core.specs.Passes.{state}
use Rattle.oak_core.proofs.seats.Alone.{numbers_alone}
use Rattle.call_tests.proofs.keys.tests.a_view_is_of_one_life.Goals as goal

pub close-requires-clause-alone : goal.close-requires-clause-alone
close-requires-clause-alone g c = numbers_alone (state c.a_life_and_the_next.new.pass) (c.a_life_and_the_next.ensures.ready.numbers ∙ (λ i. (c.in_ok-table.ensures.first.0 i).numbers))
