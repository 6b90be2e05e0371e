use Rattle.std.proofs.Common.{◌∙◌}
use Rattle.oak_core.specs.Passes.{state}
use Rattle.oak_core.proofs.seats.Alone.{numbers_alone}
use Rattle.call_tests.proofs.keys.tests.run_by_recipe.Goals as goal

pub close-requires-clause-alone : goal.close-requires-clause-alone
close-requires-clause-alone g c = numbers_alone (state c.have_replies.new.pass) (c.have_replies.ensures.ready.numbers ∙ (λ i. (c.in_ok-table.ensures.first.0 i).numbers))
