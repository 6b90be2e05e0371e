use Rattle.std.proofs.Common.{ap, ◌∙◌}
use Rattle.oak_core.specs.declared.table.Pass.{Pass}
use Rattle.oak_core.specs.Passes.{state}
use Rattle.oak_core.proofs.seats.Alone.{numbers_alone}
use Rattle.table_tests.proofs.table.pass_tests.hints_of_a_pass.Goals as goal

pub close-requires-clause-alone : goal.close-requires-clause-alone
close-requires-clause-alone g c = numbers_alone (state c.hints_by.new.pass) (ap (λ (p : Pass). (state p).numbers) c.hints_by.ensures ∙ (λ i. (c.in_ok-table.ensures.first.0 i).numbers))
