use Rattle.std.proofs.Common.{◌∙◌}
use Rattle.oak_core.specs.Passes.{state}
use Rattle.oak_core.proofs.seats.Alone.{numbers_alone}
use Rattle.rounds.proofs.point.run.Goals as goal

pub close-requires-clause-alone : goal.close-requires-clause-alone
close-requires-clause-alone c = numbers_alone (state c.put_again-told.new.pass) (c.put_again-told.ensures.ready.numbers ∙ (c.get_again-got.ensures.ready.numbers ∙ (c.put.ensures.ready.numbers ∙ (λ i. (c.in_ok-table.ensures.first.0 i).numbers))))
