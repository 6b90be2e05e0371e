use Rattle.std.proofs.Common.{◌∙◌}
use Rattle.oak_core.specs.Passes.{state}
use Rattle.oak_core.proofs.seats.Alone.{numbers_alone}
use Rattle.rounds.proofs.point.chunks.fill_one.Goals as goal

pub close-requires-clause-alone : goal.close-requires-clause-alone
close-requires-clause-alone c = numbers_alone (state c.get_rounds-sum.new.pass) (c.get_rounds-sum.ensures.ready.numbers ∙ (c.fill-new.ensures.ready.numbers ∙ (λ i. (c.in_ok-table.ensures.first.0 i).numbers)))
