use Rattle.std.proofs.Common.{◌∙◌}
use Rattle.oak_core.specs.Passes.{state}
use Rattle.oak_core.proofs.seats.Alone.{numbers_alone}
use Rattle.oak_c.proofs.trips.put_and_get.Goals as goal

pub close-requires-clause-alone : goal.close-requires-clause-alone
close-requires-clause-alone c = numbers_alone (state c.get-got.new.pass) (c.get-got.ensures.numbers ∙ (c.put-put_at.ensures.numbers ∙ ((λ i. (c.turn.ensures.state i).0.numbers) ∙ (λ i. (c.in-Ok.ensures.first.0 i).numbers))))
