use Rattle.std.proofs.Common.{◌∙◌}
use Rattle.oak_core.proofs.seats.Alone.{numbers_alone}
use Rattle.oak_map.specs.Maps.{state}
use Rattle.rounds.proofs.scan.run.Goals as goal

pub close-requires-clause-alone : goal.close-requires-clause-alone
close-requires-clause-alone g c κs within = numbers_alone (state c.go_rounds-pairs.new.pass) (c.go_rounds-pairs.ensures.numbers ∙ (c.fill-keys.ensures.numbers ∙ (λ i. (c.in_ok-map.ensures.first.0 i).numbers)))
