use Rattle.oak_core.proofs.seats.Alone.{numbers_alone}
use Rattle.oak_map.specs.Maps.{state}
use Rattle.map_tests.proofs.map.test_calls.make.Goals as goal

pub returns-clause-alone : goal.returns-clause-alone
returns-clause-alone g c = numbers_alone (state c.in_ok-map.pass) (λ i. (c.in_ok-map.ensures.first.0 i).numbers)
