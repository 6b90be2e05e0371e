use Rattle.std.proofs.Common.{◌∙◌}
use Rattle.oak_core.proofs.seats.Alone.{numbers_alone}
use Rattle.oak_map.specs.Maps.{state}
use Rattle.map_tests.proofs.map.worn_tests.one_old_header.Goals as goal

pub close-requires-clause-alone : goal.close-requires-clause-alone
close-requires-clause-alone g c κs = numbers_alone (state c.one_key.new.pass) (c.one_key.ensures.numbers ∙ (λ i. (c.in_ok-map.ensures.first.0 i).numbers))
