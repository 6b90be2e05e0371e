use Rattle.oak_map.specs.Maps.{state}
use Rattle.map_tests.proofs.TestLaws.{alone_still}
use Rattle.map_tests.proofs.map.tests.an_absent_key.Goals as goal

pub close-requires-clause-alone : goal.close-requires-clause-alone
close-requires-clause-alone g c κs = alone_still (state c.in_ok-map.pass) (state c.is_absent.new.pass) c.is_absent.ensures.ready.numbers c.in_ok-map.ensures.alone
