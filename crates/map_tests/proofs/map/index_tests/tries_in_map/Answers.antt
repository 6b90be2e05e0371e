use Rattle.oak_map.specs.Maps.{state}
use Rattle.map_tests.proofs.TestLaws.{alone_still}
use Rattle.map_tests.proofs.map.index_tests.tries_in_map.Goals as goal

pub tries_of_gets-tries-requires-clause-alone : goal.tries_of_gets-tries-requires-clause-alone
tries_of_gets-tries-requires-clause-alone g c κs lives = alone_still (state c.in_ok-map.pass) (state c.put_all.new.pass) c.put_all.ensures.ready.numbers c.in_ok-map.ensures.alone
