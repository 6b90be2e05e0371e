use Rattle.oak_map.specs.Maps.{state}
use Rattle.map_tests.proofs.TestLaws.{alone_still}
use Rattle.map_tests.proofs.map.row_tests.works.Goals as goal

pub close-requires-clause-alone : goal.close-requires-clause-alone
close-requires-clause-alone g c κs lives = alone_still (state c.in_ok-map.pass) (state c.answers_row.new.pass) c.answers_row.ensures.numbers c.in_ok-map.ensures.alone
