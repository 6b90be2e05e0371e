use Rattle.oak_map.specs.Maps.{state}
use Rattle.map_tests.proofs.TestLaws.{alone_still}
use Rattle.map_tests.proofs.map.thread_tests.scans_beside_a_writer.Goals as goal

pub split_and_work-requires-clause-alone : goal.split_and_work-requires-clause-alone
split_and_work-requires-clause-alone g c _ = alone_still (state c.in_ok-map.pass) (state c.fill.new.pass) c.fill.ensures.ready.numbers c.in_ok-map.ensures.alone
