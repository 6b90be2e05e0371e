use Rattle.point_ops.proofs.TestLaws.{again_both}
use Rattle.oak_map.specs.Maps.{state}
use Rattle.map_tests.proofs.map.try_put_tests.put_twice.Goals as goal

pub returns-clause-ready : goal.returns-clause-ready
returns-clause-ready g c = again_both 1 2 (state c.args.pass.now) (state c.tries-new.new.pass) (state c.tries-over.new.pass) c.tries-new.ensures.ready c.tries-over.ensures.ready
