use Rattle.point_ops.proofs.TestLaws.{again_both}
use Rattle.oak_map.specs.Maps.{state}
use Rattle.map_tests.proofs.map.try_put_tests.keep_one.Goals as goal

pub returns-clause-ready : goal.returns-clause-ready
returns-clause-ready g c = again_both 3 4 (state c.args.pass.now) (state c.tries_if_absent-kept.new.pass) (state c.tries_if_absent-full.new.pass) c.tries_if_absent-kept.ensures.ready c.tries_if_absent-full.ensures.ready
