use Rattle.point_ops.proofs.TestLaws.{again_both}
use Rattle.oak_map.specs.Maps.{state}
use Rattle.map_tests.proofs.map.giving_up_tests.compute_two.Goals as goal

pub returns-clause-ready : goal.returns-clause-ready
returns-clause-ready g c = again_both 3 4 (state c.args.pass.now) (state c.computes_to.new.pass) (state c.computes_to-2.new.pass) c.computes_to.ensures.ready c.computes_to-2.ensures.ready
