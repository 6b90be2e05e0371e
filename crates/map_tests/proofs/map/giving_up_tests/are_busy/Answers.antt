use Rattle.point_ops.proofs.TestLaws.{again_both}
use Rattle.oak_map.specs.Maps.{state}
use Rattle.map_tests.proofs.map.giving_up_tests.are_busy.Goals as goal

pub returns-clause-ready : goal.returns-clause-ready
returns-clause-ready g c = again_both 2 3 (state c.args.pass.now) (state c.removes-busy.new.pass) (state c.computes_to.new.pass) c.removes-busy.ensures.ready c.computes_to.ensures.ready
