use Rattle.point_ops.proofs.TestLaws.{again_both}
use Rattle.oak_map.specs.Maps.{state}
use Rattle.map_tests.proofs.map.giving_up_tests.remove_twice.Goals as goal

pub returns-clause-ready : goal.returns-clause-ready
returns-clause-ready g c = again_both 5 6 (state c.args.pass.now) (state c.removes-removed.new.pass) (state c.removes-away.new.pass) c.removes-removed.ensures.ready c.removes-away.ensures.ready
