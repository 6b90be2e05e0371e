use Rattle.point_ops.proofs.TestLaws.{again_both}
use Rattle.oak_map.specs.Maps.{state}
use Rattle.map_tests.proofs.map.tests.is_put.Goals as goal

pub returns-clause-ready : goal.returns-clause-ready
returns-clause-ready g c = let v = state c.args.pass.now in let a = state c.put-new.new.pass in let b = state c.put_if_absent-kept.new.pass in let w = state c.put-full.new.pass in
    again_both 2 3 v b w (again_both 1 2 v a b c.put-new.ensures.ready c.put_if_absent-kept.ensures.ready) c.put-full.ensures.ready
