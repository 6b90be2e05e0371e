use Rattle.std.proofs.Common.{ℕ, subst}
use Rattle.point_ops.specs.TestStates.{IsReadyAgain}
use Rattle.point_ops.proofs.TestLaws.{again_both}
use Rattle.oak_map.specs.Maps.{call_of, state}
use Rattle.map_tests.proofs.map.tests.is_absent.Goals as goal

pub returns-clause-ready : goal.returns-clause-ready
returns-clause-ready g c = let v = state c.args.pass.now in let a = state c.sees_none.new.pass in let b = state c.remove-removed.new.pass in let d = state c.compute-computed.new.pass in let w = state c.settle.new.pass in
    again_both 2 2 v d w (again_both 1 2 v b d (again_both (call_of c.args.pass.now) 1 v a b c.sees_none.ensures.ready c.remove-removed.ensures.ready) c.compute-computed.ensures.ready) (subst (λ (n : ℕ). IsReadyAgain n d w) c.compute-computed.ensures.call c.settle.ensures.ready)
