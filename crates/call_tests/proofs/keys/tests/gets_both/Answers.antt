use Rattle.std.proofs.Common.{ℕ, subst}
use Rattle.oak_core.specs.Passes.{state, call_of}
use Rattle.point_ops.specs.TestStates.{IsReadyAgain}
use Rattle.point_ops.proofs.TestLaws.{again_both}
use Rattle.call_tests.proofs.keys.tests.gets_both.Goals as goal

pub returns-clause-ready : goal.returns-clause-ready
returns-clause-ready g c = let call = call_of c.args.pass.now in let v = state c.args.pass.now in let u = state c.reads-read.new.pass in let w = state c.gets-got.new.pass in
    subst (λ (n : ℕ). IsReadyAgain n v w) c.reads-read.ensures.own.call (again_both call (call_of c.reads-read.new.pass) v u w c.reads-read.ensures.ready c.gets-got.ensures.ready)
