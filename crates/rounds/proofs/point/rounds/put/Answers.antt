use Rattle.std.proofs.Common.{ℕ, sym, subst}
use Rattle.oak_core.specs.Passes.{state, call_of}
use Rattle.point_ops.specs.TestStates.{IsReady, IsReadyAgain}
use Rattle.point_ops.proofs.TestLaws.{again_both, wrote_again}
use Rattle.rounds.proofs.point.rounds.put.Goals as goal

pub returns-in_default-clause-ready : goal.returns-in_default-clause-ready
returns-in_default-clause-ready c = let call = call_of c.next_call.new.pass in let v = state c.args.pass.now in let u = state c.next_call.new.pass in let w = state c.try_put.new.pass in let is = c.next_call.ensures.turned.call in
    subst (λ (n : ℕ). IsReadyAgain n v w) is (again_both c.args.call call v u w c.next_call.ensures.ready
    (wrote_again c.try_put.result call _ _ u w c.try_put.ensures.wrote c.try_put.ensures.refused (subst (λ (n : ℕ). IsReady n u) (sym is) c.next_call.ensures.ready.ready)))
