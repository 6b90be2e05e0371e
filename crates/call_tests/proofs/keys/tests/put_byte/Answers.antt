use Rattle.std.proofs.Common.{ℕ, sym, subst}
use Rattle.oak_model.specs.declared.cells.CellCall.TheVariants.{Put}
use Rattle.oak_core.specs.Passes.{state, call_of}
use Rattle.point_ops.specs.TestStates.{IsReady, IsReadyAgain}
use Rattle.point_ops.proofs.TestLaws.{again_both, wrote_again}
use Rattle.call_tests.proofs.keys.tests.put_byte.Goals as goal

pub returns-clause-ready : goal.returns-clause-ready
returns-clause-ready c = let v = state c.turn.new.pass in let w = state c.try_put.new.pass in
    again_both c.args.call c.args.call (state c.args.pass.now) v w c.turn.ensures.ready
    (subst (λ (n : ℕ). IsReadyAgain n v w) c.turn.ensures.turned.call
    (wrote_again c.try_put.result (call_of c.turn.new.pass) _ (Put _) v w c.try_put.ensures.wrote c.try_put.ensures.refused (subst (λ (n : ℕ). IsReady n v) (sym c.turn.ensures.turned.call) c.turn.ensures.ready.ready)))
