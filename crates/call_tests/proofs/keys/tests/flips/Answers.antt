use Rattle.std.proofs.Common.{rules, ℕ, ◌+◌, subst, arith}
use Rattle.oak_core.specs.Passes.{state, call_of}
use Rattle.point_ops.specs.TestStates.{IsReadyAgain}
use Rattle.point_ops.proofs.TestLaws.{again_both}
use Rattle.call_tests.proofs.keys.tests.flips.Goals as goal

pub loop-i-preserved : goal.loop-i-preserved
loop-i-preserved g c = let s = c.loop-i.invariant in let i = c.loop-i.i in let v = state c.args.pass.now in let u = state c.loop-i.pass in let t = state c.turn.new.pass in let w = state c.flip.new.pass in let now = c.turn.ensures.turned.call in record {
  own = search rules;
  call = let same = c.flip.ensures.own.call in omega arith;
  ready = subst (λ (n : ℕ). IsReadyAgain n v w) (let e = now in omega arith) (again_both (i + 2) (call_of c.turn.new.pass) v t w (again_both (i + 1) (i + 2) v u t s.ready c.turn.ensures.ready) c.flip.ensures.ready);
  few = let had = s.few in let one = c.flip.ensures.few in omega arith;
}
