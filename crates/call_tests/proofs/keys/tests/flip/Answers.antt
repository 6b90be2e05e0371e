use Rattle.std.proofs.Common.{rules, ℕ, Err, refl, sym, ◌∙◌, subst}
use Rattle.oak_core.specs.Passes.{state, call_of}
use Rattle.point_ops.specs.Replies.{Refuses}
use Rattle.point_ops.specs.TestStates.{IsReady, IsReadyAgain}
use Rattle.point_ops.proofs.TestLaws.{again_both, wrote_again}
use Rattle.call_tests.proofs.TestLaws.{refused_new}
use Rattle.call_tests.proofs.keys.tests.flip.Goals as goal

pub returns-in-Ok-clause-ready : goal.returns-in-Ok-clause-ready
returns-in-Ok-clause-ready g c = let s = c.loop.invariant in let v = state c.args.pass.now in let u = state c.loop.pass in let w = state c.try_compute.new.pass in
    subst (λ (n : ℕ). IsReadyAgain n v w) s.own.call (again_both (call_of c.args.pass.now) (call_of c.loop.pass) v u w s.ready
    (wrote_again c.try_compute.result (call_of c.loop.pass) _ _ u w c.try_compute.ensures.wrote c.try_compute.ensures.refused (subst (λ (n : ℕ). IsReady n u) (sym s.own.call) s.ready.ready)))

pub loop-preserved : goal.loop-preserved
loop-preserved g c = let s = c.loop.invariant in let o = c.try_compute.ensures.own in let call = call_of c.args.pass.now in let v = state c.args.pass.now in let u = state c.loop.pass in let w = state c.try_compute.new.pass in record {
  own = record { table = o.table ∙ s.own.table; seat = o.seat ∙ s.own.seat; call = o.call ∙ s.own.call; scratch = o.scratch; sorting = o.sorting ∙ s.own.sorting };
  ready = subst (λ (n : ℕ). IsReadyAgain n v w) s.own.call (again_both call (call_of c.loop.pass) v u w s.ready
      (wrote_again c.try_compute.result (call_of c.loop.pass) _ _ u w c.try_compute.ensures.wrote c.try_compute.ensures.refused (subst (λ (n : ℕ). IsReady n u) (sym s.own.call) s.ready.ready)));
  turn = refused_new (Err c.in-Err.why) c.in-Err.why call u w refl (subst (λ (n : ℕ). Refuses n u w) s.own.call c.in-Err.ensures.refused) s.turn;
  few = search rules;
}
