use Rattle.std.proofs.Common.{◌≡◌, ℕ, ◌<◌, sym, ◌∙◌, subst}
use Rattle.oak_model.specs.Counts.{Each}
use Rattle.oak_core.specs.declared.states.KeyedWrite.{KeyedWrite}
use Rattle.oak_core.specs.declared.states.Knowledge.{Knowledge}
use Rattle.oak_core.specs.declared.states.PassState.{PassState}
use Rattle.oak_core.specs.MayWrite.{IsNewCall}
use Rattle.oak_core.specs.Passes.{state, call_of}
use Rattle.point_ops.specs.TestStates.{IsReadyAgain}
use Rattle.point_ops.proofs.TestLaws.{again_both}
use Rattle.call_tests.proofs.rebalancing.thread_tests.write.Goals as goal

-- it knows what it knew, so the call is still one without a write
new_still : (call : ℕ) (v w : PassState) → w.knowledge ≡ v.knowledge → IsNewCall call v → IsNewCall call w
new_still call v w same new = (new.0, subst (λ (q : Knowledge). Each (λ (x : KeyedWrite). x.write.call < call) q.mine) (sym same) new.1)

pub loop-preserved : goal.loop-preserved
loop-preserved g c = let s = c.loop.invariant in let t = c.try_write-said.ensures in let m = c.make_way.ensures in let v = state c.args.pass.now in let u = state c.loop.pass in let w = state c.try_write-said.new.pass in let x = state c.make_way.new.pass in
    let call = call_of c.args.pass.now in let new : IsNewCall (call_of c.loop.pass) w = t.refused _ c.in-Some-given_up.ensures in record {
      own = record { table = m.own.table ∙ (t.own.table ∙ s.own.table); seat = m.own.seat ∙ (t.own.seat ∙ s.own.seat); call = m.own.call ∙ (t.own.call ∙ s.own.call); scratch = m.own.scratch ∙ (t.own.scratch ∙ s.own.scratch); sorting = m.own.sorting };
      ready = subst (λ (n : ℕ). IsReadyAgain n v x) (t.own.call ∙ s.own.call) (again_both call (call_of c.try_write-said.new.pass) v u x s.ready (again_both (call_of c.loop.pass) (call_of c.try_write-said.new.pass) u w x t.ready m.ready));
      turn = new_still call w x m.knows (subst (λ (n : ℕ). IsNewCall n w) s.own.call new);
    }
