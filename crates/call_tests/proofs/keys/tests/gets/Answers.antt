use Rattle.std.proofs.Common.{ℕ, subst}
use Rattle.oak_core.specs.Passes.{state, key as sizes, call_of}
use Rattle.point_ops.specs.TestStates.{IsReadyAgain}
use Rattle.point_ops.proofs.TestLaws.{again_both, got_again}
use Rattle.call_tests.proofs.keys.tests.gets.Goals as goal

pub returns-in-Ok-Absent-clause-ready : goal.returns-in-Ok-Absent-clause-ready
returns-in-Ok-Absent-clause-ready g c = got_again c.try_get.result (sizes c.args.table.now) (call_of c.args.pass.now) c.args.key.now (state c.args.pass.now) (state c.try_get.new.pass) c.try_get.ensures.got c.try_get.ensures.refused c.requires.ready

pub returns-in-Ok-View-clause-ready : goal.returns-in-Ok-View-clause-ready
returns-in-Ok-View-clause-ready g c = let call = call_of c.args.pass.now in let v = state c.args.pass.now in let u = state c.try_get.new.pass in let w = state c.shows-at.new.pass in
    subst (λ (n : ℕ). IsReadyAgain n v w) c.try_get.ensures.own.call (again_both call (call_of c.try_get.new.pass) v u w (got_again c.try_get.result (sizes c.args.table.now) call c.args.key.now v u c.try_get.ensures.got c.try_get.ensures.refused c.requires.ready) c.shows-at.ensures.ready)

pub returns-in-Err-clause-ready : goal.returns-in-Err-clause-ready
returns-in-Err-clause-ready g c = got_again c.try_get.result (sizes c.args.table.now) (call_of c.args.pass.now) c.args.key.now (state c.args.pass.now) (state c.try_get.new.pass) c.try_get.ensures.got c.try_get.ensures.refused c.requires.ready
