use Rattle.std.proofs.Common.{ℕ, subst}
use Rattle.oak_core.specs.Passes.{state, key as sizes}
use Rattle.point_ops.specs.TestStates.{IsReadyAgain}
use Rattle.point_ops.proofs.TestLaws.{again_both, view_again}
use Rattle.call_tests.proofs.keys.tests.follow.Goals as goal

pub shows-second-requires-clause-has : goal.shows-second-requires-clause-has
shows-second-requires-clause-has g c = let v = state c.args.pass.now in let u1 = state c.shows-first.new.pass in let u2 = state c.put_byte-over.new.pass in
    view_again (sizes c.args.table.now) c.args.view.now 3 v u2 (again_both _ 3 v u1 u2 c.shows-first.ensures.ready c.put_byte-over.ensures.ready) c.requires.has

pub is_gone-requires-clause-has : goal.is_gone-requires-clause-has
is_gone-requires-clause-has g c = let v = state c.args.pass.now in let u1 = state c.shows-first.new.pass in let u2 = state c.put_byte-over.new.pass in let u3 = state c.shows-second.new.pass in let u4 = state c.remove_k-removed.new.pass in
    let a2 = again_both _ 3 v u1 u2 c.shows-first.ensures.ready c.put_byte-over.ensures.ready in
    let a3 = again_both 3 _ v u2 u3 a2 c.shows-second.ensures.ready in
    view_again (sizes c.args.table.now) c.args.view.now 4 v u4 (again_both _ 4 v u3 u4 a3 c.remove_k-removed.ensures.ready) c.requires.has

pub is_gone-requires-2-clause-has : goal.is_gone-requires-2-clause-has
is_gone-requires-2-clause-has g c = let v = state c.args.pass.now in let u1 = state c.shows-first.new.pass in let u2 = state c.put_byte-over.new.pass in let u3 = state c.shows-second.new.pass in let u4 = state c.remove_k-removed.new.pass in
    let u5 = state c.is_gone.new.pass in let u6 = state c.put_byte-new.new.pass in
    let a2 = again_both _ 3 v u1 u2 c.shows-first.ensures.ready c.put_byte-over.ensures.ready in
    let a3 = again_both 3 _ v u2 u3 a2 c.shows-second.ensures.ready in
    let a4 = again_both _ 4 v u3 u4 a3 c.remove_k-removed.ensures.ready in
    let a5 = again_both 4 _ v u4 u5 a4 c.is_gone.ensures.ready in
    view_again (sizes c.args.table.now) c.args.view.now 5 v u6 (again_both _ 5 v u5 u6 a5 c.put_byte-new.ensures.ready) c.requires.has

pub returns-clause-ready : goal.returns-clause-ready
returns-clause-ready g c = let v = state c.args.pass.now in let u1 = state c.shows-first.new.pass in let u2 = state c.put_byte-over.new.pass in let u3 = state c.shows-second.new.pass in let u4 = state c.remove_k-removed.new.pass in
    let u5 = state c.is_gone.new.pass in let u6 = state c.put_byte-new.new.pass in let u7 = state c.is_gone-2.new.pass in
    let a2 = again_both _ 3 v u1 u2 c.shows-first.ensures.ready c.put_byte-over.ensures.ready in
    let a3 = again_both 3 _ v u2 u3 a2 c.shows-second.ensures.ready in
    let a4 = again_both _ 4 v u3 u4 a3 c.remove_k-removed.ensures.ready in
    let a5 = again_both 4 _ v u4 u5 a4 c.is_gone.ensures.ready in
    let a6 = again_both _ 5 v u5 u6 a5 c.put_byte-new.ensures.ready in
    subst (λ (i : ℕ). IsReadyAgain i v u7) c.put_byte-new.ensures.call (again_both 5 _ v u6 u7 a6 c.is_gone-2.ensures.ready)
