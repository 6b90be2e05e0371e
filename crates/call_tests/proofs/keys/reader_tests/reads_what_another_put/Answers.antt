use Rattle.std.proofs.Common.{ℕ, ◌∙◌, subst}
use Rattle.oak_core.specs.Passes.{state, key as sizes, call_of}
use Rattle.point_ops.specs.TestStates.{IsReadyAgain}
use Rattle.point_ops.proofs.TestLaws.{again_both, view_again}
use Rattle.call_tests.proofs.keys.reader_tests.reads_what_another_put.Goals as goal

pub follows_other-requires-clause-has : goal.follows_other-requires-clause-has
follows_other-requires-clause-has g c = view_again (sizes c.args.table.now) c.view_of_k-view.result (call_of c.view_of_k-view.new.pass) (state c.view_of_k-view.new.pass) (state c.reads_beside.new.pass) c.reads_beside.ensures.ready c.view_of_k-view.ensures.has

pub returns-clause-ready : goal.returns-clause-ready
returns-clause-ready g c = let v = state c.args.pass.now in let u1 = state c.view_of_k-view.new.pass in let u2 = state c.reads_beside.new.pass in let u3 = state c.follows_other.new.pass in
    subst (λ (n : ℕ). IsReadyAgain n v u3) (c.reads_beside.ensures.own.0.call ∙ c.view_of_k-view.ensures.call)
    (again_both (call_of c.view_of_k-view.new.pass) (call_of c.reads_beside.new.pass) v u2 u3 (again_both 1 (call_of c.view_of_k-view.new.pass) v u1 u2 c.view_of_k-view.ensures.ready c.reads_beside.ensures.ready) c.follows_other.ensures.ready)

pub returns-clause-other : goal.returns-clause-other
returns-clause-other g c = let v = state c.args.other.now in let u1 = state c.put_byte-new.new.pass in let u2 = state c.reads_beside.new.other in let u3 = state c.follows_other.new.other in
    again_both (call_of c.reads_beside.new.other) 4 v u2 u3 (again_both 1 (call_of c.reads_beside.new.other) v u1 u2 c.put_byte-new.ensures.ready c.reads_beside.ensures.other) c.follows_other.ensures.other
