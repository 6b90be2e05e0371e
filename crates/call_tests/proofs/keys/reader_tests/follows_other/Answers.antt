use Rattle.std.proofs.Common.{ℕ, ◌∙◌, subst}
use Rattle.oak_core.specs.Passes.{state, key as sizes, call_of}
use Rattle.point_ops.specs.TestStates.{IsReadyAgain}
use Rattle.point_ops.proofs.TestLaws.{again_both, view_again}
use Rattle.call_tests.proofs.keys.reader_tests.follows_other.Goals as goal

pub is_gone-requires-clause-has : goal.is_gone-requires-clause-has
is_gone-requires-clause-has g c = view_again (sizes c.args.table.now) c.args.view.now (call_of c.args.pass.now) (state c.args.pass.now) (state c.shows-at.new.pass) c.shows-at.ensures.ready c.requires.has

pub returns-clause-ready : goal.returns-clause-ready
returns-clause-ready g c = let v = state c.args.pass.now in let u1 = state c.shows-at.new.pass in let u2 = state c.is_gone.new.pass in let u3 = state c.gets-absent.new.pass in
    subst (λ (n : ℕ). IsReadyAgain n v u3) (c.is_gone.ensures.own.call ∙ c.shows-at.ensures.own.call)
    (again_both (call_of c.shows-at.new.pass) (call_of c.is_gone.new.pass) v u2 u3 (again_both (call_of c.args.pass.now) (call_of c.shows-at.new.pass) v u1 u2 c.shows-at.ensures.ready c.is_gone.ensures.ready) c.gets-absent.ensures.ready)

pub returns-clause-other : goal.returns-clause-other
returns-clause-other g c = again_both 3 4 (state c.args.other.now) (state c.put_byte-over.new.pass) (state c.remove_k-removed.new.pass) c.put_byte-over.ensures.ready c.remove_k-removed.ensures.ready
