use Rattle.std.proofs.Common.{ℕ, subst}
use Rattle.point_ops.specs.TestStates.{IsReadyAgain}
use Rattle.point_ops.proofs.TestLaws.{again_both, view_again}
use Rattle.oak_map.specs.Maps.{call_of, sizes, state}
use Rattle.map_tests.proofs.map.lending_tests.one_life.Goals as goal

pub shows-requires-2-clause-has : goal.shows-requires-2-clause-has
shows-requires-2-clause-has g c κs lives = view_again (sizes c.args.map.now) c.args.view.now _ _ _ c.put-over.ensures.ready c.shows.ensures.has

pub shows_none-requires-clause-has : goal.shows_none-requires-clause-has
shows_none-requires-clause-has g c κs lives = view_again (sizes c.args.map.now) c.args.view.now _ _ _ c.remove-removed.ensures.ready c.shows-2.ensures.has

pub shows_none-requires-2-clause-has : goal.shows_none-requires-2-clause-has
shows_none-requires-2-clause-has g c κs lives = view_again (sizes c.args.map.now) c.args.view.now _ _ _ c.put-new.ensures.ready c.shows_none.ensures.has

pub returns-clause-again : goal.returns-clause-again
returns-clause-again g c = let v = state c.args.pass.now in let a = state c.shows.new.pass in let b = state c.put-over.new.pass in let d = state c.shows-2.new.pass in let e = state c.remove-removed.new.pass in let f = state c.shows_none.new.pass in let h = state c.put-new.new.pass in let w = state c.shows_none-2.new.pass in
    let over : IsReadyAgain 3 v b = again_both (call_of c.args.pass.now) 3 v a b c.shows.ensures.ready c.put-over.ensures.ready in
    let removed : IsReadyAgain 4 v e = again_both (call_of c.put-over.new.pass) 4 v d e (again_both 3 (call_of c.put-over.new.pass) v b d over c.shows-2.ensures.ready) c.remove-removed.ensures.ready in
    let new : IsReadyAgain 5 v h = again_both (call_of c.remove-removed.new.pass) 5 v f h (again_both 4 (call_of c.remove-removed.new.pass) v e f removed c.shows_none.ensures.ready) c.put-new.ensures.ready in
    again_both 5 5 v h w new (subst (λ (n : ℕ). IsReadyAgain n h w) c.put-new.ensures.call c.shows_none-2.ensures.ready)
