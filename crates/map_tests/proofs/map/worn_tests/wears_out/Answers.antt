use Rattle.point_ops.proofs.TestLaws.{again_both, view_again}
use Rattle.oak_map.specs.Maps.{call_of, sizes, state}
use Rattle.map_tests.proofs.map.worn_tests.wears_out.Goals as goal

pub shows_none-requires-clause-has : goal.shows_none-requires-clause-has
shows_none-requires-clause-has g c κs lives = view_again (sizes c.args.map.now) c.args.view.now _ _ _ c.remove-removed.ensures.ready c.requires.has

pub returns-clause-again : goal.returns-clause-again
returns-clause-again g c = let v = state c.args.pass.now in let a = state c.remove-removed.new.pass in let b = state c.shows_none.new.pass in let w = state c.put-full.new.pass in
    again_both (call_of c.remove-removed.new.pass) 3 v b w (again_both 2 (call_of c.remove-removed.new.pass) v a b c.remove-removed.ensures.ready c.shows_none.ensures.ready) c.put-full.ensures.ready
