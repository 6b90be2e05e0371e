use Rattle.std.proofs.Common.{sym, subst}
use Rattle.oak_core.specs.declared.table.Pass.{Pass}
use Rattle.oak_core.specs.Passes.{state as table_state}
use Rattle.point_ops.specs.TestStates.{HasView}
use Rattle.point_ops.proofs.TestLaws.{view_again}
use Rattle.oak_map.specs.Maps.{sizes}
use Rattle.map_tests.proofs.LendingTests.{has_known}
use Rattle.map_tests.proofs.map.lending_tests.shows.Goals as goal

pub looks_of-seen-requires-clause-known : goal.looks_of-seen-requires-clause-known
looks_of-seen-requires-clause-known g c κs lives = let z = sizes c.args.map.now in let x = c.args.view.now in
    has_known z x _ (subst (λ (p : Pass). HasView z x (table_state p)) (sym c.pass_mut.ensures.pass) c.requires.has)

pub returns-clause-has : goal.returns-clause-has
returns-clause-has g c = let z = sizes c.args.map.now in let x = c.args.view.now in
    view_again z x _ _ _ c.looks_of-seen.ensures.ready (subst (λ (p : Pass). HasView z x (table_state p)) (sym c.pass_mut.ensures.pass) c.requires.has)
