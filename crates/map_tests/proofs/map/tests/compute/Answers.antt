use Rattle.std.proofs.Common.{rules}
use Rattle.std.specs.Prelude.{Ok}
use Rattle.oak_model.specs.declared.cells.CellCall.TheVariants.{Compute}
use Rattle.point_ops.proofs.TestLaws.{again_both, wrote_again}
use Rattle.oak_map.specs.Maps.{state}
use Rattle.map_tests.proofs.map.tests.compute.Goals as goal

pub returns-clause-ready : goal.returns-clause-ready
returns-clause-ready g c = let v = state c.args.pass.now in let turned = state c.turn.new.pass in let w = state c.compute.new.pass in
    let o = c.args.recipe.now in let x = goal.Recipe-dyn g (o.vtable, o.value) in let ask = Compute (x.told_kind o.value) (x.told_argument o.value) in
    again_both c.args.call c.args.call v turned w c.turn.ensures.ready (wrote_again (Ok c.compute.result) c.args.call c.args.key.now ask turned w (search rules) tt c.turn.ensures.ready.ready)
