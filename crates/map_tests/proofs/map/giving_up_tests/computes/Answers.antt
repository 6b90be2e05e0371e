use Rattle.std.proofs.Common.{rules}
use Rattle.oak_model.specs.declared.cells.CellCall.TheVariants.{Compute}
use Rattle.point_ops.proofs.TestLaws.{again_both}
use Rattle.oak_map.specs.GivingUp.{IsHalted}
use Rattle.oak_map.specs.Maps.{sizes, state}
use Rattle.map_tests.proofs.TestLaws.{changed_again}
use Rattle.map_tests.proofs.map.giving_up_tests.computes.Goals as goal

pub returns-clause-ready : goal.returns-clause-ready
returns-clause-ready g c = let v = state c.args.pass.now in let turned = state c.turn.new.pass in let w = state c.try_compute.new.pass in
    let o = c.args.recipe.now in let x = goal.Recipe-dyn g (o.vtable, o.value) in let ask = Compute (x.told_kind o.value) (x.told_argument o.value) in
    again_both c.args.call c.args.call v turned w c.turn.ensures.ready (changed_again c.try_compute.result (IsHalted (sizes c.args.map.now) c.args.call c.args.key.now ask) c.args.call c.args.looks c.args.key.now ask turned w (search rules) (search rules) c.turn.ensures.ready.ready)
