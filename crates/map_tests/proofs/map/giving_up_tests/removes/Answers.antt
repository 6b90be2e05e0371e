use Rattle.std.proofs.Common.{rules}
use Rattle.oak_model.specs.declared.cells.CellCall.TheVariants.{Remove}
use Rattle.point_ops.proofs.TestLaws.{again_both}
use Rattle.oak_map.specs.GivingUp.{IsHalted}
use Rattle.oak_map.specs.Maps.{sizes, state}
use Rattle.map_tests.proofs.TestLaws.{changed_again}
use Rattle.map_tests.proofs.map.giving_up_tests.removes.Goals as goal

pub returns-clause-ready : goal.returns-clause-ready
returns-clause-ready g c = let v = state c.args.pass.now in let turned = state c.turn.new.pass in let w = state c.try_remove.new.pass in
    again_both c.args.call c.args.call v turned w c.turn.ensures.ready (changed_again c.try_remove.result (IsHalted (sizes c.args.map.now) c.args.call c.args.key.now Remove) c.args.call c.args.looks c.args.key.now Remove turned w (search rules) (search rules) c.turn.ensures.ready.ready)
