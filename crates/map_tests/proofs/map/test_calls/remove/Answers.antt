use Rattle.std.proofs.Common.{rules}
use Rattle.std.specs.Prelude.{Ok}
use Rattle.oak_model.specs.declared.cells.CellCall.TheVariants.{Remove}
use Rattle.point_ops.proofs.TestLaws.{again_both, wrote_again}
use Rattle.oak_map.specs.Maps.{state}
use Rattle.map_tests.proofs.map.test_calls.remove.Goals as goal

pub returns-clause-ready : goal.returns-clause-ready
returns-clause-ready g c = let v = state c.args.pass.now in let turned = state c.turn.new.pass in let w = state c.remove.new.pass in
    again_both c.args.call c.args.call v turned w c.turn.ensures.ready (wrote_again (Ok c.remove.result) c.args.call c.args.key.now Remove turned w (search rules) tt c.turn.ensures.ready.ready)
