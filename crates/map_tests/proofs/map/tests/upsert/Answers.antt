use Rattle.std.proofs.Common.{rules}
use Rattle.oak_model.specs.declared.cells.CellCall.TheVariants.{Upsert}
use Rattle.point_ops.proofs.TestLaws.{again_both}
use Rattle.oak_map.specs.Maps.{sizes, state}
use Rattle.oak_map.proofs.TestLaws.{put_again}
use Rattle.map_tests.proofs.map.tests.upsert.Goals as goal

pub returns-clause-ready : goal.returns-clause-ready
returns-clause-ready g c = let z = sizes c.args.map.now in let v = state c.args.pass.now in let turned = state c.turn.new.pass in let w = state c.upsert.new.pass in
    let o = c.args.recipe.now in let x = goal.Recipe-dyn g (o.vtable, o.value) in
    again_both c.args.call c.args.call v turned w c.turn.ensures.ready (put_again c.upsert.result z c.args.call c.args.key.now (Upsert c.args.bytes.now (x.told_kind o.value) (x.told_argument o.value)) turned w (search rules) c.turn.ensures.ready.ready)
