use Rattle.std.proofs.Common.{rules}
use Rattle.oak_model.specs.declared.cells.CellCall.TheVariants.{PutNew}
use Rattle.point_ops.proofs.TestLaws.{again_both}
use Rattle.oak_map.specs.Maps.{sizes, state}
use Rattle.map_tests.proofs.TestLaws.{tried_again}
use Rattle.map_tests.proofs.map.try_put_tests.tries_if_absent.Goals as goal

pub returns-clause-ready : goal.returns-clause-ready
returns-clause-ready g c = let z = sizes c.args.map.now in let v = state c.args.pass.now in let turned = state c.turn.new.pass in let w = state c.try_put_if_absent.new.pass in
    again_both c.args.call c.args.call v turned w c.turn.ensures.ready (tried_again c.try_put_if_absent.result z c.args.call 1 c.args.key.now (PutNew c.args.bytes.now) turned w (search rules) (search rules) c.turn.ensures.ready.ready)
