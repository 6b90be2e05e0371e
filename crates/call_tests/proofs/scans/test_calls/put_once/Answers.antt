use Rattle.oak_model.specs.declared.cells.CellCall.TheVariants.{Put}
use Rattle.oak_core.specs.Passes.{state, call_of}
use Rattle.point_ops.proofs.TestLaws.{wrote_again}
use Rattle.call_tests.proofs.scans.test_calls.put_once.Goals as goal

pub returns-clause-ready : goal.returns-clause-ready
returns-clause-ready c = wrote_again c.try_put.result (call_of c.args.pass.now) c.args.key.now (Put c.args.bytes.now) (state c.args.pass.now) (state c.try_put.new.pass) c.try_put.ensures.wrote c.try_put.ensures.refused c.requires.ready
