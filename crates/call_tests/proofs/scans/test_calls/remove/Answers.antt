use Rattle.oak_model.specs.declared.cells.CellCall.TheVariants.{Remove}
use Rattle.oak_core.specs.Passes.{state, call_of}
use Rattle.point_ops.proofs.TestLaws.{wrote_again}
use Rattle.call_tests.proofs.scans.test_calls.remove.Goals as goal

pub returns-clause-ready : goal.returns-clause-ready
returns-clause-ready c = wrote_again c.try_remove.result (call_of c.args.pass.now) c.args.key.now Remove (state c.args.pass.now) (state c.try_remove.new.pass) c.try_remove.ensures.wrote c.try_remove.ensures.refused c.requires.ready
