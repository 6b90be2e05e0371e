use Rattle.oak_model.specs.declared.cells.CellCall.TheVariants.{Remove}
use Rattle.oak_core.specs.Passes.{state, call_of}
use Rattle.point_ops.proofs.TestLaws.{wrote_again}
use Rattle.call_tests.proofs.TestLaws.{refused_new}
use Rattle.call_tests.proofs.rebalancing.test_calls.remove.Goals as goal

pub returns-clause-ready : goal.returns-clause-ready
returns-clause-ready c = wrote_again c.try_remove.result (call_of c.args.pass.now) c.args.key.now Remove (state c.args.pass.now) (state c.try_remove.new.pass) c.try_remove.ensures.wrote c.try_remove.ensures.refused c.requires.ready

pub returns-clause-refused : goal.returns-clause-refused
returns-clause-refused c = λ halt e. refused_new c.try_remove.result halt (call_of c.args.pass.now) (state c.args.pass.now) (state c.try_remove.new.pass) (c.answered.ensures halt e) c.try_remove.ensures.refused c.requires.turn
