use Rattle.oak_model.specs.declared.cells.CellCall.TheVariants.{Put}
use Rattle.oak_core.specs.Passes.{state, call_of}
use Rattle.point_ops.proofs.TestLaws.{wrote_again}
use Rattle.call_tests.proofs.TestLaws.{refused_new}
use Rattle.call_tests.proofs.rebalancing.test_calls.put.Goals as goal

pub returns-clause-ready : goal.returns-clause-ready
returns-clause-ready c = wrote_again c.try_put.result (call_of c.args.pass.now) c.args.key.now (Put c.args.bytes.now) (state c.args.pass.now) (state c.try_put.new.pass) c.try_put.ensures.wrote c.try_put.ensures.refused c.requires.ready

pub returns-clause-refused : goal.returns-clause-refused
returns-clause-refused c = λ halt e. refused_new c.try_put.result halt (call_of c.args.pass.now) (state c.args.pass.now) (state c.try_put.new.pass) (c.answered.ensures halt e) c.try_put.ensures.refused c.requires.turn
