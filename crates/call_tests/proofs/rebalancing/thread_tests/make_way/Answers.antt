use Rattle.std.proofs.Common.{refl, arith}
use Rattle.oak_core.specs.Passes.{state, call_of}
use Rattle.point_ops.proofs.TestLaws.{ready_later}
use Rattle.call_tests.proofs.rebalancing.thread_tests.make_way.Goals as goal

pub returns-in_default-clause-ready : goal.returns-in_default-clause-ready
returns-in_default-clause-ready g c = let v = state c.args.pass.now in ready_later (call_of c.args.pass.now) (call_of c.args.pass.now) v v (omega arith) refl c.requires.ready
