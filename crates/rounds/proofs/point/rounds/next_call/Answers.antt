use Rattle.std.proofs.Common.{arith}
use Rattle.oak_core.specs.Passes.{state, call_of}
use Rattle.point_ops.proofs.TestLaws.{ready_later}
use Rattle.rounds.proofs.point.rounds.next_call.Goals as goal

pub returns-clause-ready : goal.returns-clause-ready
returns-clause-ready c = let above = c.requires.above in ready_later (call_of c.args.pass.now) c.args.call (state c.args.pass.now) (state c.turn.new.self) (omega arith) (λ i. (c.turn.ensures.state i).0) c.requires.ready
