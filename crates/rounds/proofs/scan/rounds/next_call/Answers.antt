use Rattle.std.proofs.Common.{arith}
use Rattle.point_ops.proofs.TestLaws.{ready_later}
use Rattle.oak_map.specs.Maps.{call_of, state}
use Rattle.rounds.proofs.scan.rounds.next_call.Goals as goal

pub returns-clause-ready : goal.returns-clause-ready
returns-clause-ready g c = let above = c.requires.above in ready_later (call_of c.args.pass.now) c.args.call (state c.args.pass.now) (state c.turn.new.self) (omega arith) (λ i. (c.turn.ensures.state i).0) c.requires.ready
