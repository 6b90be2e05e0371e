use Rattle.oak_core.specs.MayWrite.{IsNewCall}
use Rattle.oak_core.specs.Passes.{state, call_of}
use Rattle.oak_core.specs.Scratch.{StaysButSlots}
use Rattle.point_ops.specs.TestStates.{IsReadyAgain}
use Rattle.call_tests.proofs.rebalancing.thread_tests.write.Given as goal

abbrev pub invariant-loop : goal.invariant-loop
invariant-loop g l = record {
  own : StaysButSlots l.fn.pass l.pass;
  ready : IsReadyAgain (call_of l.fn.pass) (state l.fn.pass) (state l.pass);
  turn : IsNewCall (call_of l.fn.pass) (state l.pass);
}
