use Rattle.oak_core.specs.Passes.{state, call_of}
use Rattle.oak_core.specs.Scratch.{StaysButSlots}
use Rattle.point_ops.specs.TestStates.{IsReadyAgain}
use Rattle.call_tests.proofs.rebalancing.thread_tests.rebalance_all.Given as goal

abbrev pub invariant-loop-i : goal.invariant-loop-i
invariant-loop-i g l = record {
  own : StaysButSlots l.fn.pass l.pass;
  ready : IsReadyAgain (call_of l.fn.pass) (state l.fn.pass) (state l.pass);
}
