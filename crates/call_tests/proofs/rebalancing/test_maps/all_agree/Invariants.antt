use Rattle.oak_core.specs.Passes.{Stays, state, call_of}
use Rattle.point_ops.specs.TestStates.{IsReadyAgain}
use Rattle.call_tests.proofs.rebalancing.test_maps.all_agree.Given as goal

abbrev pub invariant-loop-key : goal.invariant-loop-key
invariant-loop-key g l = record {
  own : Stays l.fn.pass l.pass;
  ready : IsReadyAgain (call_of l.fn.pass) (state l.fn.pass) (state l.pass);
}
