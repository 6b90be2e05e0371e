use Rattle.oak_core.specs.Passes.{Stays, state, call_of}
use Rattle.point_ops.specs.TestStates.{IsReadyAgain}
use Rattle.rounds.proofs.point.rounds.get_again.Given as goal

abbrev pub invariant-loop : goal.invariant-loop
invariant-loop l = record {
  own : Stays l.fn.pass l.pass;
  ready : IsReadyAgain (call_of l.fn.pass) (state l.fn.pass) (state l.pass);
}
