use Rattle.oak_core.specs.Passes.{Stays, state}
use Rattle.chunk_ops.specs.TestStates.{IsIdleAgain}
use Rattle.table_tests.proofs.chunks.adding_tests.add_at_last.Given as goal

abbrev pub invariant-loop : goal.invariant-loop
invariant-loop g l = record {
  own : Stays l.fn.pass l.pass;
  idle : IsIdleAgain (state l.fn.pass) (state l.pass);
}
