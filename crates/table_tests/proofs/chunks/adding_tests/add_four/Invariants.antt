use Rattle.oak_core.specs.Passes.{Stays, state}
use Rattle.chunk_ops.specs.TestStates.{IsIdleAgain}
use Rattle.table_tests.proofs.chunks.adding_tests.add_four.Given as goal

abbrev pub invariant-loop-i : goal.invariant-loop-i
invariant-loop-i g l = record {
  own : Stays l.fn.pass l.pass;
  idle : IsIdleAgain (state l.fn.pass) (state l.pass);
}
