use Rattle.std.proofs.Common.{◌≡◌, length, slice_index}
use Rattle.oak_core.specs.Passes.{Stays, state, key}
use Rattle.arena_ops.specs.Stack.{IsStack, KeepsRest}
use Rattle.table_tests.proofs.values.arena_ops_tests.take_all.Given as goal

abbrev pub invariant-loop-i : goal.invariant-loop-i
invariant-loop-i g l = record {
  stays : Stays l.fn.pass l.pass;
  rest : KeepsRest (state l.fn.pass) (state l.pass);
  long : length l.numbers ≡ length l.fn.numbers;
  stack : IsStack (key l.table) l.class (λ k. slice_index l.numbers k) l.i (state l.pass).blocks.held;
}
