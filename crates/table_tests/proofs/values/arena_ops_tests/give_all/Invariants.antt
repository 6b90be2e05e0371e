use Rattle.std.proofs.Common.{◌≤◌, length, slice_index}
use Rattle.oak_core.specs.Passes.{Stays, state, key}
use Rattle.arena_ops.specs.Stack.{IsStack, KeepsRest}
use Rattle.table_tests.proofs.values.arena_ops_tests.give_all.Given as goal

abbrev pub invariant-loop-left : goal.invariant-loop-left
invariant-loop-left l = record {
  stays : Stays l.fn.pass l.pass;
  rest : KeepsRest (state l.fn.pass) (state l.pass);
  few : l.left ≤ length l.numbers;
  stack : IsStack (key l.table) l.class (λ k. slice_index l.numbers k) l.left (state l.pass).blocks.held;
}

abbrev pub decreases-loop-left : goal.decreases-loop-left
decreases-loop-left l = l.left
