use Rattle.std.proofs.Common.{◌/◌, ◌<◌, ◌≤◌}
use Rattle.oak_core.specs.Passes.{Stays, state, key, call_of}
use Rattle.arena_ops.specs.Looking.{Looked}
use Rattle.arena_ops.proofs.searching.take_between.Given as goal

abbrev pub invariant-loop-i : goal.invariant-loop-i
invariant-loop-i l = record {
  stays : Stays l.fn.pass l.pass;
  looked : Looked (key l.table) (call_of l.fn.pass) l.class (state l.fn.pass) (state l.pass) (λ b. (l.from ≤ b / 64) × (b / 64 < l.i));
}
