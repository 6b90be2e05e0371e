use Rattle.std.proofs.Common.{◌≡◌, ℕ, ◌+◌, ◌<◌, ◌++◌}
use Rattle.oak_script.specs.declared.limits.TheConstants.{DRAWN_NUMBERS}
use Rattle.oak_script.specs.Workload.{drawn_calls}
use Rattle.oak_script.proofs.workload.drawn_calls.Given as goal

abbrev pub invariant-loop-i : goal.invariant-loop-i
invariant-loop-i l = record {
  small : l.x < DRAWN_NUMBERS;
  rest : (n : ℕ) → l.i + n ≡ l.calls → l.drawn.items ++ drawn_calls l.x n ≡ drawn_calls l.fn.start l.calls;
}
