use Rattle.std.proofs.Common.{◌≡◌, ◌*◌, ◌≤◌}
use Rattle.std.specs.Prelude.{count_ones}
use Rattle.oak_model.specs.Counts.{below}
use Rattle.oak_core.specs.Memory.{memory}
use Rattle.oak_core.specs.Closing.{closed_key, closed_words}
use Rattle.oak_core.proofs.closing.Closed.used_blocks.Given as goal

abbrev pub invariant-loop-i : goal.invariant-loop-i
invariant-loop-i l = record {
  counted : l.used ≡ below (λ i. count_ones ((memory (closed_key l.fn.self) (closed_words l.fn.self)).arena.bits l.fn.class i)) l.i;
  small : l.used ≤ l.i * 64;
}
