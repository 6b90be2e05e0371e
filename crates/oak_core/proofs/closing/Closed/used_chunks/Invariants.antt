use Rattle.std.proofs.Common.{◌≡◌, ◌≤◌}
use Rattle.oak_model.specs.Counts.{below, one_if}
use Rattle.oak_core.specs.Memory.{memory}
use Rattle.oak_core.specs.Closing.{closed_key, closed_words}
use Rattle.oak_core.specs.Usage.{is_open}
use Rattle.oak_core.proofs.closing.Closed.used_chunks.Given as goal

abbrev pub invariant-loop-room : goal.invariant-loop-room
invariant-loop-room l = record {
  counted : l.used ≡ below (λ r. one_if (is_open ((memory (closed_key l.fn.self) (closed_words l.fn.self)).rooms.pin r))) l.room;
  small : l.used ≤ l.room;
}
