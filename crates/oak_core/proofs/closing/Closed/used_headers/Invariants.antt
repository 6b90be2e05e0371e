use Rattle.std.proofs.Common.{◌≡◌, ◌≤◌, not}
use Rattle.oak_model.specs.Counts.{below, one_if}
use Rattle.oak_core.specs.Memory.{memory}
use Rattle.oak_core.specs.Closing.{closed_key, closed_words}
use Rattle.oak_core.specs.Usage.{is_free}
use Rattle.oak_core.proofs.closing.Closed.used_headers.Given as goal

abbrev pub invariant-loop-header : goal.invariant-loop-header
invariant-loop-header l = record {
  counted : l.used ≡ below (λ h. one_if (not (is_free ((memory (closed_key l.fn.self) (closed_words l.fn.self)).headers.pin h)))) l.header;
  small : l.used ≤ l.header;
}
