use Rattle.std.proofs.Common.{◌≡◌, ◌<◌, ℕ, length, slice_index}
use Rattle.oak_model.specs.declared.limits.TheConstants.{CLASSES}
use Rattle.oak_core.specs.Memory.{memory}
use Rattle.oak_core.specs.Closing.{closed_key, closed_words}
use Rattle.oak_core.specs.Usage.{used_blocks}
use Rattle.oak_core.proofs.closing.Closed.usage.Given as goal

abbrev pub invariant-loop-class : goal.invariant-loop-class
invariant-loop-class l = record {
  long : length l.blocks ≡ CLASSES;
  each : (k : ℕ) → k < l.class → slice_index l.blocks k ≡ used_blocks (closed_key l.fn.self) (memory (closed_key l.fn.self) (closed_words l.fn.self)) k;
}
