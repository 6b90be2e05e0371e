use Rattle.std.proofs.Common.{◌≡◌, ◌*◌, ◌≤◌}
use Rattle.oak_model.specs.Counts.{below}
use Rattle.arena_core.specs.Arena.{block_words, byte_words}
use Rattle.arena_core.proofs.layout.bytes_below.Given as goal

abbrev pub invariant-loop-r : goal.invariant-loop-r
invariant-loop-r l = (l.sum ≡ below (byte_words l.shape) l.r) × (l.wide ≡ block_words l.r) × (l.sum ≤ l.r * 8388608)
