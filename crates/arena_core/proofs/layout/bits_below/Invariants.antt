use Rattle.std.proofs.Common.{◌≡◌, ◌*◌, ◌≤◌}
use Rattle.oak_model.specs.Counts.{below}
use Rattle.arena_core.specs.Arena.{bit_words}
use Rattle.arena_core.proofs.layout.bits_below.Given as goal

abbrev pub invariant-loop-r : goal.invariant-loop-r
invariant-loop-r l = (l.sum ≡ below (bit_words l.shape) l.r) × (l.sum ≤ l.r * 1024)
