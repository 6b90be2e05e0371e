use Rattle.std.proofs.Common.{refl, add-one, arith}
use Rattle.oak_model.specs.Counts.{below}
use Rattle.arena_core.proofs.layout.bits_below.Goals as goal

pub loop-r-init : goal.loop-r-init
unfolding below
loop-r-init c = (refl, omega arith)

pub loop-r-preserved : goal.loop-r-preserved
unfolding below
loop-r-preserved c = let sum = c.loop-r.invariant.0 in let is = c.bit_words-sum.ensures.is in (rw add-one (omega arith), omega arith)
