use Rattle.std.proofs.Common.{◌≡◌, ◌+◌, drop}
use Rattle.oak_script.specs.Summary.{values_sum}
use Rattle.oak_script.proofs.summary.values_sum.Given as goal

abbrev pub invariant-loop-pair : goal.invariant-loop-pair
invariant-loop-pair l = l.sum + values_sum (drop l.pair-index l.finals) ≡ values_sum l.finals
