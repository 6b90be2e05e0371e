use Rattle.std.proofs.Common.{◌≡◌, ◌*◌, take}
use Rattle.oak_core.specs.Passes.{state, key}
use Rattle.value_ops.specs.PinnedValues.{ReadsPinned, value_under}
use Rattle.value_ops.proofs.pinned_value.PinnedValue.same.Given as goal

abbrev pub invariant-loop-i : goal.invariant-loop-i
invariant-loop-i l = record {
  reads : ReadsPinned (key l.table) l.self l.fn.pass l.pass;
  same : take (8 * l.i) l.other ≡ take (8 * l.i) (value_under (state l.fn.pass));
}
