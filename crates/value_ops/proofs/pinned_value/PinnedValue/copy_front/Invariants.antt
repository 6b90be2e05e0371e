use Rattle.std.proofs.Common.{◌≡◌, ◌*◌, length, take}
use Rattle.oak_core.specs.Passes.{state, key}
use Rattle.value_ops.specs.PinnedValues.{ReadsPinned, value_under}
use Rattle.value_ops.proofs.pinned_value.PinnedValue.copy_front.Given as goal

abbrev pub invariant-loop-i : goal.invariant-loop-i
invariant-loop-i l = record {
  reads : ReadsPinned (key l.table) l.self l.fn.pass l.pass;
  copied : take (8 * l.i) l.out ≡ take (8 * l.i) (take (length l.fn.out) (value_under (state l.fn.pass)));
}
