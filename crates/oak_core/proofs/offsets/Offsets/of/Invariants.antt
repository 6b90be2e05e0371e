use Rattle.std.proofs.Common.{◌≡◌, ◌<◌, ℕ, length, slice_index}
use Rattle.oak_model.specs.declared.limits.TheConstants.{CLASSES}
use Rattle.oak_core.specs.Offsets.{bits_begin, bytes_begin}
use Rattle.oak_core.proofs.offsets.Offsets.of.Given as goal

abbrev pub invariant-loop-class : goal.invariant-loop-class
invariant-loop-class l = record {
  bits_long : length l.bits ≡ CLASSES;
  bytes_long : length l.bytes ≡ CLASSES;
  bits : (k : ℕ) → k < l.class → slice_index l.bits k ≡ bits_begin l.fn.shape k;
  bytes : (k : ℕ) → k < l.class → slice_index l.bytes k ≡ bytes_begin l.fn.shape k;
}
