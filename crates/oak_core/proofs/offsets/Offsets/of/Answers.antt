use Rattle.std.proofs.Common.{arith}
use Rattle.oak_model.specs.declared.limits.TheConstants.{CLASSES}
use Rattle.oak_model.specs.Limits.{Sizes}
use Rattle.oak_core.specs.Offsets.{bits_begin, bytes_begin}
use Rattle.oak_core.proofs.memory.UsedWords.{row_full}
use Rattle.oak_core.proofs.offsets.Offsets.of.Goals as goal

pub returns : goal.returns
returns c = let z : Sizes = c.args.shape.now in let over = c.loop-class-test.false in let inv = c.loop-class.invariant in
    λ i. record {
      bits = row_full (bits_begin z) c.loop-class.bits CLASSES inv.bits_long (λ k lt. inv.bits k (omega arith)) i;
      bytes = row_full (bytes_begin z) c.loop-class.bytes CLASSES inv.bytes_long (λ k lt. inv.bytes k (omega arith)) i;
      headers = c.headers_at.ensures.is i;
      rooms = c.rooms_at.ensures.is i;
      room_width = c.room_width.ensures.is i;
    }
