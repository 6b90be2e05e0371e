use Rattle.std.proofs.Common.{refl, arith}
use Rattle.chunk_ops.proofs.CompareFacts.{slice_bytes}
use Rattle.chunk_ops.proofs.StoredLaws.{filled_all}
use Rattle.chunk_ops.proofs.stored.StoredKey.of.Goals as goal

pub returns : goal.returns
returns c = let d = c.div_ceil-i-end.ensures in let t = c.loop-i-test.false in record {
  words = filled_all c.args.key.now c.loop-i.words c.loop-i.i c.loop-i.invariant (omega arith);
  long = refl;
  few = c.requires.1;
  bytes = slice_bytes c.args.key.now c.type_inv.key;
}
