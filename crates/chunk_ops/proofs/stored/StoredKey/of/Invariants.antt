use Rattle.chunk_ops.proofs.StoredLaws.{Filled}
use Rattle.chunk_ops.proofs.stored.StoredKey.of.Given as goal

abbrev pub invariant-loop-i : goal.invariant-loop-i
invariant-loop-i l = Filled l.key l.i l.words
