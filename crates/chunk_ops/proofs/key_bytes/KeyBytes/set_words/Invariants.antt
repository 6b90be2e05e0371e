use Rattle.std.proofs.Common.{◌≡◌, ◌*◌, length, take}
use Rattle.oak_model.specs.declared.limits.TheConstants.{GREATEST_KEY}
use Rattle.oak_model.specs.WordBytes.{bytes_of}
use Rattle.chunk_ops.specs.declared.stored.TheConstants.{KEY_WORDS}
use Rattle.chunk_ops.proofs.key_bytes.KeyBytes.set_words.Given as goal

abbrev pub invariant-loop-i : goal.invariant-loop-i
invariant-loop-i l = record {
  words : length l.fn.words ≡ KEY_WORDS;
  long : length l.self-inside.bytes ≡ GREATEST_KEY;
  copied : take (8 * l.i) l.self-inside.bytes ≡ take (8 * l.i) (take GREATEST_KEY (bytes_of l.fn.words));
}
