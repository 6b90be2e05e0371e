use Rattle.std.proofs.Common.{refl, ◌∙◌, arith}
use Rattle.chunk_ops.proofs.KeyCopies.{copied_more, copied_words}
use Rattle.chunk_ops.proofs.key_bytes.KeyBytes.set_words.Goals as goal

pub loop-i-preserved : goal.loop-i-preserved
loop-i-preserved c = let s = c.loop-i.invariant in let d = c.div_ceil-i-end.ensures in let t = c.loop-i-test.true in let few = c.requires in record {
  words = s.words;
  long = c.put_word.auto.out ∙ s.long;
  copied = copied_more c.args.words.now c.loop-i.self-inside.bytes c.put_word.new.out c.loop-i.i _ s.words s.long (omega arith) refl s.copied c.put_word.ensures.put;
}

pub returns : goal.returns
returns c = let d = c.div_ceil-i-end.ensures in let t = c.loop-i-test.false in copied_words c.args.words.now c.loop-i.self-inside.bytes c.loop-i.i c.args.len c.requires (omega arith) c.loop-i.invariant.copied
