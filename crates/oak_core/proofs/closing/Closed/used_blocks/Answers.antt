use Rattle.std.proofs.Common.{refl, arith, ap, ◌∙◌, ◌≡◌, ◌<◌, ◌+◌, ℕ, List, slice_index}
use Rattle.std.specs.Prelude.{count_ones}
use Rattle.std.proofs.lemmas.Nat.{ones-le}
use Rattle.oak_model.specs.Limits.{Sizes}
use Rattle.oak_model.specs.Counts.{below}
use Rattle.arena_core.specs.Arena.{bit_words}
use Rattle.oak_core.specs.Memory.{memory}
use Rattle.oak_core.specs.Closing.{closed_key, closed_words}
use Rattle.oak_core.proofs.memory.UsedWords.{bits_word, counted_more}
use Rattle.oak_core.proofs.closing.Closed.used_blocks.Goals as goal

pub loop-i-init : goal.loop-i-init
unfolding below
loop-i-init c = record { counted = refl; small = omega arith }

pub word-requires : goal.word-requires
word-requires c = let z : Sizes = closed_key c.args.self.now in let n = c.bit_words-words.ensures.is in let lt : c.loop-i.i < bit_words z c.args.class = omega arith in let f = c.bits_below-first.ensures.is in
    let w = bits_word z (closed_words c.args.self.now) c.args.class c.loop-i.i c.requires lt in omega arith

pub loop-i-preserved : goal.loop-i-preserved
loop-i-preserved c = let z : Sizes = closed_key c.args.self.now in let ws : List ℕ = closed_words c.args.self.now in let n = c.bit_words-words.ensures.is in let lt : c.loop-i.i < bit_words z c.args.class = omega arith in
    let w = bits_word z ws c.args.class c.loop-i.i c.requires lt in
    let was : c.loop-i.used ≡ below (λ i. count_ones ((memory z ws).arena.bits c.args.class i)) c.loop-i.i = c.loop-i.invariant.counted in record {
      counted = counted_more (λ i. count_ones ((memory z ws).arena.bits c.args.class i)) c.loop-i.i c.loop-i.used (count_ones c.word.result) was
          (ap count_ones (c.word.ensures ∙ (ap (λ (k : ℕ). slice_index ws (1 + k + c.loop-i.i)) c.bits_below-first.ensures.is ∙ w.1)));
      small = let o = ones-le 64 c.word.result c.word.type_inv in let s = c.loop-i.invariant.small in omega arith;
    }
