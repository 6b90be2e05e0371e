use Rattle.std.proofs.Common.{◌≡◌, ◌*◌, ◌<◌, ℕ, ap, ◌∙◌, sym, subst, arith}
use Rattle.arena_core.specs.Place.{place_word}
use Rattle.scan_cursor.proofs.loading_ahead.blocks_of.Goals as goal

-- the word of a block of the least class
span_is : (n : ℕ) → place_word 0 n 0 ≡ n * 65536
unfolding place_word
span_is n = omega arith

pub returns : goal.returns
returns c = record {
  class = c.args.class;
  span = c.place_word-2.ensures ∙ (span_is c.blocks-many.result ∙ ap (λ (n : ℕ). n * 65536) c.blocks-many.ensures);
  words = c.block_words.ensures.is;
  first = λ some. c.first_of.ensures (subst (λ (n : ℕ). 0 < n) (sym c.blocks-many.ensures) some);
}
