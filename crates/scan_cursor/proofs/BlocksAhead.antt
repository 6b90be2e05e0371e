-- The blocks of a class, of which a scan loads ahead: where a word names one of them, its first word is one of the table's.
use Rattle.std.proofs.Common.{◌≡◌, ◌+◌, ◌*◌, ◌<◌, ℕ, ap, ◌∙◌, sym, subst, arith}
use Rattle.oak_model.specs.declared.classes.Class.{Class}
use Rattle.oak_model.specs.declared.classes.Class.TheVariants.{B16, B64, B256, B1024}
use Rattle.oak_model.specs.Class.{class_number}
use Rattle.oak_model.specs.Limits.{Sizes}
use Rattle.arena_core.specs.Arena.{arena_index, at_bytes, block_words, blocks}
use Rattle.arena_core.specs.Place.{block_in}
use Rattle.arena_core.proofs.PlaceLaws.{class_below}
use Rattle.oak_core.specs.Memory.{in_arena, index, word_count, IsInside}
use Rattle.oak_core.proofs.memory.Words.{index_below}
use Rattle.scan_cursor.specs.declared.loading_ahead.Blocks.{Blocks}
use Rattle.scan_cursor.specs.LoadingAhead.{AreBlocks}

-- each class has words
pub some_words : (d : Class) → 0 < block_words (class_number d)
some_words B16 = omega arith
some_words B64 = omega arith
some_words B256 = omega arith
some_words B1024 = omega arith

-- a word that lies no farther above the first block's than the last block's names one of so many
block_few : (x n : ℕ) → x < n * 65536 → block_in x < n
unfolding block_in
block_few x n lt = omega arith

-- the blocks of a class stand one behind the other
block_behind : (z : Sizes) (c b : ℕ) → index z (in_arena (at_bytes c 0 0)) + b * block_words c ≡ index z (in_arena (at_bytes c b 0))
unfolding index arena_index
block_behind z c b = let x : ℕ = b * block_words c in omega arith

-- The word lies within the span of the blocks.
module _ (z : Sizes) (x : Blocks) (h : AreBlocks z x) (above b : ℕ) (is : b ≡ block_in above) (lt : above < x.span) where
  few : b < blocks z (class_number h.class)
  few = subst (λ (n : ℕ). n < blocks z (class_number h.class)) (sym is) (block_few above (blocks z (class_number h.class)) (subst (λ (n : ℕ). above < n) h.span lt))

  pub inside : IsInside z (in_arena (at_bytes (class_number h.class) b 0))
  inside = (class_below h.class, few, some_words h.class)

  pub number : x.first + b * x.words ≡ index z (in_arena (at_bytes (class_number h.class) b 0))
  number = ap (λ (p : ℕ × ℕ). p.0 + b * p.1) (λ j. (h.first (let f = few in omega arith) j, h.words j)) ∙ block_behind z (class_number h.class) b

  pub below : x.first + b * x.words < word_count z
  below = subst (λ (n : ℕ). n < word_count z) (sym number) (index_below z (in_arena (at_bytes (class_number h.class) b 0)) inside)
