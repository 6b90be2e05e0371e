-- Blocks have at most one owner each, and the bits say which blocks have one. A class is given by its number.
use Rattle.std.specs.Prelude.{◌≡◌, ℕ, ◌+◌, ◌/◌, ◌%◌, ◌<◌, ◌≤◌, ◌==◌, ◌&&◌, cond, Bool, List, [], ◌∷◌, map, length, slice_set}
use Rattle.std.specs.Int.{bit_at}
use Rattle.oak_model.specs.Limits.{Sizes}
use Rattle.oak_model.specs.Counts.{one_if, total, rows, Every, Each}
use Rattle.oak_model.specs.declared.classes.Class.{Class}
use Rattle.oak_model.specs.Class.{class_number}
use Rattle.arena_core.specs.declared.blocks.HeldBlock.{HeldBlock}
use Rattle.arena_core.specs.declared.blocks.HeldBlocks.{HeldBlocks}
use Rattle.arena_core.specs.Arena.{block_words, blocks}

abbrev pub is_block : ℕ → ℕ → HeldBlock → Bool
is_block c b h = (class_number h.class == c) && (h.number == b)

-- how often the pass holds the block
abbrev pub holds : ℕ → ℕ → HeldBlocks → ℕ
holds c b a = total (λ (h : HeldBlock). one_if (is_block c b h)) a.held

-- the pass holds the block, which is one of the shape's
pub record HoldsBlock (z : Sizes) (c b : ℕ) (a : HeldBlocks) : Type 0 where
  pub held : 0 < holds c b a
  pub inside : b < blocks z c

-- each word of the block has its number
abbrev pub IsWhole : HeldBlock → Type 0
IsWhole h = length h.words ≡ block_words (class_number h.class)

abbrev pub AreWhole : HeldBlocks → Type 0
AreWhole a = Each IsWhole a.held

-- The bit of a block is 1 where the block has an owner, of which there is one, and else 0. An owner is a pass that holds it, or one of `others c b`. A block with an owner is one of the shape's, so the further bits of the last word of a class are clear.
pub record BlocksAreOwned (z : Sizes) (bits others : ℕ → ℕ → ℕ) (passes : List HeldBlocks) : Type 0 where
  pub owned : (c b : ℕ) → bit_at (bits c (b / 64)) (b % 64) ≡ total (holds c b) passes + others c b
  pub inside : (c b : ℕ) → blocks z c ≤ b → total (holds c b) passes + others c b ≡ 0
  pub whole : Every AreWhole passes

-- what is held after a step

abbrev pub block_from : (ℕ → ℕ → ℕ → ℕ) → Class → ℕ → HeldBlock
block_from bytes c b = record { class = c; number = b; words = rows 0 (block_words (class_number c)) (bytes (class_number c) b) }

abbrev pub without : ℕ → ℕ → List HeldBlock → List HeldBlock
without c b [] = []
without c b (h ∷ hs) = cond (is_block c b h) (without c b hs) (h ∷ without c b hs)

-- word k of the block is x
abbrev pub rewritten : ℕ → ℕ → ℕ → ℕ → List HeldBlock → List HeldBlock
rewritten c b k x hs = map (λ (h : HeldBlock). record h { words = cond (is_block c b h) (slice_set h.words k x) h.words }) hs

-- the words of the block, of those that the pass holds
abbrev pub words_held : ℕ → ℕ → List HeldBlock → List ℕ
words_held c b [] = []
words_held c b (h ∷ hs) = cond (is_block c b h) h.words (words_held c b hs)
