-- The words of the arena, as functions of classes, blocks and words of a block, and where each lies. A class is given by its number.
use Rattle.std.specs.Prelude.{ℕ, ◌+◌, ◌*◌, ◌/◌, ◌^◌, ◌<◌, ◌==◌, ◌&&◌, nat_lt, Bool, false, slice_index}
use Rattle.oak_model.specs.declared.limits.TheConstants.{CLASSES, LEAST_BLOCK, CLASS_GROWTH}
use Rattle.oak_model.specs.Limits.{Sizes}
use Rattle.oak_model.specs.Counts.{below}

-- the words of a block
abbrev pub block_words : ℕ → ℕ
block_words c = LEAST_BLOCK / 8 * CLASS_GROWTH ^ c

abbrev pub blocks : Sizes → ℕ → ℕ
blocks z c = slice_index z.blocks c

-- the words that hold the bits of a class, and its bytes
abbrev pub bit_words : Sizes → ℕ → ℕ
bit_words z c = (blocks z c + 63) / 64

abbrev pub byte_words : Sizes → ℕ → ℕ
byte_words z c = blocks z c * block_words c

abbrev pub arena_words : Sizes → ℕ
arena_words z = below (bit_words z) CLASSES + below (byte_words z) CLASSES

-- the numbers of the words: bit b % 64 of word b / 64 says whether the block b is taken
pub record ArenaMemory : Type 0 where
  pub bits : ℕ → ℕ → ℕ
  pub bytes : ℕ → ℕ → ℕ → ℕ

-- a word: of the bits of a class; of the bytes of a class's block
pub data ArenaSpot : Type 0 where
  at_bits : ℕ → ℕ → ArenaSpot
  at_bytes : ℕ → ℕ → ℕ → ArenaSpot

abbrev pub same_arena_spot : ArenaSpot → ArenaSpot → Bool
same_arena_spot (at_bits c i) (at_bits d j) = (c == d) && (i == j)
same_arena_spot (at_bytes c b k) (at_bytes d e l) = (c == d) && ((b == e) && (k == l))
same_arena_spot _ _ = false

abbrev pub read_arena : ArenaMemory → ArenaSpot → ℕ
read_arena m (at_bits c i) = m.bits c i
read_arena m (at_bytes c b k) = m.bytes c b k

-- the memory that has these numbers
abbrev pub arena_of : (ArenaSpot → ℕ) → ArenaMemory
arena_of f = record { bits = λ c i. f (at_bits c i); bytes = λ c b k. f (at_bytes c b k) }

-- the words that the table has
abbrev pub IsInArena : Sizes → ArenaSpot → Type 0
IsInArena z (at_bits c i) = (c < CLASSES) × (i < bit_words z c)
IsInArena z (at_bytes c b k) = (c < CLASSES) × (b < blocks z c) × (k < block_words c)

abbrev pub is_in_arena : Sizes → ArenaSpot → Bool
is_in_arena z (at_bits c i) = nat_lt c CLASSES && nat_lt i (bit_words z c)
is_in_arena z (at_bytes c b k) = nat_lt c CLASSES && (nat_lt b (blocks z c) && nat_lt k (block_words c))

-- where a word lies, counted from the arena's first
unfoldable pub arena_index : Sizes → ArenaSpot → ℕ
arena_index z (at_bits c i) = below (bit_words z) c + i
arena_index z (at_bytes c b k) = below (bit_words z) CLASSES + (below (byte_words z) c + (b * block_words c + k))
