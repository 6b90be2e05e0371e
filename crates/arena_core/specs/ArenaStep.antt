-- The kinds of step on the words of the arena.
use Rattle.std.specs.Prelude.{ℕ, ◌-◌, ◌/◌, ◌%◌, ◌^◌, ◌<◌, ◌==◌, cond, ◌∷◌, Option, Some, None, bit_and, bit_or}
use Rattle.std.specs.Int.{bit_at}
use Rattle.oak_model.specs.Limits.{Sizes}
use Rattle.oak_model.specs.declared.classes.Class.{Class}
use Rattle.oak_model.specs.Class.{class_number}
use Rattle.arena_core.specs.declared.blocks.HeldBlocks.{HeldBlocks}
use Rattle.arena_core.specs.Arena.{ArenaMemory, ArenaSpot, at_bits, at_bytes, same_arena_spot, read_arena, arena_of, block_words, blocks}
use Rattle.arena_core.specs.Blocks.{HoldsBlock, block_from, without, rewritten}

pub data ArenaStep : Type 0 where
  -- the bit of a block is set: the block is held where it was clear
  take_bit : Class → ℕ → ArenaStep
  -- the bit of a held block is cleared: it is held no more
  clear_bit : Class → ℕ → ArenaStep
  -- word k of a held block becomes x
  store_word : Class → ℕ → ℕ → ℕ → ArenaStep

abbrev pub arena_spot : ArenaStep → ArenaSpot
arena_spot (take_bit c b) = at_bits (class_number c) (b / 64)
arena_spot (clear_bit c b) = at_bits (class_number c) (b / 64)
arena_spot (store_word c b k x) = at_bytes (class_number c) b k

-- the bit of a block in its word
abbrev pub bit_of : ℕ → ℕ
bit_of b = 2 ^ (b % 64)

-- what the word n becomes
abbrev pub arena_effect : ArenaStep → ℕ → ℕ
arena_effect (take_bit c b) n = bit_or n (bit_of b)
arena_effect (clear_bit c b) n = bit_and n (2 ^ 64 - 1 - bit_of b)
arena_effect (store_word c b k x) n = x

-- the number that the step finds; a store finds none
abbrev pub arena_found : ArenaStep → ℕ → Option ℕ
arena_found (take_bit c b) n = Some n
arena_found (clear_bit c b) n = Some n
arena_found (store_word c b k x) n = None

-- a store is one of 64 bits, to a word of a held block
pub record MayStore (z : Sizes) (c b k x : ℕ) (a : HeldBlocks) : Type 0 where
  pub block : HoldsBlock z c b a
  pub word : k < block_words c
  pub small : x < 2 ^ 64

-- what the step asks of the pass
abbrev pub MayArena : Sizes → ArenaStep → HeldBlocks → Type 0
MayArena z (take_bit c b) a = b < blocks z (class_number c)
MayArena z (clear_bit c b) a = HoldsBlock z (class_number c) b a
MayArena z (store_word c b k x) a = MayStore z (class_number c) b k x a

-- the blocks that the pass holds after the step that found n, the bytes being these
abbrev pub blocks_after : (ℕ → ℕ → ℕ → ℕ) → ArenaStep → ℕ → HeldBlocks → HeldBlocks
blocks_after bytes (take_bit c b) n a = record a { held = cond (bit_at n (b % 64) == 0) (block_from bytes c b ∷ a.held) a.held }
blocks_after bytes (clear_bit c b) n a = record a { held = without (class_number c) b a.held }
blocks_after bytes (store_word c b k x) n a = record a { held = rewritten (class_number c) b k x a.held }

-- the memory with x at one word
abbrev pub put_arena : ArenaMemory → ArenaSpot → ℕ → ArenaMemory
put_arena m p x = arena_of (λ q. cond (same_arena_spot q p) x (read_arena m q))
