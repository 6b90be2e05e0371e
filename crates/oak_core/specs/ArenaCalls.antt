-- What a word and an operand name in the arena, and what the steps on it tell.
use Rattle.std.specs.Prelude.{◌≡◌, ℕ, ◌-◌, ◌/◌, ◌^◌, ◌<◌}
use Rattle.oak_model.specs.Limits.{Sizes}
use Rattle.oak_model.specs.declared.classes.Class.{Class}
use Rattle.oak_model.specs.Class.{class_number}
use Rattle.arena_core.specs.Arena.{at_bits, at_bytes, block_words, blocks}
use Rattle.arena_core.specs.ArenaStep.{take_bit, clear_bit, store_word, bit_of}
use Rattle.oak_core.specs.declared.states.PassState.{PassState}
use Rattle.oak_core.specs.Memory.{in_arena, index}
use Rattle.oak_core.specs.Step.{Step, on_arena, store_locked, LocksBlock, Told}
use Rattle.arena_core.specs.Blocks.{HoldsBlock}

-- the word of bits in which the block's bit is, and that bit
pub record NamesBit (z : Sizes) (c : Class) (b word operand : ℕ) : Type 0 where
  pub inside : b < blocks z (class_number c)
  pub word_is : word ≡ index z (in_arena (at_bits (class_number c) (b / 64)))
  pub operand_is : operand ≡ bit_of b

-- that word, and all bits but that one
pub record NamesMask (z : Sizes) (c : Class) (b word operand : ℕ) : Type 0 where
  pub inside : b < blocks z (class_number c)
  pub word_is : word ≡ index z (in_arena (at_bits (class_number c) (b / 64)))
  pub operand_is : operand ≡ 2 ^ 64 - 1 - bit_of b

-- word k of the block
pub record NamesWord (z : Sizes) (c : Class) (b k word : ℕ) : Type 0 where
  pub inside : b < blocks z (class_number c)
  pub place : k < block_words (class_number c)
  pub word_is : word ≡ index z (in_arena (at_bytes (class_number c) b k))

-- the bit of the block was set
abbrev pub Sets : Sizes → ℕ → Class → ℕ → PassState → ℕ → PassState → Type 0
Sets z call c b v n w = Told z call (on_arena (take_bit c b)) v n w

-- the bit of the block was cleared
abbrev pub Clears : Sizes → ℕ → Class → ℕ → PassState → ℕ → PassState → Type 0
Clears z call c b v n w = Told z call (on_arena (clear_bit c b)) v n w

-- whose block it is that a pass stores to
pub data BlockOwner : Type 0 where
  -- the pass holds it
  of_pass : BlockOwner
  -- a header has it that the pass has locked
  of_locked : ℕ → BlockOwner

abbrev pub MayStoreTo : Sizes → BlockOwner → Class → ℕ → PassState → Type 0
MayStoreTo z of_pass c b v = HoldsBlock z (class_number c) b v.blocks
MayStoreTo z (of_locked h) c b v = LocksBlock h c b v.headers

abbrev pub store_step : BlockOwner → Class → ℕ → ℕ → ℕ → Step
store_step of_pass c b k x = on_arena (store_word c b k x)
store_step (of_locked h) c b k x = store_locked h c b k x

-- word k of the block became x
abbrev pub Writes : Sizes → ℕ → BlockOwner → Class → ℕ → ℕ → ℕ → PassState → PassState → Type 0
Writes z call o c b k x v w = (n : ℕ) × Told z call (store_step o c b k x) v n w
