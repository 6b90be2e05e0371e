-- How many words the arena can have.
use Rattle.std.proofs.Common.{ℕ, zero, suc, ◌*◌, ◌<◌, ◌≤◌, arith, slice_index, mul-le-mul_right}
use Rattle.oak_model.specs.declared.limits.TheConstants.{CLASSES, GREATEST_BLOCKS}
use Rattle.oak_model.specs.Limits.{Sizes, IsInLimits}
use Rattle.arena_core.specs.Arena.{block_words, blocks}

pub greatest_blocks : (c : ℕ) → slice_index GREATEST_BLOCKS c ≤ 65536
greatest_blocks zero = omega arith
greatest_blocks (suc zero) = omega arith
greatest_blocks (suc (suc zero)) = omega arith
greatest_blocks (suc (suc (suc zero))) = omega arith
greatest_blocks (suc (suc (suc (suc c)))) = omega arith

pub block_words_small : (c : ℕ) → c < CLASSES → block_words c ≤ 128
block_words_small zero h = omega arith
block_words_small (suc zero) h = omega arith
block_words_small (suc (suc zero)) h = omega arith
block_words_small (suc (suc (suc zero))) h = omega arith
block_words_small (suc (suc (suc (suc c)))) h = absurd (omega arith)

pub few_words : (z : Sizes) → IsInLimits z → (c : ℕ) → c < CLASSES → blocks z c * block_words c ≤ 8388608
few_words z is c h = let a = is.blocks_greatest c h in let b = greatest_blocks c in let w = block_words_small c h in product (blocks z c) (block_words c) (omega arith) w
  where
    product : (b w : ℕ) → b ≤ 65536 → w ≤ 128 → b * w ≤ 8388608
    product b w hb hw = let x : b * w ≤ 65536 * w = mul-le-mul_right w hb in omega arith
