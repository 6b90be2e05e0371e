-- Where the words of the arena lie among those of the table.
use Rattle.std.proofs.Common.{◌≡◌, ℕ, ◌+◌, ◌*◌, ◌<◌, ◌≤◌, refl, arith}
use Rattle.oak_model.specs.declared.limits.TheConstants.{CLASSES}
use Rattle.oak_model.specs.Limits.{Sizes, IsInLimits}
use Rattle.oak_model.specs.Counts.{below}
use Rattle.oak_model.proofs.Counting.{even_inside}
use Rattle.arena_core.specs.Arena.{at_bits, at_bytes, blocks, block_words, bit_words, byte_words}
use Rattle.arena_core.proofs.ArenaSizes.{greatest_blocks, few_words}
use Rattle.oak_core.specs.Memory.{in_arena, index}

pub bits_place : (z : Sizes) (c i : ℕ) → 1 + (below (bit_words z) c + i) ≡ index z (in_arena (at_bits c i))
unfolding index Rattle.arena_core.specs.Arena.arena_index
bits_place z c i = refl

pub bytes_place : (z : Sizes) (c b i : ℕ) → 1 + (below (bit_words z) CLASSES + (below (byte_words z) c + (b * block_words c + i))) ≡ index z (in_arena (at_bytes c b i))
unfolding index Rattle.arena_core.specs.Arena.arena_index
bytes_place z c b i = refl

pub few_bits : (z : Sizes) → IsInLimits z → (c : ℕ) → c < CLASSES → bit_words z c ≤ 1024
few_bits z is c h = let a = is.blocks_greatest c h in let b = greatest_blocks c in omega arith

pub few_bytes : (z : Sizes) → IsInLimits z → (c b i : ℕ) → c < CLASSES → b < blocks z c → i < block_words c → b * block_words c + i < 8388608
few_bytes z is c b i h lb li = let a = even_inside (block_words c) b (blocks z c) i li lb in let f = few_words z is c h in let x : ℕ = b * block_words c + i in let y : ℕ = blocks z c * block_words c in let a' : x < y = a in let f' : y ≤ 8388608 = f in let r : x < 8388608 = omega arith in r
