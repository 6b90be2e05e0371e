-- The numbers below another, and the set bits of a class.
use Rattle.std.specs.Prelude.{ℕ, ◌/◌, ◌%◌, List, count_ones}
use Rattle.std.specs.Int.{bit_at}
use Rattle.oak_model.specs.Limits.{Sizes}
use Rattle.oak_model.specs.Counts.{below, rows}
use Rattle.arena_core.specs.Arena.{bit_words}

-- 0, .., n - 1
abbrev pub numbers : ℕ → List ℕ
numbers n = rows 0 n (λ k. k)

-- the bit of the block b
abbrev pub bit_of : (ℕ → ℕ) → ℕ → ℕ
bit_of bits b = bit_at (bits (b / 64)) (b % 64)

-- the set bits of a class, as a closed table counts them
abbrev pub set_bits : Sizes → (ℕ → ℕ) → ℕ → ℕ
set_bits z bits c = below (λ i. count_ones (bits i)) (bit_words z c)
