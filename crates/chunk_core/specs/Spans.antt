-- Ranges of keys by the numbers of their bounds.
use Rattle.std.specs.Prelude.{ℕ, ◌-◌, ◌==◌, nat_le, cond}
use Rattle.oak_model.specs.Counts.{one_if}

-- The bounds as numbers of keys, and the base. The low bound belongs to the range. The high bound does not; it is 0 for none, and else the number of its key plus one.
pub record Span : Type 0 where
  pub low : ℕ
  pub high : ℕ
  pub base : ℕ

-- 1 where k is at or past b, and else 0
unfoldable pub past : ℕ → ℕ → ℕ
past b k = one_if (nat_le b k)

-- the same of a high bound, which no key is past where there is none
unfoldable pub past_high : ℕ → ℕ → ℕ
past_high b k = cond (b == 0) 0 (past (b - 1) k)

-- 1 where the key is in the range
abbrev pub within : Span → ℕ → ℕ
within s k = past s.low k - past_high s.high k
