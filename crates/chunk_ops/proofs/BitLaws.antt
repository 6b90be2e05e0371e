-- Halving takes a binary digit.
use Rattle.std.proofs.Common.{ℕ, zero, suc, ◌+◌, ◌/◌, ◌<◌, ◌≤◌, arith}
use Rattle.link_search.specs.Bits.{digits, bits}

digits_more : (f g m n : ℕ) → m ≤ n → n ≤ g → digits f m ≤ digits g n
digits_more zero g m n le fuel = omega arith
digits_more (suc f) g zero n le fuel = omega arith
digits_more (suc f) zero (suc m) zero le fuel = absurd (omega arith)
digits_more (suc f) zero (suc m) (suc n) le fuel = absurd (omega arith)
digits_more (suc f) (suc g) (suc m) zero le fuel = absurd (omega arith)
digits_more (suc f) (suc g) (suc m) (suc n) le fuel = let h = digits_more f g (suc m / 2) (suc n / 2) (omega arith) (omega arith) in omega arith

pub bits_more : (m n : ℕ) → m ≤ n → bits m ≤ bits n
unfolding bits
bits_more m n le = digits_more m n m n le (omega arith)

-- of at most half of a number that is not 0 one digit less
pub bits_half : (m n : ℕ) → m ≤ n / 2 → 0 < n → bits m + 1 ≤ bits n
unfolding bits
bits_half m zero le lt = absurd (omega arith)
bits_half m (suc n) le lt = let h = digits_more m n m (suc n / 2) le (omega arith) in omega arith
