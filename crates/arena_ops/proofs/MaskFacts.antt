-- The bits that are left of a mask when those of a number are taken away.
use Rattle.std.proofs.Common.{◌≡◌, ◌≢◌, ℕ, ◌+◌, ◌-◌, ◌*◌, ◌%◌, ◌^◌, ◌<◌, ◌≤◌, ap, ◌∙◌, arith, w64, shl_exact, max}
use Rattle.std.specs.Prelude.{bit_and}
use Rattle.std.specs.Int.{bit_at, trailing_zeros}
use mathlib.Core.Logic.{dite}
use native.Mathlib.Decide.{dec_lt}
use Rattle.std.proofs.lemmas.Nat.{and_le_l}
use Rattle.std.proofs.lemmas.Nat.Bits.{bit_at_and, bit_at_not, bit_at-lt, bit_at_ones, bit_at_ones_above, bit_at-trailing_zeros}

module _ (mask n k : ℕ) (small : n < 2 ^ 64) (lt : k < 64) where
  bit_left : bit_at (bit_and mask (2 ^ 64 - 1 - n)) k + bit_at n k ≡ max (bit_at mask k) (bit_at n k)
  bit_left = let a = bit_at_and mask (2 ^ 64 - 1 - n) k in let b = bit_at_not w64 n k small lt in let x = bit_at-lt mask k in let y = bit_at-lt n k in omega arith

  -- a bit of the mask that is not left is the number's
  pub not_left : bit_at mask k ≡ 1 → bit_at (bit_and mask (2 ^ 64 - 1 - n)) k ≡ 0 → bit_at n k ≡ 1
  not_left e f = let b = bit_left in let y = bit_at-lt n k in omega arith

  pub was_mask : bit_at (bit_and mask (2 ^ 64 - 1 - n)) k ≡ 1 → bit_at mask k ≡ 1
  was_mask e = let b = bit_left in let x = bit_at-lt mask k in let y = bit_at-lt n k in omega arith

  -- less is left where the mask and the number share a bit
  pub less_left : bit_at mask k ≡ 1 → bit_at n k ≡ 1 → bit_and mask (2 ^ 64 - 1 - n) < mask
  less_left e f = let b = bit_left in let l = and_le_l mask (2 ^ 64 - 1 - n) in
      let ne : bit_and mask (2 ^ 64 - 1 - n) ≢ mask = λ q. let s : bit_at (bit_and mask (2 ^ 64 - 1 - n)) k ≡ bit_at mask k = ap (λ (m : ℕ). bit_at m k) q in omega arith in omega arith

-- the low bits
pub ones_is : (left : ℕ) → left < 64 → 1 * 2 ^ left % 2 ^ 64 - 1 ≡ 2 ^ left - 1
ones_is left lt = let e : 1 * 2 ^ left % 2 ^ 64 ≡ 1 * 2 ^ left = shl_exact {a = 1} 1 left 64 (omega arith) (omega arith) in let x : ℕ = 2 ^ left in ap (λ (n : ℕ). n - 1) (e ∙ (let r : 1 * x ≡ x = omega arith in r))

pub low_bit : (left k : ℕ) → left < 64 → k < left → bit_at (1 * 2 ^ left % 2 ^ 64 - 1) k ≡ 1
low_bit left k lt lk = ap (λ (n : ℕ). bit_at n k) (ones_is left lt) ∙ bit_at_ones left k lk

pub high_bit : (left k : ℕ) → left < 64 → left ≤ k → bit_at (1 * 2 ^ left % 2 ^ 64 - 1) k ≡ 0
high_bit left k lt lk = ap (λ (n : ℕ). bit_at n k) (ones_is left lt) ∙ bit_at_ones_above left k lk

pub all_bits : (k : ℕ) → k < 64 → bit_at 18446744073709551615 k ≡ 1
all_bits k lk = bit_at_ones 64 k lk

-- the lowest bit of a number that is not 0
pub lowest : (n : ℕ) → (n ≡ 0 → ⊥) → n < 2 ^ 64 → (trailing_zeros w64 n < 64) × (bit_at n (trailing_zeros w64 n) ≡ 1)
lowest n some_bit small = let t = bit_at-trailing_zeros w64 n (omega arith) small in (t.0, t.1)

-- a bit that is that of no block is not set
pub bit_of_block : (mask count place : ℕ) (k : ℕ) → (count ≤ place + k → bit_at mask k ≡ 0) → bit_at mask k ≡ 1 → place + k < count
bit_of_block mask count place k other e = dite (dec_lt (place + k) count) (λ l. l) (λ no. let o = other (omega arith) in absurd (omega arith))
