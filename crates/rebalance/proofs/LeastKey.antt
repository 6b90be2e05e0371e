-- The least key, and the range that has it.
use Rattle.std.proofs.Common.{◌≡◌, ◌≢◌, ℕ, zero, suc, ◌+◌, ◌-◌, ◌^◌, ◌<◌, ◌≤◌, List, [], ◌∷◌, length, refl, sym, subst, arith, mul-le-mul_right}
use Rattle.std.specs.Ordering.{ordering_then}
use Rattle.std.specs.declared.cmp.Ordering.TheVariants.{Less}
use Rattle.oak_model.specs.declared.limits.TheConstants.{GREATEST_KEY}
use Rattle.oak_model.specs.Key.{IsKey, key_cmp}
use Rattle.oak_model.specs.KeyNumber.{digits_number, key_number}
use Rattle.chunk_core.specs.KeyWords.{low_bytes, low_number}
use Rattle.chunk_core.specs.Spans.{Span, past_high, within}
use Rattle.chunk_core.proofs.SpanLaws.{past-cases}
use Rattle.chunk_ops.proofs.OrderLaws.{cmp-cases}

power_pos : (n : ℕ) → 0 < 257 ^ n
power_pos zero = omega arith
power_pos (suc n) = let h = power_pos n in omega arith

no_digits : (n : ℕ) → digits_number n [] ≡ 0
unfolding digits_number
no_digits zero = refl
no_digits (suc n) = refl

-- with n digits behind the first, what has a byte is not below the one byte 0
least_digits : (n : ℕ) (k : List ℕ) → 0 < length k → digits_number (suc n) (0 ∷ []) ≤ digits_number (suc n) k
unfolding digits_number
least_digits n [] some = absurd (omega arith)
least_digits n (x ∷ xs) some = let z = no_digits n in let f : 1 ≤ x + 1 = omega arith in let m = mul-le-mul_right (257 ^ n) f in omega arith

-- what is not above it begins with a 0, and no digit is behind that
first_least : (n x : ℕ) (xs : List ℕ) → digits_number (suc n) (x ∷ xs) ≤ digits_number (suc n) (0 ∷ []) → (x ≡ 0) × (digits_number n xs ≡ 0)
unfolding digits_number
first_least n zero xs le = let z = no_digits n in (refl, omega arith)
first_least n (suc x) xs le = let z = no_digits n in let p = power_pos n in let f : 2 ≤ suc x + 1 = omega arith in let m = mul-le-mul_right (257 ^ n) f in absurd (omega arith)

-- no key is below the one byte 0
pub none_below : (k : List ℕ) → 0 < length k → key_cmp k (0 ∷ []) ≢ Less
none_below [] some = absurd (omega arith)
none_below (x ∷ xs) some = cmp-cases x 0 (λ o. ordering_then o (key_cmp xs []) ≢ Less) (λ lt e. absurd (omega arith)) (λ _ e. none_last xs e) (λ _ e. cc)
  where
    none_last : (ys : List ℕ) → key_cmp ys [] ≢ Less
    none_last [] e = cc
    none_last (y ∷ ys) e = cc

-- so none is below what is not above that
not_below : (n : ℕ) (k l : List ℕ) → 0 < length k → digits_number (suc (suc n)) l ≤ digits_number (suc (suc n)) (0 ∷ []) → key_cmp k l ≢ Less
unfolding digits_number
not_below n [] l some le = absurd (omega arith)
not_below n (y ∷ ys) [] some le = λ e. cc
not_below n (y ∷ ys) (x ∷ []) some le = let f = first_least (suc n) x [] le in subst (λ (b : ℕ). key_cmp (y ∷ ys) (b ∷ []) ≢ Less) (sym f.0) (none_below (y ∷ ys) some)
not_below n k (x ∷ z ∷ zs) some le = let f = first_least (suc n) x (z ∷ zs) le in let g = f.1 in let p = power_pos n in let h : 1 ≤ z + 1 = omega arith in let m = mul-le-mul_right (257 ^ n) h in absurd (omega arith)

-- no key has a smaller number than the one byte 0
pub least_key : (k : List ℕ) → IsKey k → key_number (0 ∷ []) ≤ key_number k
unfolding key_number
least_key k is = least_digits (GREATEST_KEY - 1) k is.0

-- a range that has the one byte 0 begins no later than any key
pub begins_least : (s : Span) (low k : List ℕ) → s.low ≡ low_number low → within s (key_number (0 ∷ [])) ≡ 1 → IsKey k → key_cmp k (low_bytes low) ≢ Less
unfolding key_number low_number
begins_least s low k is in_range key = not_below (GREATEST_KEY - 2) k (low_bytes low) key.0 (let l : s.low ≤ key_number (0 ∷ []) = begun in let e : s.low ≡ key_number (low_bytes low) = is in omega arith)
  where
    begun : s.low ≤ key_number (0 ∷ [])
    begun = past-cases s.low (key_number (0 ∷ [])) (λ (p : ℕ). p - past_high s.high (key_number (0 ∷ [])) ≡ 1 → s.low ≤ key_number (0 ∷ [])) (λ le _. le) (λ _ e. absurd (omega arith)) in_range
