-- The numbers of keys are in the order of the keys, and two keys of one number are one.
use Rattle.std.proofs.Common.{◌≡◌, ℕ, zero, suc, ◌+◌, ◌*◌, ◌^◌, ◌<◌, ◌≤◌, List, [], ◌∷◌, length, sym, ◌∙◌, ap, refl, subst, arith, mul-le-mul_right, cond, ◌==◌, eq-eqb, ne_eqb}
use Rattle.std.proofs.lemmas.Bool.{lt-ltb, le-ltb}
use Rattle.std.specs.Ordering.{nat_cmp, ordering_then, ordering_reverse, is_eq}
use Rattle.std.specs.declared.cmp.Ordering.{Ordering}
use Rattle.std.specs.declared.cmp.Ordering.TheVariants.{Less, Equal, Greater}
use Rattle.std.specs.Cmp.Lexicographic.{nat_list_cmp_total}
use mathlib.Core.Logic.{dite}
use native.Mathlib.Decide.{ℕ_discrete, dec_lt}
use Rattle.oak_model.specs.declared.limits.TheConstants.{GREATEST_KEY}
use Rattle.oak_model.specs.Key.{IsKey, AreBytes, key_cmp, IsKeyBefore}
use Rattle.oak_model.specs.KeyNumber.{digits_number, key_number}
use Rattle.oak_model.proofs.KeyLaws.{same_is}

cmp-cases : (x y : ℕ) (P : Ordering → Type 0) → (x < y → P Less) → (x ≡ y → P Equal) → (y < x → P Greater) → P (nat_cmp x y)
cmp-cases x y P less equal greater = dite (dec_lt x y)
    (λ h. subst (λ t. P (cond t Less (cond (x == y) Equal Greater))) (sym (lt-ltb x y h)) (less h))
    (λ n. let at_least : y ≤ x = omega arith in subst (λ t. P (cond t Less (cond (x == y) Equal Greater))) (sym (le-ltb x y at_least)) (dite (ℕ_discrete x y)
    (λ e. subst (λ t. P (cond t Equal Greater)) (sym (eq-eqb x y e)) (equal e))
    (λ m. subst (λ t. P (cond t Equal Greater)) (sym (ne_eqb x y m)) (greater (omega arith)))))

power_pos : (n : ℕ) → 0 < 257 ^ n
power_pos zero = omega arith
power_pos (suc n) = let h = power_pos n in omega arith

-- so many digits are below that power
pub number_below : (n : ℕ) (a : List ℕ) → AreBytes a → digits_number n a < 257 ^ n
unfolding digits_number
number_below zero a b = omega arith
number_below (suc n) [] b = power_pos (suc n)
number_below (suc n) (x ∷ xs) b = let t = number_below n xs (λ i. b (suc i)) in let s = b 0 in let f : x + 1 ≤ 256 = omega arith in let m = mul-le-mul_right (257 ^ n) f in omega arith

pub number_less : (n : ℕ) (a b : List ℕ) → AreBytes a → AreBytes b → length b ≤ n → key_cmp a b ≡ Less → digits_number n a < digits_number n b
unfolding digits_number
number_less n [] [] c d l e = absurd cc
number_less n (x ∷ xs) [] c d l e = absurd cc
number_less zero [] (y ∷ ys) c d l e = absurd (omega arith)
number_less zero (x ∷ xs) (y ∷ ys) c d l e = absurd (omega arith)
number_less (suc n) [] (y ∷ ys) c d l e = let h = power_pos n in let f : 1 ≤ y + 1 = omega arith in let m = mul-le-mul_right (257 ^ n) f in omega arith
number_less (suc n) (x ∷ xs) (y ∷ ys) c d l e = cmp-cases x y (λ o. ordering_then o (key_cmp xs ys) ≡ Less → (x + 1) * 257 ^ n + digits_number n xs < (y + 1) * 257 ^ n + digits_number n ys)
    (λ h _. let t = number_below n xs (λ i. c (suc i)) in let f : x + 2 ≤ y + 1 = omega arith in let m = mul-le-mul_right (257 ^ n) f in omega arith)
    (λ s r. let t = number_less n xs ys (λ i. c (suc i)) (λ i. d (suc i)) (omega arith) r in let m = ap (λ k. (k + 1) * 257 ^ n) s in omega arith)
    (λ h r. absurd cc)
    e

-- the smaller key has the smaller number
pub key_number_rises : (a b : List ℕ) → AreBytes a → AreBytes b → IsKey b → IsKeyBefore a b → key_number a < key_number b
unfolding key_number
key_number_rises a b c d k e = number_less GREATEST_KEY a b c d k.1 e

-- a key's number is no other key's
pub key_number_is : (a b : List ℕ) → AreBytes a → AreBytes b → IsKey a → IsKey b → key_number a ≡ key_number b → a ≡ b
key_number_is a b c d j k e = by (key_cmp a b) refl
  where
    by : (o : Ordering) → key_cmp a b ≡ o → a ≡ b
    by Less h = let t = key_number_rises a b c d k h in absurd (omega arith)
    by Equal h = same_is a b (ap is_eq h)
    by Greater h = let t = key_number_rises b a d c j (nat_list_cmp_total.antisymm b a ∙ ap ordering_reverse h) in absurd (omega arith)

-- the smaller number is that of the smaller key
pub key_before_is : (a b : List ℕ) → AreBytes a → AreBytes b → IsKey a → IsKey b → key_number a < key_number b → IsKeyBefore a b
key_before_is a b c d j k lt = by (key_cmp a b) refl
  where
    by : (o : Ordering) → key_cmp a b ≡ o → key_cmp a b ≡ Less
    by Less h = h
    by Equal h = let t = ap key_number (same_is a b (ap is_eq h)) in absurd (omega arith)
    by Greater h = let t = key_number_rises b a d c j (nat_list_cmp_total.antisymm b a ∙ ap ordering_reverse h) in absurd (omega arith)
