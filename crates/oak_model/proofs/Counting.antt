-- Sums after a change, and tests on numbers.
use Rattle.std.proofs.Common.{◌≡◌, ◌≢◌, ℕ, zero, suc, ◌+◌, ◌-◌, ◌*◌, ◌<◌, ◌≤◌, ◌==◌, cond, Bool, true, false, ◌&&◌, List, [], ◌∷◌, ◌++◌, map, set, sym, refl, ap, ◌∙◌, subst, arith, eq-eqb, ne_eqb, le-leb, mul-le-mul_right, suc-mul}
use Rattle.std.specs.Prelude.{nat_le}
use Rattle.std.proofs.lemmas.Bool.{lt-leb}
use mathlib.Core.Logic.{dite}
use mathlib.Core.Option.{some, some-injective, some-ne-none}
use native.Mathlib.Decide.{ℕ_discrete, dec_lt, dec_le}
use lib.ListN.{get_elem?}
use Rattle.oak_model.specs.Counts.{one_if, one_at, total, below}

-- a test of two numbers, with what it says

pub decided : (n old : ℕ) (F : Bool → Type 0) → (n ≡ old → F true) → (n ≢ old → F false) → F (n == old)
decided n old F hit miss = dite (ℕ_discrete n old) (λ e. subst F (sym (eq-eqb n old e)) (hit e)) (λ ne. subst F (sym (ne_eqb n old ne)) (miss ne))

pub le-cases : (a b : ℕ) (P : Bool → Type 0) → (a ≤ b → P true) → (b < a → P false) → P (nat_le a b)
le-cases a b P low high = dite (dec_le a b) (λ l. subst P (sym (le-leb a b l)) (low l)) (λ no. subst P (sym (lt-leb a b (omega arith))) (high (omega arith)))

pub one_if_le : (b : Bool) → one_if b ≤ 1
one_if_le true = omega arith
one_if_le false = omega arith

pub one_at-same : (a b : ℕ) → a ≡ b → one_at a b ≡ 1
unfolding one_at
one_at-same a b e = ap (λ (t : Bool). cond t 1 0) (eq-eqb a b e)

pub one_at-other : (a b : ℕ) → a ≢ b → one_at a b ≡ 0
unfolding one_at
one_at-other a b n = ap (λ (t : Bool). cond t 1 0) (ne_eqb a b n)

-- a case split for a number of this kind
pub one_at-cases : (a b : ℕ) (P : ℕ → Type 0) → (a ≡ b → P 1) → (a ≢ b → P 0) → P (one_at a b)
unfolding one_at
one_at-cases a b P same other = decided a b (λ t. P (cond t 1 0)) same other

pub one_at-le : (a b : ℕ) → one_at a b ≤ 1
one_at-le a b = one_at-cases a b (λ k. k ≤ 1) (λ e. omega arith) (λ n. omega arith)

pub one_at-true : (a b : ℕ) → 0 < one_at a b → a ≡ b
one_at-true a b = one_at-cases a b (λ k. 0 < k → a ≡ b) (λ e _. e) (λ n h. absurd (omega arith))

-- a test, with what it says
pub test-cases : (b : Bool) (P : Bool → Type 0) → (b ≡ true → P true) → (b ≡ false → P false) → P b
test-cases true P t f = t refl
test-cases false P t f = f refl

pub both_true : (a b : Bool) → (a && b) ≡ true → (a ≡ true) × (b ≡ true)
both_true true b e = (refl, e)
both_true false b e = absurd cc

pub true_both : (a b : Bool) → a ≡ true → b ≡ true → (a && b) ≡ true
true_both a b e f = ap (λ (t : Bool). t && b) e ∙ f

module _ {A : Type 0} where
  pub total_set : (f : A → ℕ) (xs : List A) (i : ℕ) (v w : A) → get_elem? xs i ≡ some v → total f (set xs i w) + f v ≡ total f xs + f w
  unfolding total
  total_set f [] i v w e = absurd (some-ne-none v (sym e))
  total_set f (x ∷ xs) zero v w e = let s = ap f (some-injective x v e) in omega arith
  total_set f (x ∷ xs) (suc i) v w e = let t = total_set f xs i v w e in omega arith

  pub total_snoc : (f : A → ℕ) (xs : List A) (x : A) → total f (xs ++ x ∷ []) ≡ total f xs + f x
  unfolding total
  total_snoc f [] x = omega arith
  total_snoc f (y ∷ ys) x = let t = total_snoc f ys x in omega arith

  pub total_append : (f : A → ℕ) (xs ys : List A) → total f (xs ++ ys) ≡ total f xs + total f ys
  unfolding total
  total_append f [] ys = omega arith
  total_append f (x ∷ xs) ys = let t = total_append f xs ys in omega arith

  pub total_at : (f : A → ℕ) (xs : List A) (i : ℕ) (v : A) → get_elem? xs i ≡ some v → f v ≤ total f xs
  unfolding total
  total_at f [] i v e = absurd (some-ne-none v (sym e))
  total_at f (x ∷ xs) zero v e = let s = ap f (some-injective x v e) in omega arith
  total_at f (x ∷ xs) (suc i) v e = let t = total_at f xs i v e in omega arith

  pub total_two : (f : A → ℕ) (xs : List A) (i j : ℕ) (v w : A) → i ≢ j → get_elem? xs i ≡ some v → get_elem? xs j ≡ some w → f v + f w ≤ total f xs
  unfolding total
  total_two f [] i j v w n e d = absurd (some-ne-none v (sym e))
  total_two f (x ∷ xs) zero zero v w n e d = absurd (n refl)
  total_two f (x ∷ xs) zero (suc j) v w n e d = let s = ap f (some-injective x v e) in let t = total_at f xs j w d in omega arith
  total_two f (x ∷ xs) (suc i) zero v w n e d = let s = ap f (some-injective x w d) in let t = total_at f xs i v e in omega arith
  total_two f (x ∷ xs) (suc i) (suc j) v w n e d = let t = total_two f xs i j v w (λ q. n (ap suc q)) e d in omega arith

  -- where the sum is positive, some element counts
  pub total_some : (f : A → ℕ) (xs : List A) → 0 < total f xs → (i : ℕ) × (v : A) × (get_elem? xs i ≡ some v) × (0 < f v)
  unfolding total
  total_some f [] h = absurd (omega arith)
  total_some f (x ∷ xs) h = dite (dec_lt 0 (f x)) (λ l. (zero, x, refl, l)) (λ no. let r = total_some f xs (omega arith) in (suc r.0, r.1, r.2, r.3))

  pub total_zero : (f : A → ℕ) (xs : List A) → ((i : ℕ) (v : A) → get_elem? xs i ≡ some v → f v ≡ 0) → total f xs ≡ 0
  unfolding total
  total_zero f [] h = refl
  total_zero f (x ∷ xs) h = let a = h zero x refl in let t = total_zero f xs (λ i v e. h (suc i) v e) in omega arith

pub total_map : {A B : Type 0} (g : A → B) (f : B → ℕ) (xs : List A) → total f (map g xs) ≡ total (λ x. f (g x)) xs
unfolding total
total_map g f [] = refl
total_map g f (x ∷ xs) = let t = total_map g f xs in omega arith

-- sums over the numbers below n

pub below_step : (f : ℕ → ℕ) (r q : ℕ) → r < q → below f r + f r ≤ below f q
unfolding below
below_step f r zero lt = absurd (omega arith)
below_step f r (suc q) lt = dite (ℕ_discrete r q) (λ e. subst (λ (z : ℕ). below f z + f z ≤ below f q + f q) (sym e) (omega arith)) (λ ne. let h = below_step f r q (omega arith) in omega arith)

pub below_at : (f : ℕ → ℕ) (n k : ℕ) → k < n → f k ≤ below f n
below_at f n k h = let s = below_step f k n h in omega arith

pub below_same : (f g : ℕ → ℕ) (n : ℕ) → ((k : ℕ) → k < n → f k ≡ g k) → below f n ≡ below g n
unfolding below
below_same f g zero h = refl
below_same f g (suc n) h = let a = h n (omega arith) in let t = below_same f g n (λ k l. h k (omega arith)) in omega arith

-- where the sum is positive, some number counts
pub below_some : (f : ℕ → ℕ) (n : ℕ) → 0 < below f n → (m : ℕ) × (m < n) × (0 < f m)
unfolding below
below_some f zero h = absurd (omega arith)
below_some f (suc n) h = dite (dec_lt 0 (f n)) (λ l. (n, (omega arith), l)) (λ no. let t = below_some f n (omega arith) in let a = t.1 in (t.0, (omega arith), t.2))

pub below_add : (f g : ℕ → ℕ) (n : ℕ) → below (λ k. f k + g k) n ≡ below f n + below g n
unfolding below
below_add f g zero = refl
below_add f g (suc n) = let t = below_add f g n in omega arith

-- a place of a part lies below the end of the parts
pub below_inside : (f : ℕ → ℕ) (r q k : ℕ) → r < q → k < f r → below f r + k < below f q
below_inside f r q k lt lk = let h = below_step f r q lt in omega arith

-- equal places are places of one part
pub below_apart : (f : ℕ → ℕ) (r q k l : ℕ) → k < f r → l < f q → below f r + k ≡ below f q + l → (r ≡ q) × (k ≡ l)
below_apart f r q k l lk ll e = dite (ℕ_discrete r q)
    (λ same. (same, let o : below f r ≡ below f q = ap (below f) same in omega arith))
    (λ ne. dite (dec_lt r q) (λ lt. let h = below_step f r q lt in absurd (omega arith)) (λ ge. let h = below_step f q r (omega arith) in absurd (omega arith)))

-- each place below the end is one of a part
pub below_covers : (f : ℕ → ℕ) (n p : ℕ) → p < below f n → (r : ℕ) × (k : ℕ) × (r < n) × (k < f r) × (below f r + k ≡ p)
unfolding below
below_covers f zero p h = absurd (omega arith)
below_covers f (suc n) p h = dite (dec_lt p (below f n))
    (λ l. let t = below_covers f n p l in let a = t.2 in (t.0, t.1, (omega arith), t.3, t.4))
    (λ no. (n, p - below f n, (omega arith), (omega arith), (omega arith)))

-- the same for parts of one width

further : (x y n : ℕ) → x < y → x * n + n ≤ y * n
further x y n h = let a : suc x * n ≤ y * n = mul-le-mul_right n h in omega (arith, suc-mul x n)

pub even_inside : (w b n k : ℕ) → k < w → b < n → b * w + k < n * w
even_inside w b n k lk lb = let x : ℕ = b * w in let y : ℕ = n * w in let h : x + w ≤ y = further b n w lb in let r : x + k < y = omega arith in r

pub even_apart : (w b d k l : ℕ) → k < w → l < w → b * w + k ≡ d * w + l → (b ≡ d) × (k ≡ l)
even_apart w b d k l lk ll e = dite (ℕ_discrete b d)
    (λ same. (same, let o : b * w ≡ d * w = ap (λ (z : ℕ). z * w) same in let x : ℕ = b * w in let y : ℕ = d * w in let o' : x ≡ y = o in let e' : x + k ≡ y + l = e in omega arith))
    (λ ne. let x : ℕ = b * w in let y : ℕ = d * w in let e' : x + k ≡ y + l = e in
    dite (dec_lt b d) (λ lt. let h : x + w ≤ y = further b d w lt in absurd (omega arith)) (λ ge. let h : y + w ≤ x = further d b w (omega arith) in absurd (omega arith)))

pub even_covers : (w n p : ℕ) → p < n * w → (b : ℕ) × (k : ℕ) × (b < n) × (k < w) × (b * w + k ≡ p)
even_covers w zero p h = absurd (let z : zero * w ≡ 0 = omega arith in omega arith)
even_covers w (suc n) p h = let s = suc-mul n w in let x : ℕ = n * w in let s' : suc n * w ≡ x + w = s in
    dite (dec_lt p (n * w)) (λ l. let t = even_covers w n p l in let a = t.2 in (t.0, t.1, (omega arith), t.3, t.4))
    (λ no. let no' : ¬ (p < x) = no in let h' : p < x + w = subst (λ (z : ℕ). p < z) s' h in (n, p - n * w, (omega arith), (let r : p - x < w = omega arith in r), (let r : x + (p - x) ≡ p = omega arith in r)))
