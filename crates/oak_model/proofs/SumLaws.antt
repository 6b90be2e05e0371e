-- Sums in which one part changes, sums that lie below others or are nothing with them, and products with 1 and 0.
use Rattle.std.proofs.Common.{◌≡◌, ◌≢◌, ℕ, zero, suc, ◌+◌, ◌*◌, ◌<◌, ◌≤◌, List, [], ◌∷◌, sym, refl, ap, ◌∙◌, arith}
use mathlib.Core.Logic.{dite}
use native.Mathlib.Decide.{ℕ_discrete}
use Rattle.oak_model.specs.Counts.{one_at, total, below}
use Rattle.oak_model.proofs.Counting.{one_at-same, one_at-other, below_same}

-- products

pub times-one : (w x : ℕ) → w ≡ 1 → w * x ≡ x
times-one w x e = ap (λ (t : ℕ). t * x) e ∙ (let q : 1 * x ≡ x = omega arith in q)

pub times-none : (w x : ℕ) → w ≡ 0 → w * x ≡ 0
times-none w x e = ap (λ (t : ℕ). t * x) e ∙ (let q : 0 * x ≡ 0 = omega arith in q)

pub times_le : (w x y : ℕ) → x ≤ y → w * x ≤ w * y
times_le w x y h = grind arith

pub plus_times : (x y n : ℕ) → (x + y) * n ≡ x * n + y * n
plus_times x y n = grind arith

-- sums over the numbers below n

-- the sum after a change at one place
pub below_set : (f g : ℕ → ℕ) (n i : ℕ) → i < n → ((k : ℕ) → k ≢ i → f k ≡ g k) → below f n + g i ≡ below g n + f i
unfolding below
below_set f g zero i l h = absurd (omega arith)
below_set f g (suc n) i l h = dite (ℕ_discrete i n) (λ e. let s = below_same f g n (λ k m. h k (omega arith)) in let u = ap f e in let w = ap g e in omega arith)
    (λ ne. let t = below_set f g n i (omega arith) h in let a = h n (λ x. ne (sym x)) in omega arith)

pub below_le : (f g : ℕ → ℕ) (n : ℕ) → ((k : ℕ) → f k ≤ g k) → below f n ≤ below g n
unfolding below
below_le f g zero h = omega arith
below_le f g (suc n) h = let a = h n in let t = below_le f g n h in omega arith

-- where f is nothing, g is nothing too
pub below_none : (f g : ℕ → ℕ) (n : ℕ) → ((k : ℕ) → f k ≡ 0 → g k ≡ 0) → below f n ≡ 0 → below g n ≡ 0
unfolding below
below_none f g zero h e = refl
below_none f g (suc n) h e = let a = h n (omega arith) in let t = below_none f g n h (omega arith) in omega arith

-- sums over lists

module _ {A : Type 0} where
  -- nothing is added up over no element
  pub total_empty : (f : A → ℕ) → 0 < total f [] → ⊥
  unfolding total
  total_empty f l = omega arith

  pub total_same : (f g : A → ℕ) (xs : List A) → ((x : A) → f x ≡ g x) → total f xs ≡ total g xs
  unfolding total
  total_same f g [] h = refl
  total_same f g (x ∷ xs) h = let a = h x in let t = total_same f g xs h in omega arith

  pub total_plus : (f g : A → ℕ) (xs : List A) → total (λ x. f x + g x) xs ≡ total f xs + total g xs
  unfolding total
  total_plus f g [] = refl
  total_plus f g (x ∷ xs) = let t = total_plus f g xs in omega arith

  -- a sum of sums
  pub total_sum : (f g k : A → ℕ) (xs : List A) → ((x : A) → f x ≡ g x + k x) → total f xs ≡ total g xs + total k xs
  total_sum f g k xs h = total_same f (λ x. g x + k x) xs h ∙ total_plus g k xs

  -- where f is nothing, g is nothing too
  pub total_none : (f g : A → ℕ) (xs : List A) → ((x : A) → f x ≡ 0 → g x ≡ 0) → total f xs ≡ 0 → total g xs ≡ 0
  unfolding total
  total_none f g [] h e = refl
  total_none f g (x ∷ xs) h e = let a = h x (omega arith) in let t = total_none f g xs h (omega arith) in omega arith

-- lists of numbers in which i stands so often

pub total_away : (f g : ℕ → ℕ) (i : ℕ) (xs : List ℕ) → ((j : ℕ) → j ≢ i → g j ≡ f j) → total (λ j. one_at j i) xs ≡ 0 → total g xs ≡ total f xs
unfolding total
total_away f g i [] h none = refl
total_away f g i (x ∷ xs) h none = let o = one_at-same x i in let a = h x (λ e. let q = o e in omega arith) in let t = total_away f g i xs h (omega arith) in omega arith

-- a function changes at a number that stands once in the list
pub total_put : (f g : ℕ → ℕ) (i : ℕ) (xs : List ℕ) → ((j : ℕ) → j ≢ i → g j ≡ f j) → total (λ j. one_at j i) xs ≡ 1 → total g xs + f i ≡ total f xs + g i
unfolding total
total_put f g i [] h once = absurd (omega arith)
total_put f g i (x ∷ xs) h once = dite (ℕ_discrete x i)
    (λ e. let o = one_at-same x i e in let t = total_away f g i xs h (omega arith) in let a = ap f e in let b = ap g e in omega arith)
    (λ n. let o = one_at-other x i n in let t = total_put f g i xs h (omega arith) in let a = h x n in omega arith)

pub total_in : (f : ℕ → ℕ) (i : ℕ) (xs : List ℕ) → 0 < total (λ j. one_at j i) xs → f i ≤ total f xs
unfolding total
total_in f i [] h = absurd (omega arith)
total_in f i (x ∷ xs) h = dite (ℕ_discrete x i) (λ e. let s = ap f e in omega arith) (λ ne. let o = one_at-other x i ne in let t = total_in f i xs (omega arith) in omega arith)
