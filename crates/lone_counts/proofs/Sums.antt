-- Sums over two lists that are matched with one another.
use Rattle.std.proofs.Common.{◌≡◌, ℕ, zero, suc, ◌+◌, ◌*◌, ◌≤◌, Bool, cond, List, [], ◌∷◌, length, sym, refl, ap, ◌∙◌, arith, add-mul}
use Rattle.std.specs.Prelude.{count_by, fold}
use mathlib.Core.Option.{some, some-injective, some-ne-none}
use lib.ListN.{get_elem?}
use Rattle.oak_model.specs.Counts.{one_if, total}
use Rattle.oak_model.proofs.Counting.{total_at}

module _ {A : Type 0} where
  -- functions that agree on the list have one sum
  pub total_same : (f g : A → ℕ) (xs : List A) → ((i : ℕ) (x : A) → get_elem? xs i ≡ some x → f x ≡ g x) → total f xs ≡ total g xs
  unfolding total
  total_same f g [] h = refl
  total_same f g (x ∷ xs) h = let a = h zero x refl in let t = total_same f g xs (λ i y e. h (suc i) y e) in omega arith

  pub total_none : (xs : List A) → total (λ _. 0) xs ≡ 0
  unfolding total
  total_none [] = refl
  total_none (x ∷ xs) = let t = total_none xs in omega arith

  pub total_ones : (xs : List A) → total (λ _. 1) xs ≡ length xs
  unfolding total
  total_ones [] = refl
  total_ones (x ∷ xs) = let t = total_ones xs in omega arith

  pub total_plus : (f g : A → ℕ) (xs : List A) → total (λ x. f x + g x) xs ≡ total f xs + total g xs
  unfolding total
  total_plus f g [] = refl
  total_plus f g (x ∷ xs) = let t = total_plus f g xs in omega arith

  pub total_times : (f : A → ℕ) (n : ℕ) (xs : List A) → total (λ x. f x * n) xs ≡ total f xs * n
  unfolding total
  total_times f n [] = let z : 0 * n ≡ 0 = omega arith in sym z
  total_times f n (x ∷ xs) = let t = total_times f n xs in let a : ℕ = f x in let b : ℕ = total f xs in let s : (a + b) * n ≡ a * n + b * n = add-mul a b n in ap (λ (k : ℕ). f x * n + k) t ∙ sym s

  pub total_unweighed : (w f : A → ℕ) (xs : List A) → total w xs ≡ 0 → total (λ y. w y * f y) xs ≡ 0
  unfolding total
  total_unweighed w f [] h = refl
  total_unweighed w f (x ∷ xs) h = let z : w x ≡ 0 = omega arith in let t = total_unweighed w f xs (omega arith) in let a : w x * f x ≡ 0 = ap (λ (k : ℕ). k * f x) z ∙ (let b : 0 * f x ≡ 0 = omega arith in b) in omega arith

  -- where one part alone counts, once, its number is the sum
  pub total_only : (w f : A → ℕ) (xs : List A) (i : ℕ) (x : A) → get_elem? xs i ≡ some x → w x ≡ 1 → total w xs ≤ 1 → total (λ y. w y * f y) xs ≡ f x
  unfolding total
  total_only w f [] i x e here most = absurd (some-ne-none x (sym e))
  total_only w f (y ∷ ys) zero x e here most =
      let s : w y ≡ 1 = ap w (some-injective y x e) ∙ here in
      let n = total_unweighed w f ys (omega arith) in
      let a : w y * f y ≡ f y = ap (λ (k : ℕ). k * f y) s ∙ (let b : 1 * f y ≡ f y = omega arith in b) in
      let c : f y ≡ f x = ap f (some-injective y x e) in
      omega arith
  total_only w f (y ∷ ys) (suc i) x e here most =
      let one = total_at w ys i x e in
      let z : w y ≡ 0 = omega arith in
      let t = total_only w f ys i x e here (omega arith) in
      let a : w y * f y ≡ 0 = ap (λ (k : ℕ). k * f y) z ∙ (let b : 0 * f y ≡ 0 = omega arith in b) in
      omega arith

  -- std's sum of numbers of a list
  fold_total : (f : A → ℕ) (n : ℕ) (xs : List A) → fold (λ a x. a + f x) n xs ≡ n + total f xs
  unfolding total
  fold_total f n [] = omega arith
  fold_total f n (x ∷ xs) = let t = fold_total f (n + f x) xs in omega arith

  -- a count of a test
  pub total_count : (p : A → Bool) (xs : List A) → count_by p xs ≡ total (λ x. one_if (p x)) xs
  total_count p xs = fold_total (λ x. cond (p x) 1 0) 0 xs ∙ (let z : 0 + total (λ x. one_if (p x)) xs ≡ total (λ x. one_if (p x)) xs = omega arith in z)

module _ {A B : Type 0} where
  -- the two orders of a double sum
  pub total_swap : (r : A → B → ℕ) (xs : List A) (ys : List B) → total (λ x. total (r x) ys) xs ≡ total (λ y. total (λ x. r x y) xs) ys
  unfolding total
  total_swap r [] ys = sym (total_none ys)
  total_swap r (x ∷ xs) ys = let t = total_swap r xs ys in let s = total_plus (r x) (λ y. total (λ x. r x y) xs) ys in omega arith

  -- Each part of the one list is matched with one part of the other, and the numbers that are matched with a part add up to its number. Then the sums are one.
  pub matched : (f : A → ℕ) (g : B → ℕ) (r : A → B → ℕ) (xs : List A) (ys : List B)
      → ((i : ℕ) (x : A) → get_elem? xs i ≡ some x → total (r x) ys ≡ 1)
      → ((j : ℕ) (y : B) → get_elem? ys j ≡ some y → total (λ x. r x y * f x) xs ≡ g y)
      → total f xs ≡ total g ys
  matched f g r xs ys one each =
      let a : total f xs ≡ total (λ x. total (λ y. r x y * f x) ys) xs = total_same f (λ x. total (λ y. r x y * f x) ys) xs (λ i x e. sym (total_times (r x) (f x) ys ∙ (ap (λ (k : ℕ). k * f x) (one i x e) ∙ once (f x)))) in
      let b = total_swap (λ x y. r x y * f x) xs ys in
      let c = total_same (λ y. total (λ x. r x y * f x) xs) g ys each in
      a ∙ (b ∙ c)
    where
      once : (n : ℕ) → 1 * n ≡ n
      once n = omega arith
