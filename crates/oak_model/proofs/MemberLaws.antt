-- Members of lists: what holds of each holds of one, what counts is that of one, and what passes a test.
use Rattle.std.proofs.Common.{◌≡◌, ℕ, zero, suc, ◌+◌, ◌<◌, ◌≤◌, cond, Bool, true, false, List, [], ◌∷◌, sym, refl, ap, ◌∙◌, subst, inl, inr, ⊎_elim, arith}
use Rattle.std.specs.Prelude.{not, filter}
use Rattle.std.proofs.lemmas.Bool.{both_ways}
use mathlib.Core.Logic.{dite}
use mathlib.Core.Option.{some, some-injective, some-ne-none}
use native.Mathlib.Decide.{dec_lt}
use lib.ListN.{get_elem?}
use Rattle.oak_model.specs.Counts.{total, Each, Has}
use Rattle.oak_model.proofs.Counting.{test-cases}

module _ {A : Type 0} where
  pub each_has : (P : A → Type 0) (xs : List A) (x : A) → Each P xs → Has x xs → P x
  each_has P [] x h m = absurd m
  each_has P (y ∷ ys) x h m = ⊎_elim (λ (e : x ≡ y). subst P (sym e) h.0) (λ (r : Has x ys). each_has P ys x h.1 r) m

  pub each_at : (P : A → Type 0) (xs : List A) → Each P xs → (i : ℕ) (x : A) → get_elem? xs i ≡ some x → P x
  each_at P [] h i x e = absurd (some-ne-none x (sym e))
  each_at P (y ∷ ys) h zero x e = subst P (some-injective y x e) h.0
  each_at P (y ∷ ys) h (suc i) x e = each_at P ys h.1 i x e

  -- what follows for each member
  pub each_in : (P Q : A → Type 0) (xs : List A) → ((x : A) → Has x xs → P x → Q x) → Each P xs → Each Q xs
  each_in P Q [] f h = tt
  each_in P Q (x ∷ xs) f h = (f x (inl refl) h.0, each_in P Q xs (λ y m. f y (inr m)) h.1)

  -- where the sum is positive, some member counts
  pub has_some : (f : A → ℕ) (xs : List A) → 0 < total f xs → (x : A) × Has x xs × (0 < f x)
  unfolding total
  has_some f [] h = absurd (omega arith)
  has_some f (x ∷ xs) h = dite (dec_lt 0 (f x)) (λ l. (x, inl refl, l)) (λ no. let r = has_some f xs (omega arith) in (r.0, inr r.1, r.2))

  pub total_has : (f : A → ℕ) (xs : List A) (x : A) → Has x xs → f x ≤ total f xs
  unfolding total
  total_has f [] x m = absurd m
  total_has f (y ∷ ys) x m = ⊎_elim (λ (e : x ≡ y). let s = ap f e in omega arith) (λ (r : Has x ys). let t = total_has f ys x r in omega arith) m

-- members that pass a test
module _ {A : Type 0} (p : A → Bool) where
  pub filter-cases : (x : A) (xs : List A) (P : List A → Type 0) → (p x ≡ true → P (x ∷ filter p xs)) → (p x ≡ false → P (filter p xs)) → P (filter p (x ∷ xs))
  filter-cases x xs P passes fails = test-cases (p x) (λ t. P (cond t (x ∷ filter p xs) (filter p xs))) passes fails

  pub total_split : (f : A → ℕ) (xs : List A) → total f (filter p xs) + total f (filter (λ x. not (p x)) xs) ≡ total f xs
  unfolding total
  total_split f [] = refl
  total_split f (x ∷ xs) = let t = total_split f xs in test-cases (p x) (λ b. total f (cond b (x ∷ filter p xs) (filter p xs)) + total f (cond (not b) (x ∷ filter (λ y. not (p y)) xs) (filter (λ y. not (p y)) xs)) ≡ f x + total f xs) (λ _. omega arith) (λ _. omega arith)

  -- where g is nothing on what passes and f is nothing, it adds nothing there
  pub total_passed : (f g : A → ℕ) (xs : List A) → ((x : A) → p x ≡ true → f x ≡ 0 → g x ≡ 0) → total f xs ≡ 0 → total g (filter p xs) ≡ 0
  unfolding total
  total_passed f g [] h e = refl
  total_passed f g (x ∷ xs) h e = let t = total_passed f g xs h (omega arith) in filter-cases x xs (λ l. total g l ≡ 0) (λ y. let a = h x y (omega arith) in omega arith) (λ _. t)

  -- where all that adds nothing passes, and nothing is added, all pass
  pub filter_all : (f : A → ℕ) (xs : List A) → ((x : A) → f x ≡ 0 → p x ≡ true) → total f xs ≡ 0 → filter p xs ≡ xs
  unfolding total
  filter_all f [] h e = refl
  filter_all f (x ∷ xs) h e = filter-cases x xs (λ l. l ≡ x ∷ xs) (λ _. ap (λ (l : List A). x ∷ l) (filter_all f xs h (omega arith))) (λ no. absurd (both_ways (p x) no (h x (omega arith))))

  pub each_filter : (P : A → Type 0) (xs : List A) → Each P xs → Each P (filter p xs)
  each_filter P [] h = h
  each_filter P (x ∷ xs) h = filter-cases x xs (Each P) (λ _. (h.0, each_filter P xs h.1)) (λ _. each_filter P xs h.1)

  pub has_filter : (xs : List A) (y : A) → Has y xs → p y ≡ true → Has y (filter p xs)
  has_filter [] y h d = h
  has_filter (x ∷ xs) y (inl e) d = filter-cases x xs (Has y) (λ _. inl e) (λ no. absurd (both_ways (p x) no (sym (ap p e) ∙ d)))
  has_filter (x ∷ xs) y (inr h) d = filter-cases x xs (Has y) (λ _. inr (has_filter xs y h d)) (λ _. has_filter xs y h d)
