-- Lists given by their elements, with what is kept in them, and sums that lie below one another.
use Rattle.std.proofs.Common.{◌≡◌, ℕ, zero, suc, ◌+◌, ◌<◌, ◌≤◌, ◌==◌, ◌&&◌, eqb, Bool, true, false, cond, List, [], ◌∷◌, ◌++◌, map, refl, ap, arith, eq-eqb, eqb-true}
use mathlib.Core.Logic.{dite}
use native.Mathlib.Decide.{ℕ_discrete}
use Rattle.oak_model.specs.Counts.{one_if, total, rows, Each}
use Rattle.oak_model.specs.Kept.{KeptWord, keeps, AreTrueTo, renamed, restored}
use Rattle.oak_model.proofs.Counting.{test-cases}

module _ {A : Type 0} where
  pub total_le : (f g : A → ℕ) (xs : List A) → ((x : A) → f x ≤ g x) → total f xs ≤ total g xs
  unfolding total
  total_le f g [] h = omega arith
  total_le f g (x ∷ xs) h = let a = h x in let t = total_le f g xs h in omega arith

  pub each_rows : (P : A → Type 0) (i n : ℕ) (f : ℕ → A) → ((k : ℕ) → i ≤ k → k < i + n → P (f k)) → Each P (rows i n f)
  unfolding rows
  each_rows P i zero f h = tt
  each_rows P i (suc n) f h = (h i (omega arith) (omega arith), each_rows P (suc i) n f (λ k le lt. h k (omega arith) (omega arith)))

  pub rows_same : (i n : ℕ) (f g : ℕ → A) → ((k : ℕ) → i ≤ k → k < i + n → f k ≡ g k) → rows i n f ≡ rows i n g
  unfolding rows
  rows_same i zero f g h = refl
  rows_same i (suc n) f g h = let a = h i (omega arith) (omega arith) in let t = rows_same (suc i) n f g (λ k le lt. h k (omega arith) (omega arith)) in λ j. a j ∷ t j

  pub rows_map : {B : Type 0} (g : A → B) (i n : ℕ) (f : ℕ → A) → map g (rows i n f) ≡ rows i n (λ k. g (f k))
  unfolding rows
  rows_map g i zero f = refl
  rows_map g i (suc n) f = ap (λ (l : List _). g (f i) ∷ l) (rows_map g (suc i) n f)

  -- where an element counts in its place k alone, and there if t holds

  pub rows_none : (w : A → ℕ) (t : Bool) (k i n : ℕ) (f : ℕ → A) → ((l : ℕ) → w (f l) ≡ one_if (t && (l == k))) → k < i → total w (rows i n f) ≡ 0
  unfolding rows total
  rows_none w t k i zero f is lt = refl
  rows_none w t k i (suc n) f is lt = let r = rows_none w t k (suc i) n f is (omega arith) in let a = is i in
      let b : one_if (t && (i == k)) ≡ 0 = test-cases (t && (i == k)) (λ b. one_if b ≡ 0) (λ e. absurd (apart t e)) (λ _. refl) in omega arith
    where
      apart : (t : Bool) → (t && (i == k)) ≡ true → ⊥
      apart true e = let q = eqb-true i k e in omega arith
      apart false e = absurd cc

  pub rows_most : (w : A → ℕ) (t : Bool) (k i n : ℕ) (f : ℕ → A) → ((l : ℕ) → w (f l) ≡ one_if (t && (l == k))) → total w (rows i n f) ≤ one_if t
  unfolding rows total
  rows_most w t k i zero f is = omega arith
  rows_most w t k i (suc n) f is = let a = is i in dite (ℕ_discrete i k)
      (λ e. let r = rows_none w t k (suc i) n f is (omega arith) in let b = at_most t (eqb i k) in omega arith)
      (λ ne. let r = rows_most w t k (suc i) n f is in let b : one_if (t && (i == k)) ≡ 0 = test-cases (t && (i == k)) (λ b. one_if b ≡ 0) (λ e. absurd (ne (apart t e))) (λ _. refl) in omega arith)
    where
      apart : (t : Bool) → (t && (i == k)) ≡ true → i ≡ k
      apart true e = eqb-true i k e
      apart false e = absurd cc

      at_most : (t u : Bool) → one_if (t && u) ≤ one_if t
      at_most true true = omega arith
      at_most true false = omega arith
      at_most false u = omega arith

  pub rows_some : (w : A → ℕ) (k i n : ℕ) (f : ℕ → A) → ((l : ℕ) → w (f l) ≡ one_if (l == k)) → i ≤ k → k < i + n → 0 < total w (rows i n f)
  unfolding rows total
  rows_some w k i zero f is le lt = absurd (omega arith)
  rows_some w k i (suc n) f is le lt = let a = is i in dite (ℕ_discrete i k)
      (λ e. let b : one_if (i == k) ≡ 1 = ap one_if (eq-eqb i k e) in omega arith)
      (λ ne. let r = rows_some w k (suc i) n f is (omega arith) (omega arith) in omega arith)

-- kept words under other names

module _ {P Q : Type 0} (f : P → Q) where
  pub renamed_true : (read : Q → ℕ) (ws : List (KeptWord P)) → AreTrueTo (λ p. read (f p)) ws → AreTrueTo read (renamed f ws)
  renamed_true read [] h = tt
  renamed_true read (w ∷ ws) h = (h.0, renamed_true read ws h.1)

  pub true_renamed : (read : Q → ℕ) (ws : List (KeptWord P)) → AreTrueTo read (renamed f ws) → AreTrueTo (λ p. read (f p)) ws
  true_renamed read [] h = tt
  true_renamed read (w ∷ ws) h = (h.0, true_renamed read ws h.1)

  -- a word that is none of the names is kept by none
  pub renamed_none : (same : Q → Q → Bool) (q : Q) (ws : List (KeptWord P)) → ((p : P) → same (f p) q ≡ false) → keeps same q (renamed f ws) ≡ 0
  unfolding total
  renamed_none same q [] away = refl
  renamed_none same q (w ∷ ws) away = let t = renamed_none same q ws away in let u : one_if (same (f w.spot) q) ≡ 0 = ap one_if (away w.spot) in omega arith

  pub renamed_keeps : (same : P → P → Bool) (other : Q → Q → Bool) (q : P) (ws : List (KeptWord P)) → ((p : P) → other (f p) (f q) ≡ same p q) → keeps other (f q) (renamed f ws) ≡ keeps same q ws
  unfolding total
  renamed_keeps same other q [] e = refl
  renamed_keeps same other q (w ∷ ws) e = let t = renamed_keeps same other q ws e in let u : one_if (other (f w.spot) (f q)) ≡ one_if (same w.spot q) = ap one_if (e w.spot) in omega arith

  pub renamed_restored : (same : P → P → Bool) (other : Q → Q → Bool) (p : P) (x : ℕ) (ws : List (KeptWord P)) → ((q : P) → other (f q) (f p) ≡ same q p) → restored other (f p) x (renamed f ws) ≡ renamed f (restored same p x ws)
  renamed_restored same other p x [] e = refl
  renamed_restored same other p x (w ∷ ws) e = let t = renamed_restored same other p x ws e in λ i. record { spot = f w.spot; number = cond (e w.spot i) x w.number } ∷ t i

  pub restored_else : (other : Q → Q → Bool) (q : Q) (x : ℕ) (ws : List (KeptWord P)) → ((p : P) → other (f p) q ≡ false) → restored other q x (renamed f ws) ≡ renamed f ws
  restored_else other q x [] away = refl
  restored_else other q x (w ∷ ws) away = let t = restored_else other q x ws away in λ i. record { spot = f w.spot; number = cond (away w.spot i) x w.number } ∷ t i

pub restored_append : {P : Type 0} (same : P → P → Bool) (p : P) (x : ℕ) (ws us : List (KeptWord P)) → restored same p x (ws ++ us) ≡ restored same p x ws ++ restored same p x us
restored_append same p x [] us = refl
restored_append same p x (w ∷ ws) us = let t = restored_append same p x ws us in λ i. record { spot = w.spot; number = cond (same w.spot p) x w.number } ∷ t i

pub renamed_append : {P Q : Type 0} (f : P → Q) (ws us : List (KeptWord P)) → renamed f (ws ++ us) ≡ renamed f ws ++ renamed f us
renamed_append f [] us = refl
renamed_append f (w ∷ ws) us = let t = renamed_append f ws us in λ i. record { spot = f w.spot; number = w.number } ∷ t i

module _ {A : Type 0} (P : A → Type 0) where
  pub each_first : (xs ys : List A) → Each P (xs ++ ys) → Each P xs
  each_first [] ys h = tt
  each_first (x ∷ xs) ys h = (h.0, each_first xs ys h.1)

  pub each_rest : (xs ys : List A) → Each P (xs ++ ys) → Each P ys
  each_rest [] ys h = h
  each_rest (x ∷ xs) ys h = each_rest xs ys h.1
