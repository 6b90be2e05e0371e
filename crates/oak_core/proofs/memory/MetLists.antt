-- Where an element stands in a list that is two lists, one behind the other.
use Rattle.std.proofs.Common.{◌≡◌, ℕ, zero, suc, ◌+◌, ◌-◌, ◌<◌, ◌≤◌, List, [], ◌∷◌, ◌++◌, length, sym, refl, ap, ◌∙◌, subst, arith}
use mathlib.Core.Option.{some, some-injective, some-ne-none}
use lib.ListN.{get_elem?}
use Rattle.oak_model.specs.Counts.{Each}

module _ {A : Type 0} where
  pub at_inside : (l : List A) (i : ℕ) (a : A) → get_elem? l i ≡ some a → i < length l
  at_inside [] i a e = absurd (some-ne-none a (sym e))
  at_inside (x ∷ xs) zero a e = omega arith
  at_inside (x ∷ xs) (suc i) a e = let h = at_inside xs i a e in omega arith

  -- in the second list

  pub at_behind : (l m : List A) (i : ℕ) (a : A) → get_elem? m i ≡ some a → get_elem? (l ++ m) (length l + i) ≡ some a
  at_behind [] m i a e = ap (get_elem? m) (let q : 0 + i ≡ i = omega arith in q) ∙ e
  at_behind (x ∷ xs) m i a e = ap (get_elem? (x ∷ (xs ++ m))) (let q : suc (length xs) + i ≡ suc (length xs + i) = omega arith in q) ∙ at_behind xs m i a e

  pub from_behind : (l m : List A) (i : ℕ) (a : A) → length l ≤ i → get_elem? (l ++ m) i ≡ some a → get_elem? m (i - length l) ≡ some a
  from_behind [] m i a le e = ap (get_elem? m) (let q : i - 0 ≡ i = omega arith in q) ∙ e
  from_behind (x ∷ xs) m zero a le e = absurd (omega arith)
  from_behind (x ∷ xs) m (suc i) a le e = ap (get_elem? m) (let q : suc i - suc (length xs) ≡ i - length xs = omega arith in q) ∙ from_behind xs m i a (omega arith) e

  -- in the first

  pub at_some : (l : List A) (i : ℕ) → i < length l → (a : A) × (get_elem? l i ≡ some a)
  at_some [] i lt = absurd (omega arith)
  at_some (x ∷ xs) zero lt = (x, refl)
  at_some (x ∷ xs) (suc i) lt = at_some xs i (omega arith)

  pub at_shorter : (l m : List A) (i : ℕ) (a : A) → i < length l → get_elem? (l ++ m) i ≡ some a → get_elem? l i ≡ some a
  at_shorter [] m i a lt e = absurd (omega arith)
  at_shorter (x ∷ xs) m zero a lt e = e
  at_shorter (x ∷ xs) m (suc i) a lt e = at_shorter xs m i a (omega arith) e

  -- what is said of each is said of one

  pub each_at : (P : A → Type 0) (l : List A) → Each P l → (i : ℕ) (a : A) → get_elem? l i ≡ some a → P a
  each_at P [] h i a e = absurd (some-ne-none a (sym e))
  each_at P (x ∷ xs) h zero a e = subst P (some-injective x a e) h.0
  each_at P (x ∷ xs) h (suc i) a e = each_at P xs h.1 i a e
