-- Members of lists, by their places and by the lists that were put together.
use Rattle.std.proofs.Common.{◌≡◌, ℕ, zero, suc, ◌⊎◌, List, [], ◌∷◌, ◌++◌, sym, ap, inl, inr}
use mathlib.Core.Option.{some, some-injective, some-ne-none}
use lib.ListN.{get_elem?}
use Rattle.oak_model.specs.Counts.{Has}

module _ {A : Type 0} where
  pub has_at : (xs : List A) (i : ℕ) (x : A) → get_elem? xs i ≡ some x → Has x xs
  has_at [] i x e = absurd (some-ne-none x (sym e))
  has_at (y ∷ xs) zero x e = inl (sym (some-injective y x e))
  has_at (y ∷ xs) (suc i) x e = inr (has_at xs i x e)

  pub at_has : (xs : List A) (x : A) → Has x xs → (i : ℕ) × (get_elem? xs i ≡ some x)
  at_has [] x h = absurd h
  at_has (y ∷ xs) x (inl e) = (0, ap some (sym e))
  at_has (y ∷ xs) x (inr h) = let r = at_has xs x h in (suc r.0, r.1)

  pub has_parts : (xs ys : List A) (x : A) → Has x (xs ++ ys) → Has x xs ⊎ Has x ys
  has_parts [] ys x h = inr h
  has_parts (y ∷ xs) ys x (inl e) = inl (inl e)
  has_parts (y ∷ xs) ys x (inr h) = elim (has_parts xs ys x h) [ inl l ↦ inl (inr l) | inr l ↦ inr l ]
