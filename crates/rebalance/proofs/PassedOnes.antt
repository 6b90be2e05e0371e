-- Those of a list that pass a test.
use Rattle.std.proofs.Common.{◌≡◌, ℕ, zero, suc, ◌≤◌, cond, Bool, List, [], ◌∷◌, map, length, sym, refl, ap, ◌∙◌, inl, inr, arith}
use Rattle.std.specs.List.{filter}
use mathlib.Core.Option.{some, some-injective, some-ne-none}
use lib.ListN.{get_elem?}
use Rattle.oak_model.specs.Counts.{Has}
use Rattle.oak_model.proofs.Counting.{test-cases}
use Rattle.oak_model.proofs.MemberLaws.{filter-cases}

-- what stands in a list is a member
pub has_at : {A : Type 0} (xs : List A) (i : ℕ) (x : A) → get_elem? xs i ≡ some x → Has x xs
has_at [] i x e = absurd (some-ne-none x (sym e))
has_at (y ∷ ys) zero x e = inl (sym (some-injective y x e))
has_at (y ∷ ys) (suc i) x e = inr (has_at ys i x e)

-- no more pass than there are
pub fewer_pass : {A : Type 0} (p : A → Bool) (xs : List A) → length (filter p xs) ≤ length xs
fewer_pass p [] = omega arith
fewer_pass p (x ∷ xs) = let t = fewer_pass p xs in filter-cases p x xs (λ l. length l ≤ length (x ∷ xs)) (λ _. omega arith) (λ _. omega arith)

-- where no fewer pass, all do
pub all_pass : {A : Type 0} (p : A → Bool) (xs : List A) → length xs ≤ length (filter p xs) → filter p xs ≡ xs
all_pass p [] h = refl
all_pass p (x ∷ xs) h = let t = fewer_pass p xs in filter-cases p x xs (λ l. length (x ∷ xs) ≤ length l → l ≡ x ∷ xs) (λ _ k. ap (λ (l : List _). x ∷ l) (all_pass p xs (omega arith))) (λ _ k. absurd (omega arith)) h

-- a test of what is made of each
pub pass_mapped : {A B : Type 0} (p : A → Bool) (q : B → Bool) (F : A → B) → ((x : A) → q (F x) ≡ p x) → (xs : List A) → filter q (map F xs) ≡ map F (filter p xs)
pass_mapped p q F same [] = refl
pass_mapped p q F same (x ∷ xs) = let t = pass_mapped p q F same xs in ap (λ (b : Bool). cond b (F x ∷ filter q (map F xs)) (filter q (map F xs))) (same x)
    ∙ test-cases (p x) (λ b. cond b (F x ∷ filter q (map F xs)) (filter q (map F xs)) ≡ map F (cond b (x ∷ filter p xs) (filter p xs))) (λ _. ap (λ (l : List _). F x ∷ l) t) (λ _. t)
