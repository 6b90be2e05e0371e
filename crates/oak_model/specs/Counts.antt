-- Sums over lists and over numbers, and functions in which one value is exchanged.
use Rattle.std.specs.Prelude.{◌≡◌, ℕ, zero, suc, ◌+◌, ◌⊎◌, ◌==◌, nat_le, cond, Bool, List, [], ◌∷◌, ◌++◌, length}
use mathlib.Core.Option.{some}
use lib.ListN.{get_elem?}

-- 1 where the test holds
abbrev pub one_if : Bool → ℕ
one_if b = cond b 1 0

-- 1 where the two are equal
unfoldable pub one_at : ℕ → ℕ → ℕ
one_at a b = one_if (a == b)

-- f added up over the list
unfoldable pub total : {A : Type 0} → (A → ℕ) → List A → ℕ
total f [] = 0
total f (x ∷ xs) = f x + total f xs

-- f 0 + .. + f (n - 1): where the n-th part begins, the parts having f 0, f 1, .. places
unfoldable pub below : (ℕ → ℕ) → ℕ → ℕ
below f zero = 0
below f (suc n) = below f n + f n

-- the function f, with x at i
abbrev pub put : {A : Type 0} → (ℕ → A) → ℕ → A → ℕ → A
put f i x k = cond (k == i) x (f k)

-- P holds of each one that stands in the list
abbrev pub Every : {A : Type 0} → (A → Type 0) → List A → Type 0
Every P xs = (j : ℕ) (x : _) → get_elem? xs j ≡ some x → P x

-- P holds of each part of the list
abbrev pub Each : {A : Type 0} → (A → Type 0) → List A → Type 0
Each P [] = Unit {0}
Each P (x ∷ xs) = P x × Each P xs

abbrev pub Has : {A : Type 0} → A → List A → Type 0
Has a [] = ⊥
Has a (x ∷ xs) = (a ≡ x) ⊎ Has a xs

-- a is the first part of b
abbrev pub Begins : {A : Type 0} → List A → List A → Type 0
Begins a b = (rest : List _) × (b ≡ a ++ rest)

-- the longest of the lists
unfoldable pub longest : {A : Type 0} → List (List A) → List A
longest [] = []
longest (x ∷ xs) = cond (nat_le (length x) (length (longest xs))) (longest xs) x

-- f i, .., f (i + n - 1)
unfoldable pub rows : {A : Type 0} → ℕ → ℕ → (ℕ → A) → List A
rows i zero f = []
rows i (suc n) f = f i ∷ rows (suc i) n f
