-- Lists read by `get_elem?`, of which one element is exchanged, or which are lengthened or mapped.
use Rattle.std.proofs.Common.{get_or, ◌+◌, ◌≡◌, ◌≢◌, ℕ, zero, suc, ◌<◌, ◌≤◌, ◌⊎◌, List, [], ◌∷◌, ◌++◌, map, length, set, sym, refl, ap, ◌∙◌, subst, inl, inr, ⊎_elim, arith, append_assoc, append-nil, length-append, cond}
use mathlib.Core.Logic.{dite}
use mathlib.Core.Option.{some, some-injective, some-ne-none}
use native.Mathlib.Decide.{dec_le}
use lib.ListN.{get_elem?}
use Rattle.oak_model.specs.Counts.{rows, Every, Each, Begins, longest}
use Rattle.oak_model.proofs.Counting.{le-cases}

module _ {A : Type 0} where
  pub at_set : (l : List A) (i j : ℕ) (a b : A) → get_elem? (set l i a) j ≡ some b → ((j ≡ i) × (a ≡ b)) ⊎ ((j ≢ i) × (get_elem? l j ≡ some b))
  at_set [] i j a b e = absurd (some-ne-none b (sym e))
  at_set (x ∷ xs) zero zero a b e = inl (refl, some-injective a b e)
  at_set (x ∷ xs) zero (suc j) a b e = inr ((λ h. omega arith), e)
  at_set (x ∷ xs) (suc i) zero a b e = inr ((λ h. omega arith), e)
  at_set (x ∷ xs) (suc i) (suc j) a b e = ⊎_elim (λ t. inl (ap suc t.0, t.1)) (λ t. let n = t.0 in inr ((λ h. n (omega arith)), t.1)) (at_set xs i j a b e)

  -- the new element is there
  pub set_there : (l : List A) (i : ℕ) (v w : A) → get_elem? l i ≡ some v → get_elem? (set l i w) i ≡ some w
  set_there [] i v w e = absurd (some-ne-none v (sym e))
  set_there (x ∷ xs) zero v w e = refl
  set_there (x ∷ xs) (suc i) v w e = set_there xs i v w e

  pub set_else : (l : List A) (i j : ℕ) (a : A) → j ≢ i → get_elem? (set l i a) j ≡ get_elem? l j
  set_else [] i j a n = refl
  set_else (x ∷ xs) zero zero a n = absurd (n refl)
  set_else (x ∷ xs) zero (suc j) a n = refl
  set_else (x ∷ xs) (suc i) zero a n = refl
  set_else (x ∷ xs) (suc i) (suc j) a n = set_else xs i j a (λ e. n (ap suc e))

  pub set_again : (l : List A) (i : ℕ) (a : A) → get_elem? l i ≡ some a → set l i a ≡ l
  set_again [] i a e = refl
  set_again (x ∷ xs) zero a e = λ k. sym (some-injective x a e) k ∷ xs
  set_again (x ∷ xs) (suc i) a e = λ k. x ∷ set_again xs i a e k

  pub at_longer : (l m : List A) (i : ℕ) (a : A) → get_elem? l i ≡ some a → get_elem? (l ++ m) i ≡ some a
  at_longer [] m i a e = absurd (some-ne-none a (sym e))
  at_longer (x ∷ xs) m zero a e = e
  at_longer (x ∷ xs) m (suc i) a e = at_longer xs m i a e

  pub at_last : (l : List A) (a : A) → get_elem? (l ++ a ∷ []) (length l) ≡ some a
  at_last [] a = refl
  at_last (x ∷ xs) a = at_last xs a

  pub at_snoc : (l : List A) (a b : A) (j : ℕ) → get_elem? (l ++ a ∷ []) j ≡ some b → (get_elem? l j ≡ some b) ⊎ (a ≡ b)
  at_snoc [] a b zero e = inr (some-injective a b e)
  at_snoc [] a b (suc j) e = absurd (some-ne-none b (sym e))
  at_snoc (x ∷ xs) a b zero e = inl e
  at_snoc (x ∷ xs) a b (suc j) e = at_snoc xs a b j e

  pub every_one : (P : A → Type 0) (x : A) → P x → Every P (x ∷ [])
  every_one P x p zero y e = subst P (some-injective x y e) p
  every_one P x p (suc j) y e = absurd (some-ne-none y (sym e))

  pub every_snoc : (P : A → Type 0) (xs : List A) (x : A) → Every P xs → P x → Every P (xs ++ x ∷ [])
  every_snoc P xs x h p j y e = ⊎_elim (λ (o : get_elem? xs j ≡ some y). h j y o) (λ (q : x ≡ y). subst P q p) (at_snoc xs x y j e)

  pub each_append : (P : A → Type 0) (xs ys : List A) → Each P xs → Each P ys → Each P (xs ++ ys)
  each_append P [] ys h k = k
  each_append P (x ∷ xs) ys h k = (h.0, each_append P xs ys h.1 k)

  pub each_map : (P Q : A → Type 0) (xs : List A) → ((x : A) → P x → Q x) → Each P xs → Each Q xs
  each_map P Q [] f h = tt
  each_map P Q (x ∷ xs) f h = (f x h.0, each_map P Q xs f h.1)

module _ {A B : Type 0} (f : A → B) where
  pub at_map : (l : List A) (i : ℕ) (a : A) → get_elem? l i ≡ some a → get_elem? (map f l) i ≡ some (f a)
  at_map [] i a e = absurd (some-ne-none a (sym e))
  at_map (x ∷ xs) zero a e = ap (λ (y : A). some (f y)) (some-injective x a e)
  at_map (x ∷ xs) (suc i) a e = at_map xs i a e

  pub at_unmap : (l : List A) (i : ℕ) (b : B) → get_elem? (map f l) i ≡ some b → (a : A) × (get_elem? l i ≡ some a) × (f a ≡ b)
  at_unmap [] i b e = absurd (some-ne-none b (sym e))
  at_unmap (x ∷ xs) zero b e = (x, refl, some-injective (f x) b e)
  at_unmap (x ∷ xs) (suc i) b e = at_unmap xs i b e

  pub map_set : (l : List A) (i : ℕ) (a : A) → map f (set l i a) ≡ set (map f l) i (f a)
  map_set [] i a = refl
  map_set (x ∷ xs) zero a = refl
  map_set (x ∷ xs) (suc i) a = ap (λ (l : List B). f x ∷ l) (map_set xs i a)

  -- an element exchanged for one that f tells not from it
  pub map_set_same : (l : List A) (i : ℕ) (v w : A) → get_elem? l i ≡ some v → f w ≡ f v → map f (set l i w) ≡ map f l
  map_set_same l i v w at e = map_set l i w ∙ (ap (set (map f l) i) e ∙ set_again (map f l) i (f v) (at_map l i v at))

  pub each_map_list : (P : B → Type 0) (xs : List A) → Each (λ x. P (f x)) xs → Each P (map f xs)
  each_map_list P [] h = tt
  each_map_list P (x ∷ xs) h = (h.0, each_map_list P xs h.1)

module _ {A : Type 0} where
  pub begins_self : (a : List A) → Begins a a
  begins_self a = ([], sym (append-nil a))

  pub begins_trans : (a b c : List A) → Begins a b → Begins b c → Begins a c
  begins_trans a b c h k = (h.0 ++ k.0, k.1 ∙ (ap (λ (l : List A). l ++ k.0) h.1 ∙ append_assoc a h.0 k.0))

  pub begins_length : (a b : List A) → Begins a b → length a ≤ length b
  begins_length a b h = let n = ap length h.1 in let k = length-append a h.0 in omega arith

  -- a first part as long as the whole is the whole
  pub begins_whole : (a b : List A) → Begins a b → length b ≤ length a → a ≡ b
  begins_whole a b h l = go h.0 h.1
    where
      go : (t : List A) → b ≡ a ++ t → a ≡ b
      go [] e = sym (append-nil a) ∙ sym e
      go (x ∷ xs) e = let n = ap length e in let k = length-append a (x ∷ xs) in absurd (omega arith)

  pub longest-cases : (x : List A) (xs : List (List A)) (P : List A → Type 0) → (length x ≤ length (longest xs) → P (longest xs)) → (length (longest xs) < length x → P x) → P (longest (x ∷ xs))
  unfolding longest
  longest-cases x xs P short long = le-cases (length x) (length (longest xs)) (λ t. P (cond t (longest xs) x)) short long

  pub longest_begins : (L : List A) (xs : List (List A)) → Each (λ s. Begins s L) xs → Begins (longest xs) L
  unfolding longest
  longest_begins L [] h = (L, refl)
  longest_begins L (x ∷ xs) h = longest-cases x xs (λ s. Begins s L) (λ _. longest_begins L xs h.1) (λ _. h.0)

  pub longest_le : (xs : List (List A)) (i : ℕ) (x : List A) → get_elem? xs i ≡ some x → length x ≤ length (longest xs)
  longest_le [] i x e = absurd (some-ne-none x (sym e))
  longest_le (y ∷ ys) zero x e = let s = ap length (some-injective y x e) in longest-cases y ys (λ l. length x ≤ length l) (λ le. omega arith) (λ lt. omega arith)
  longest_le (y ∷ ys) (suc i) x e = let r = longest_le ys i x e in longest-cases y ys (λ l. length x ≤ length l) (λ le. omega arith) (λ lt. omega arith)

  pub longest_append : (xs ys : List (List A)) → (length (longest xs) ≤ length (longest ys) → longest (xs ++ ys) ≡ longest ys) × (length (longest ys) < length (longest xs) → longest (xs ++ ys) ≡ longest xs)
  unfolding longest
  longest_append [] ys = ((λ _. refl), (λ l. absurd (omega arith)))
  longest_append (x ∷ xs) ys = let r = longest_append xs ys in longest-cases x xs (λ l. (length l ≤ length (longest ys) → longest (x ∷ (xs ++ ys)) ≡ longest ys) × (length (longest ys) < length l → longest (x ∷ (xs ++ ys)) ≡ l))
      (λ short. (
        (λ le. let e = r.0 le in let n = ap length e in longest-cases x (xs ++ ys) (λ l. l ≡ longest ys) (λ _. e) (λ far. absurd (omega arith))),
        (λ lt. let e = r.1 lt in let n = ap length e in longest-cases x (xs ++ ys) (λ l. l ≡ longest xs) (λ _. e) (λ far. absurd (omega arith))),
      ))
      (λ long. (
        (λ le. let e = r.0 (omega arith) in let n = ap length e in longest-cases x (xs ++ ys) (λ l. l ≡ longest ys) (λ _. e) (λ far. absurd (omega arith))),
        (λ lt. longest-cases x (xs ++ ys) (λ l. l ≡ x) (λ near. absurd (far x xs ys r near lt long)) (λ _. refl)),
      ))
    where
      far : (x : List A) (xs ys : List (List A)) → (length (longest xs) ≤ length (longest ys) → longest (xs ++ ys) ≡ longest ys) × (length (longest ys) < length (longest xs) → longest (xs ++ ys) ≡ longest xs)
          → length x ≤ length (longest (xs ++ ys)) → length (longest ys) < length x → length (longest xs) < length x → ⊥
      far x xs ys r near a b = dite (dec_le (length (longest xs)) (length (longest ys))) (λ le. let n = ap length (r.0 le) in omega arith) (λ no. let n = ap length (r.1 (omega arith)) in omega arith)

module _ {A : Type 0} where
  pub rows_length : (i n : ℕ) (f : ℕ → A) → length (rows i n f) ≡ n
  unfolding rows
  rows_length i zero f = refl
  rows_length i (suc n) f = ap suc (rows_length (suc i) n f)

  pub rows_at : (i n k : ℕ) (f : ℕ → A) (d : A) → k < n → get_or (rows i n f) k d ≡ f (i + k)
  unfolding rows
  rows_at i zero k f d h = absurd (omega arith)
  rows_at i (suc n) zero f d h = ap f (omega arith)
  rows_at i (suc n) (suc k) f d h = rows_at (suc i) n k f d (omega arith) ∙ ap f (omega arith)

  -- lists with the same elements are one
  pub same_elements : (xs ys : List A) (d : A) → length xs ≡ length ys → ((k : ℕ) → k < length xs → get_or xs k d ≡ get_or ys k d) → xs ≡ ys
  same_elements [] [] d l h = refl
  same_elements [] (y ∷ ys) d l h = absurd (omega arith)
  same_elements (x ∷ xs) [] d l h = absurd (omega arith)
  same_elements (x ∷ xs) (y ∷ ys) d l h = let t = same_elements xs ys d (omega arith) (λ k lt. h (suc k) (omega arith)) in λ i. h zero (omega arith) i ∷ t i
