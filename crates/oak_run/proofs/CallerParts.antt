-- The writes of callers with consecutive numbers, one caller's after the other's, are those of a history in another order.
use Rattle.std.proofs.Common.{◌≡◌, ℕ, zero, suc, ◌+◌, ◌<◌, ◌≤◌, List, [], ◌∷◌, ◌++◌, length, refl, sym, ap, ◌∙◌, subst, arith, inl, inr, length-append, append-nil}
use Rattle.std.specs.List.Sorted.{IsPermutation}
use Rattle.std.proofs.lemmas.List.Sorted.{IsPermutation-append_right, IsPermutation-cons, IsPermutation-middle, IsPermutation-refl, IsPermutation-trans}
use mathlib.Core.Logic.{dite}
use native.Mathlib.Decide.{dec_le, dec_lt}
use Rattle.oak_model.specs.Counts.{Begins, Each, Has}
use Rattle.oak_core.specs.declared.states.KeyedWrite.{KeyedWrite}
use Rattle.oak_core.specs.Callers.{of_caller}
use Rattle.oak_core.proofs.histories.CallerWrites.{caller-cases}

-- the writes of n callers, from caller i on
abbrev pub parts : ℕ → ℕ → List KeyedWrite → List KeyedWrite
parts i zero h = []
parts i (suc n) h = of_caller i h ++ parts (suc i) n h

parts-nil : (i n : ℕ) → parts i n [] ≡ []
unfolding of_caller
parts-nil i zero = refl
parts-nil i (suc n) = parts-nil (suc i) n

-- one more write is at the head of its caller's
parts-below : (i n : ℕ) (w : KeyedWrite) (ws : List KeyedWrite) → w.write.caller < i → parts i n (w ∷ ws) ≡ parts i n ws
parts-below i zero w ws l = refl
parts-below i (suc n) w ws l = caller-cases i w ws (λ h. h ++ parts (suc i) n (w ∷ ws) ≡ of_caller i ws ++ parts (suc i) n ws)
    (λ e. absurd (omega arith))
    (λ _. ap (λ (h : List KeyedWrite). of_caller i ws ++ h) (parts-below (suc i) n w ws (omega arith)))

parts-there : (i n : ℕ) (w : KeyedWrite) (ws : List KeyedWrite) → i ≤ w.write.caller → w.write.caller < i + n → IsPermutation (parts i n (w ∷ ws)) (w ∷ parts i n ws)
parts-there i zero w ws from to = absurd (omega arith)
parts-there i (suc n) w ws from to = caller-cases i w ws (λ h. IsPermutation (h ++ parts (suc i) n (w ∷ ws)) (w ∷ (of_caller i ws ++ parts (suc i) n ws)))
    (λ e. subst (λ (h : List KeyedWrite). IsPermutation (w ∷ (of_caller i ws ++ h)) (w ∷ (of_caller i ws ++ parts (suc i) n ws))) (sym (parts-below (suc i) n w ws (omega arith))) (IsPermutation-refl (w ∷ (of_caller i ws ++ parts (suc i) n ws))))
    (λ ne. IsPermutation-trans (of_caller i ws ++ parts (suc i) n (w ∷ ws)) (of_caller i ws ++ w ∷ parts (suc i) n ws) (w ∷ (of_caller i ws ++ parts (suc i) n ws))
    (IsPermutation-append_right (of_caller i ws) (parts (suc i) n (w ∷ ws)) (w ∷ parts (suc i) n ws) (parts-there (suc i) n w ws (omega arith) (omega arith)))
    (IsPermutation-middle (of_caller i ws) w (parts (suc i) n ws)))

-- the caller is one of n, from i on
abbrev IsOf : ℕ → ℕ → KeyedWrite → Type 0
IsOf i n w = (i ≤ w.write.caller) × (w.write.caller < i + n)

parts-all : (i n : ℕ) (h : List KeyedWrite) → Each (IsOf i n) h → IsPermutation (parts i n h) h
parts-all i n [] each = subst (λ (h : List KeyedWrite). IsPermutation h []) (sym (parts-nil i n)) (IsPermutation-refl [])
parts-all i n (w ∷ ws) each = IsPermutation-trans (parts i n (w ∷ ws)) (w ∷ parts i n ws) (w ∷ ws)
    (parts-there i n w ws each.0.0 each.0.1)
    (IsPermutation-cons w (parts i n ws) ws (parts-all i n ws each.1))

-- a write is one of its caller's
pub has_caller : (a : ℕ) (h : List KeyedWrite) (w : KeyedWrite) → Has w h → w.write.caller ≡ a → Has w (of_caller a h)
has_caller a [] w m e = absurd m
has_caller a (x ∷ xs) w (inl same) e = caller-cases a x xs (Has w) (λ _. inl same) (λ ne. absurd (ne (ap (λ (u : KeyedWrite). u.write.caller) (sym same) ∙ e)))
has_caller a (x ∷ xs) w (inr m) e = let r = has_caller a xs w m e in caller-cases a x xs (Has w) (λ _. inr r) (λ _. r)

none_has : (a : ℕ) (h : List KeyedWrite) (w : KeyedWrite) → of_caller a h ≡ [] → Has w h → w.write.caller ≡ a → ⊥
none_has a h w none m e = subst (Has w) none (has_caller a h w m e)

each_by : (P : KeyedWrite → Type 0) (h : List KeyedWrite) → ((w : KeyedWrite) → Has w h → P w) → Each P h
each_by P [] f = tt
each_by P (x ∷ xs) f = (f x (inl refl), each_by P xs (λ w m. f w (inr m)))

-- where no other caller has writes, they are all of them
pub parts-whole : (i n : ℕ) (h : List KeyedWrite) → ((a : ℕ) → a < i → of_caller a h ≡ []) → ((a : ℕ) → i + n ≤ a → of_caller a h ≡ []) → IsPermutation (parts i n h) h
parts-whole i n h low high = parts-all i n h (each_by (IsOf i n) h (λ w m. (
  dite (dec_le i w.write.caller) (λ l. l) (λ no. absurd (none_has w.write.caller h w (low w.write.caller (omega arith)) m refl)),
  dite (dec_lt w.write.caller (i + n)) (λ l. l) (λ no. absurd (none_has w.write.caller h w (high w.write.caller (omega arith)) m refl)),
)))

-- where every caller has as many writes in a first part as in the whole, the whole is the first part

of_caller-append : (a : ℕ) (g h : List KeyedWrite) → of_caller a (g ++ h) ≡ of_caller a g ++ of_caller a h
unfolding of_caller
of_caller-append a [] h = refl
of_caller-append a (x ∷ xs) h = let r = of_caller-append a xs h in caller-cases a x (xs ++ h) (λ l. l ≡ of_caller a (x ∷ xs) ++ of_caller a h)
    (λ e. caller-cases a x xs (λ l. x ∷ of_caller a (xs ++ h) ≡ l ++ of_caller a h) (λ _. ap (λ (l : List KeyedWrite). x ∷ l) r) (λ ne. absurd (ne e)))
    (λ ne. caller-cases a x xs (λ l. of_caller a (xs ++ h) ≡ l ++ of_caller a h) (λ e. absurd (ne e)) (λ _. r))

no_more : (g rest : List KeyedWrite) → ((a : ℕ) → of_caller a (g ++ rest) ≡ of_caller a g) → rest ≡ []
no_more g [] same = refl
no_more g (x ∷ xs) same =
    let a : ℕ = x.write.caller in
    let m = has_caller a (x ∷ xs) x (inl refl) refl in
    let n = ap length (sym (of_caller-append a g (x ∷ xs)) ∙ same a) in
    let k = length-append (of_caller a g) (of_caller a (x ∷ xs)) in
    absurd (some_there (of_caller a (x ∷ xs)) m (omega arith))
  where
    some_there : (l : List KeyedWrite) → Has x l → length l ≤ 0 → ⊥
    some_there [] m n = m
    some_there (y ∷ ys) m n = absurd (omega arith)

pub begins-all : (g h : List KeyedWrite) → Begins g h → ((a : ℕ) → of_caller a h ≡ of_caller a g) → g ≡ h
begins-all g h b same =
    let none = no_more g b.0 (λ a. ap (of_caller a) (sym b.1) ∙ same a) in
    sym (b.1 ∙ (ap (λ (l : List KeyedWrite). g ++ l) none ∙ append-nil g))
