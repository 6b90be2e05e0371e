-- Maps that say the same of each key, or of each key but one, and what is added up over them.
use Rattle.std.proofs.Common.{◌≡◌, ℕ, zero, suc, ◌+◌, ◌*◌, Bool, true, false, List, ◌∷◌, Some, None, sym, refl, ap, ◌∙◌, subst, arith, inl, inr}
use Rattle.std.proofs.lemmas.Bool.{cases_Bool}
use mathlib.Core.Option.{some, some-injective}
use lib.ListN.{get_elem?}
use Rattle.oak_model.specs.declared.replies.Pair.{Pair}
use Rattle.oak_model.specs.Counts.{one_if, total}
use Rattle.oak_model.specs.Key.{same_key}
use Rattle.oak_model.specs.State.{State}
use Rattle.oak_model.proofs.Counting.{total_some, total_zero, one_if_le}
use Rattle.oak_model.proofs.KeyLaws.{same_itself, same_is}
use Rattle.lone_counts.specs.Maps.{IsMapOf}
use Rattle.lone_counts.proofs.Sums.{total_same, total_only, total_plus, total_times, matched}

-- keys

pub other_key : (a b : List ℕ) → (a ≡ b → ⊥) → same_key a b ≡ false
other_key a b ne = elim (cases_Bool (same_key a b)) [ inl same ↦ absurd (ne (same_is a b same)) | inr other ↦ other ]

pub apart : (a b : List ℕ) → same_key a b ≡ false → a ≡ b → ⊥
apart a b other e = let t : same_key a b ≡ true = subst (λ (x : List ℕ). same_key a x ≡ true) e (same_itself a) in let c : true ≡ false = sym t ∙ other in cc

same_turned : (a b : List ℕ) → one_if (same_key a b) ≡ one_if (same_key b a)
same_turned a b = elim (cases_Bool (same_key a b)) [
  | inl same ↦ let e = same_is a b same in ap one_if (same ∙ sym (subst (λ (x : List ℕ). same_key x a ≡ true) e (same_itself a)))
  | inr other ↦ ap one_if (other ∙ sym (other_key b a (λ e. apart a b other (sym e))))
]

-- lists with the same keys, and numbers that agree on pairs of one key
pub totals_agree : (s t : List ℕ → State) (ps qs : List Pair) (f g : Pair → ℕ) → IsMapOf s ps → IsMapOf t qs
    → ((k b : List ℕ) → s k ≡ Some b → (c : List ℕ) × (t k ≡ Some c)) → ((k c : List ℕ) → t k ≡ Some c → (b : List ℕ) × (s k ≡ Some b))
    → ((p q : Pair) → p.key ≡ q.key → s p.key ≡ Some p.value → t q.key ≡ Some q.value → f p ≡ g q) → total f ps ≡ total g qs
totals_agree s t ps qs f g rp rq there back agree = matched f g (λ p q. one_if (same_key p.key q.key)) ps qs
    (λ i p at. let h = there p.key p.value (rp.each i p at) in rq.once p.key h.0 h.1)
    (λ j q at. let h = back q.key q.value (rq.each j q at) in
    let one : total (λ (p : Pair). one_if (same_key p.key q.key)) ps ≡ 1 = total_same (λ (p : Pair). one_if (same_key p.key q.key)) (λ (p : Pair). one_if (same_key q.key p.key)) ps (λ i p _. same_turned p.key q.key) ∙ rp.once q.key h.0 h.1 in
    let x = total_some (λ (p : Pair). one_if (same_key p.key q.key)) ps (omega arith) in
    let le = one_if_le (same_key x.1.key q.key) in
    let p = x.1 in
    let counts : one_if (same_key p.key q.key) ≡ 1 = omega arith in
    let same : p.key ≡ q.key = same_is p.key q.key (is_true (same_key p.key q.key) counts) in
    total_only (λ (p : Pair). one_if (same_key p.key q.key)) f ps x.0 p x.2 counts (omega arith) ∙ agree p q same (rp.each x.0 p x.2) (rq.each j q at))
  where
    is_true : (b : Bool) → one_if b ≡ 1 → b ≡ true
    is_true true e = refl
    is_true false e = absurd (omega arith)

-- a new key

module _ (s t : List ℕ → State) (m : List Pair) (k v : List ℕ) (is : IsMapOf s m) (absent : s k ≡ None) (now : t k ≡ Some v) (others : (q : List ℕ) → same_key q k ≡ false → t q ≡ s q) where
  abbrev pair : Pair
  pair = record { key = k; value = v; at = 0 }

  not_k : (q b : List ℕ) → s q ≡ Some b → q ≡ k → ⊥
  not_k q b e same = let c : None ≡ Some b = sym absent ∙ (ap s (sym same) ∙ e) in cc

  each_new : (i : ℕ) (p : Pair) → get_elem? (pair ∷ m) i ≡ some p → t p.key ≡ Some p.value
  each_new zero p e = subst (λ (x : Pair). t x.key ≡ Some x.value) (some-injective pair p e) now
  each_new (suc i) p e = others p.key (other_key p.key k (not_k p.key p.value (is.each i p e))) ∙ is.each i p e

  once_new : (q b : List ℕ) → t q ≡ Some b → one_if (same_key q k) + total (λ (p : Pair). one_if (same_key q p.key)) m ≡ 1
  once_new q b e = elim (cases_Bool (same_key q k)) [
    | inl same ↦ let o : one_if (same_key q k) ≡ 1 = ap one_if same in
        let z = total_zero (λ (p : Pair). one_if (same_key q p.key)) m (λ i p at. ap one_if (other_key q p.key (λ n. not_k p.key p.value (is.each i p at) (sym n ∙ same_is q k same)))) in omega arith
    | inr other ↦ let o : one_if (same_key q k) ≡ 0 = ap one_if other in let n = is.once q b (sym (others q other) ∙ e) in omega arith
  ]

  pub key_added : IsMapOf t (record { key = k; value = v; at = 0 } ∷ m)
  unfolding total
  key_added = record { each = each_new; once = once_new }

-- what a key holds after it held something before

pub was_there : (s t : List ℕ → State) (k old : List ℕ) → s k ≡ Some old → ((q : List ℕ) → same_key q k ≡ false → t q ≡ s q) → (q c : List ℕ) → t q ≡ Some c → (b : List ℕ) × (s q ≡ Some b)
was_there s t k old present others q c e = elim (cases_Bool (same_key q k)) [
  | inl same ↦ (old, ap s (same_is q k same) ∙ present)
  | inr other ↦ (c, sym (others q other) ∙ e)
]

-- another value for a key

module _ (s t : List ℕ → State) (k old v : List ℕ) (ps qs : List Pair) (is : IsMapOf s ps) (after : IsMapOf t qs) (present : s k ≡ Some old) (now : t k ≡ Some v) (others : (q : List ℕ) → same_key q k ≡ false → t q ≡ s q) (f : List ℕ → List ℕ → ℕ) where
  abbrev told : Pair → ℕ
  told p = f p.key p.value

  left : Pair → ℕ
  left p = told p + one_if (same_key k p.key) * f k v

  right : Pair → ℕ
  right q = told q + one_if (same_key k q.key) * f k old

  still_there : (q b : List ℕ) → s q ≡ Some b → (c : List ℕ) × (t q ≡ Some c)
  still_there q b e = elim (cases_Bool (same_key q k)) [
    | inl same ↦ (v, ap t (same_is q k same) ∙ now)
    | inr other ↦ (b, others q other ∙ e)
  ]

  sides : (p q : Pair) → p.key ≡ q.key → s p.key ≡ Some p.value → t q.key ≡ Some q.value → left p ≡ right q
  unfolding left right
  sides p q same a b = elim (cases_Bool (same_key k p.key)) [
    | inl here ↦
        let pk : k ≡ p.key = same_is k p.key here in
        let qk : k ≡ q.key = pk ∙ same in
        let pv0 : Some p.value ≡ Some old = sym a ∙ (ap s (sym pk) ∙ present) in let pv : p.value ≡ old = cc in
        let qv0 : Some q.value ≡ Some v = sym b ∙ (ap t (sym qk) ∙ now) in let qv : q.value ≡ v = cc in
        let m : one_if (same_key k p.key) ≡ 1 = ap one_if here in
        let n : one_if (same_key k q.key) ≡ 1 = ap one_if (subst (λ (x : List ℕ). same_key k x ≡ true) qk (same_itself k)) in
        let u : f p.key p.value ≡ f k old = ap (λ (x : List ℕ). f x p.value) (sym pk) ∙ ap (f k) pv in
        let w : f q.key q.value ≡ f k v = ap (λ (x : List ℕ). f x q.value) (sym qk) ∙ ap (f k) qv in
        let c : one_if (same_key k p.key) * f k v ≡ f k v = ap (λ (n : ℕ). n * f k v) m ∙ (let z : 1 * f k v ≡ f k v = omega arith in z) in
        let d : one_if (same_key k q.key) * f k old ≡ f k old = ap (λ (n : ℕ). n * f k old) n ∙ (let z : 1 * f k old ≡ f k old = omega arith in z) in
        let x1 : ℕ = one_if (same_key k p.key) * f k v in let x2 : ℕ = one_if (same_key k q.key) * f k old in
        let c' : x1 ≡ f k v = c in let d' : x2 ≡ f k old = d in let r : f p.key p.value + x1 ≡ f q.key q.value + x2 = omega arith in r
    | inr other ↦
        let away : q.key ≡ k → ⊥ = λ e. apart k p.key other (sym (same ∙ e)) in
        let v0 : Some p.value ≡ Some q.value = sym a ∙ (ap s same ∙ (sym (others q.key (other_key q.key k away)) ∙ b)) in let w : p.value ≡ q.value = cc in
        let m : one_if (same_key k p.key) ≡ 0 = ap one_if other in
        let n : one_if (same_key k q.key) ≡ 0 = ap one_if (other_key k q.key (λ e. away (sym e))) in
        let u : f p.key p.value ≡ f q.key q.value = ap (λ (x : List ℕ). f x p.value) same ∙ ap (f q.key) w in
        let c : one_if (same_key k p.key) * f k v ≡ 0 = ap (λ (n : ℕ). n * f k v) m ∙ (let z : 0 * f k v ≡ 0 = omega arith in z) in
        let d : one_if (same_key k q.key) * f k old ≡ 0 = ap (λ (n : ℕ). n * f k old) n ∙ (let z : 0 * f k old ≡ 0 = omega arith in z) in
        let x1 : ℕ = one_if (same_key k p.key) * f k v in let x2 : ℕ = one_if (same_key k q.key) * f k old in
        let c' : x1 ≡ 0 = c in let d' : x2 ≡ 0 = d in let r : f p.key p.value + x1 ≡ f q.key q.value + x2 = omega arith in r
  ]

  -- what is added up over it changes by what the key held and holds
  pub overwritten : total told qs + f k old ≡ total told ps + f k v
  unfolding left right
  overwritten =
      let whole = totals_agree s t ps qs left right is after still_there (was_there s t k old present others) sides in
      let a = total_plus told (λ (p : Pair). one_if (same_key k p.key) * f k v) ps in
      let b = total_plus told (λ (q : Pair). one_if (same_key k q.key) * f k old) qs in
      let c = total_times (λ (p : Pair). one_if (same_key k p.key)) (f k v) ps ∙ (ap (λ (x : ℕ). x * f k v) (is.once k old present) ∙ (let z : 1 * f k v ≡ f k v = omega arith in z)) in
      let d = total_times (λ (q : Pair). one_if (same_key k q.key)) (f k old) qs ∙ (ap (λ (x : ℕ). x * f k old) (after.once k v now) ∙ (let z : 1 * f k old ≡ f k old = omega arith in z)) in
      let x1 : ℕ = total (λ (p : Pair). one_if (same_key k p.key) * f k v) ps in let x2 : ℕ = total (λ (q : Pair). one_if (same_key k q.key) * f k old) qs in
      let y1 : ℕ = total left ps in let y2 : ℕ = total right qs in let p1 : ℕ = total told ps in let q1 : ℕ = total told qs in
      let t' : y1 ≡ y2 = whole in let a' : y1 ≡ p1 + x1 = a in let b' : y2 ≡ q1 + x2 = b in let c' : x1 ≡ f k v = c in let d' : x2 ≡ f k old = d in
      let g : q1 + f k old ≡ p1 + f k v = omega arith in g
