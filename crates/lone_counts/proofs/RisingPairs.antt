-- Pairs in the order of their keys: what they say of a key is the value of its one pair.
use Rattle.std.proofs.Common.{◌≡◌, ℕ, zero, suc, ◌≤◌, cond, Bool, true, false, List, [], ◌∷◌, Some, sym, refl, ap, ◌∙◌, subst, arith, inl, inr}
use Rattle.std.specs.List.{AllByRecursion}
use Rattle.std.specs.List.Sorted.{IsStrictlySortedBy}
use Rattle.std.specs.declared.cmp.Ordering.TheVariants.{Less}
use Rattle.std.specs.Ordering.{is_eq}
use Rattle.std.proofs.lemmas.Bool.{cases_Bool}
use mathlib.Core.Option.{some, some-injective, some-ne-none}
use lib.ListN.{get_elem?}
use Rattle.oak_model.specs.declared.replies.Pair.{Pair}
use Rattle.oak_model.specs.Counts.{one_if, total}
use Rattle.oak_model.specs.Key.{key_cmp, same_key}
use Rattle.oak_model.specs.Scan.{value_in, pair_keys, IsRising}
use Rattle.oak_model.specs.State.{State}
use Rattle.oak_model.proofs.Counting.{total_at, total_zero}
use Rattle.oak_model.proofs.KeyLaws.{same_itself, same_is}
use Rattle.lone_counts.specs.Maps.{IsMapOf}
use Rattle.lone_counts.proofs.MapSums.{other_key}

all_at : {A : Type 0} (P : A → Type 0) (xs : List A) (i : ℕ) (x : A) → AllByRecursion P xs → get_elem? xs i ≡ some x → P x
all_at P [] i x h e = absurd (some-ne-none x (sym e))
all_at P (y ∷ ys) zero x h e = subst P (some-injective y x e) h.0
all_at P (y ∷ ys) (suc i) x h e = all_at P ys i x h.1 e

key_at : (m : List Pair) (i : ℕ) (p : Pair) → get_elem? m i ≡ some p → get_elem? (pair_keys m) i ≡ some p.key
key_at [] i p e = absurd (some-ne-none p (sym e))
key_at (q ∷ m) zero p e = ap (λ (x : Pair). some x.key) (some-injective q p e)
key_at (q ∷ m) (suc i) p e = key_at m i p e

-- the first key is before each later one
first_before : (p : Pair) (m : List Pair) (i : ℕ) (q : Pair) → IsRising (p ∷ m) → get_elem? m i ≡ some q → key_cmp p.key q.key ≡ Less
unfolding IsStrictlySortedBy
first_before p m i q h e = all_at (λ y. key_cmp p.key y ≡ Less) (pair_keys m) i q.key h.0 (key_at m i q e)

rest_rising : (p : Pair) (m : List Pair) → IsRising (p ∷ m) → IsRising m
unfolding IsStrictlySortedBy
rest_rising p m h = h.1

-- no key is before itself
not_before_itself : (a b : List ℕ) → a ≡ b → key_cmp a b ≡ Less → ⊥
not_before_itself a b e less = let t : same_key a b ≡ true = subst (λ (x : List ℕ). same_key a x ≡ true) e (same_itself a) in let f : same_key a b ≡ false = ap is_eq less in absurd cc

value_first : (q : Pair) (m : List Pair) → value_in (q ∷ m) q.key ≡ Some q.value
value_first q m = ap (λ (b : Bool). cond b (Some q.value) (value_in m q.key)) (same_itself q.key)

value_later : (q : Pair) (m : List Pair) (k : List ℕ) → same_key k q.key ≡ false → value_in (q ∷ m) k ≡ value_in m k
value_later q m k other = ap (λ (b : Bool). cond b (Some q.value) (value_in m k)) other

value_here : (q : Pair) (m : List Pair) (k : List ℕ) → same_key k q.key ≡ true → value_in (q ∷ m) k ≡ Some q.value
value_here q m k same = ap (λ (b : Bool). cond b (Some q.value) (value_in m k)) same

value_at : (m : List Pair) (i : ℕ) (p : Pair) → IsRising m → get_elem? m i ≡ some p → value_in m p.key ≡ Some p.value
value_at [] i p h e = absurd (some-ne-none p (sym e))
value_at (q ∷ m) zero p h e = subst (λ (x : Pair). value_in (q ∷ m) x.key ≡ Some x.value) (some-injective q p e) (value_first q m)
value_at (q ∷ m) (suc i) p h e =
    elim (cases_Bool (same_key p.key q.key)) [
      | inl same ↦ absurd (not_before_itself q.key p.key (sym (same_is p.key q.key same)) (first_before q m i p h e))
      | inr other ↦ value_later q m p.key other ∙ value_at m i p (rest_rising q m h) e
    ]

record PairOf (m : List Pair) (k b : List ℕ) : Type 0 where
  pub place : ℕ
  pub pair : Pair
  pub there : get_elem? m place ≡ some pair
  pub key : pair.key ≡ k
  pub value : pair.value ≡ b

pair_found : (m : List Pair) (k b : List ℕ) → value_in m k ≡ Some b → PairOf m k b
pair_found [] k b e = absurd cc
pair_found (q ∷ m) k b e =
    elim (cases_Bool (same_key k q.key)) [
      | inl same ↦ let v : Some q.value ≡ Some b = sym (value_here q m k same) ∙ e in record { place = zero; pair = q; there = refl; key = sym (same_is k q.key same); value = cc }
      | inr other ↦ let r = pair_found m k b (sym (value_later q m k other) ∙ e) in record { place = suc r.place; pair = r.pair; there = r.there; key = r.key; value = r.value }
    ]

-- at most one of them has the key
most_one : (q : List ℕ) (ps : List Pair) → IsRising ps → total (λ (p : Pair). one_if (same_key q p.key)) ps ≤ 1
unfolding total
most_one q [] h = omega arith
most_one q (p ∷ ps) h =
    let t = most_one q ps (rest_rising p ps h) in
    elim (cases_Bool (same_key q p.key)) [
      | inl same ↦ let o : one_if (same_key q p.key) ≡ 1 = ap one_if same in
          let z = total_zero (λ (r : Pair). one_if (same_key q r.key)) ps (λ i r at. ap one_if (other_key q r.key (λ e. not_before_itself p.key r.key (sym (same_is q p.key same) ∙ e) (first_before p ps i r h at)))) in omega arith
      | inr other ↦ let o : one_if (same_key q p.key) ≡ 0 = ap one_if other in omega arith
    ]

-- pairs that rise and say what each key holds are a map
pub rising_map : (state : List ℕ → State) (ps : List Pair) → ((q : List ℕ) → value_in ps q ≡ state q) → IsRising ps → IsMapOf state ps
rising_map state ps says rises = record {
  each = λ i p at. sym (says p.key) ∙ value_at ps i p rises at;
  once = λ q b e. let p = pair_found ps q b (says q ∙ e) in
      let m = most_one q ps rises in
      let t = total_at (λ (r : Pair). one_if (same_key q r.key)) ps p.place p.pair p.there in
      let o : one_if (same_key q p.pair.key) ≡ 1 = ap one_if (subst (λ (k : List ℕ). same_key q k ≡ true) (sym p.key) (same_itself q)) in omega arith;
}
