-- Pairs in order that say the same of each key are the same keys and values: their lines, their number and their blocks are the same.
use Rattle.std.proofs.Common.{◌≡◌, ℕ, ◌+◌, Bool, true, false, cond, List, [], ◌∷◌, ◌++◌, length, Some, None, refl, sym, ap, subst, ◌∙◌, arith, inl, inr}
use Rattle.std.specs.Prelude.{codes, count_by, ⊤}
use Rattle.std.specs.Fmt.{decimal}
use Rattle.std.specs.List.{AllByRecursion, flat_map}
use Rattle.std.specs.List.Sorted.{IsStrictlySortedBy}
use Rattle.std.specs.Cmp.Lexicographic.{nat_list_cmp_total}
use Rattle.std.specs.Ordering.{flip_args, ordering_reverse}
use Rattle.std.specs.declared.cmp.Ordering.{Ordering}
use Rattle.std.specs.declared.cmp.Ordering.TheVariants.{Less, Greater}
use Rattle.std.proofs.lemmas.Bool.{cases_Bool}
use Rattle.std.proofs.lemmas.List.Sums.{sum_by-cons}
use Rattle.std.proofs.lemmas.Map.Keys.{sorted_head, sorted_tail}
use Rattle.oak_model.specs.declared.classes.Class.{Class}
use Rattle.oak_model.specs.declared.replies.Pair.{Pair}
use Rattle.oak_model.specs.Class.{blocks_of, has_class}
use Rattle.oak_model.specs.History.{Histories, place_of}
use Rattle.oak_model.specs.Key.{key_cmp, same_key}
use Rattle.oak_model.specs.Scan.{pair_keys, value_in}
use Rattle.oak_model.specs.State.{State}
use Rattle.oak_model.proofs.KeyLaws.{same_is, same_itself}
use Rattle.oak_script.specs.Text.{line_end, map_text, pair_line, pairs_text, read_line}

abbrev pub AreOne : List Pair → List Pair → Type 0
AreOne [] [] = ⊤
AreOne [] (q ∷ qs) = ⊥
AreOne (p ∷ ps) [] = ⊥
AreOne (p ∷ ps) (q ∷ qs) = (p.key ≡ q.key) × (p.value ≡ q.value) × AreOne ps qs

-- ---- orders in which no two keys are each before the other

abbrev pub IsOneWay : (List ℕ → List ℕ → Ordering) → Type 0
IsOneWay cmp = (a b : List ℕ) → cmp a b ≡ Less → cmp b a ≡ Less → ⊥

pub rising-one_way : IsOneWay key_cmp
rising-one_way a b low high = less-greater (key_cmp a b) low (nat_list_cmp_total.antisymm a b ∙ ap ordering_reverse high)
  where
    less-greater : (o : Ordering) → o ≡ Less → o ≡ Greater → ⊥
    less-greater o l g = cc

pub falling-one_way : IsOneWay (flip_args key_cmp)
falling-one_way a b low high = rising-one_way b a low high

-- ---- what pairs say of a key

some-none : (s : State) (b : List ℕ) → s ≡ Some b → s ≡ None → ⊥
some-none s b some none = cc

first-value : (p : Pair) (ps : List Pair) (k : List ℕ) → same_key k p.key ≡ true → value_in (p ∷ ps) k ≡ Some p.value
first-value p ps k same = ap (λ (b : Bool). cond b (Some p.value) (value_in ps k)) same

later-value : (p : Pair) (ps : List Pair) (k : List ℕ) → same_key k p.key ≡ false → value_in (p ∷ ps) k ≡ value_in ps k
later-value p ps k other = ap (λ (b : Bool). cond b (Some p.value) (value_in ps k)) other

-- of a key that all satisfy what is said is nothing, or the key does too
value-all : (P : List ℕ → Type 0) (ps : List Pair) (k b : List ℕ) → AllByRecursion P (pair_keys ps) → value_in ps k ≡ Some b → P k
value-all P [] k b all some = absurd cc
value-all P (p ∷ ps) k b all some =
    elim (cases_Bool (same_key k p.key)) [
      | inl same ↦ subst P (sym (same_is k p.key same)) all.0
      | inr other ↦ value-all P ps k b all.1 (sym (later-value p ps k other) ∙ some)
    ]

module _ (cmp : List ℕ → List ℕ → Ordering) (one_way : IsOneWay cmp) where
  -- of a key that is before all others nothing is said
  none-said : (ps : List Pair) (k : List ℕ) → AllByRecursion (λ y. cmp k y ≡ Less) (pair_keys ps) → value_in ps k ≡ None
  none-said ps k all = by (value_in ps k) refl
    where
      by : (s : State) → value_in ps k ≡ s → value_in ps k ≡ None
      by None e = e
      by (Some b) e = let less = value-all (λ y. cmp k y ≡ Less) ps k b all e in absurd (one_way k k less less)

  -- the first of two lists that say the same
  first-key : (p q : Pair) (ps qs : List Pair) → IsStrictlySortedBy cmp (pair_keys (p ∷ ps)) → IsStrictlySortedBy cmp (pair_keys (q ∷ qs)) → ((k : List ℕ) → value_in (p ∷ ps) k ≡ value_in (q ∷ qs) k) → p.key ≡ q.key
  first-key p q ps qs p_sorted q_sorted says =
      elim (cases_Bool (same_key p.key q.key)) [
        | inl same ↦ same_is p.key q.key same
        | inr other ↦ elim (cases_Bool (same_key q.key p.key)) [
          | inl same ↦ sym (same_is q.key p.key same)
          | inr apart ↦
              let p_later = value-all (λ y. cmp q.key y ≡ Less) qs p.key p.value (sorted_head cmp q.key (pair_keys qs) q_sorted) (sym (later-value q qs p.key other) ∙ (sym (says p.key) ∙ first-value p ps p.key (same_itself p.key))) in
              let q_later = value-all (λ y. cmp p.key y ≡ Less) ps q.key q.value (sorted_head cmp p.key (pair_keys ps) p_sorted) (sym (later-value p ps q.key apart) ∙ (says q.key ∙ first-value q qs q.key (same_itself q.key))) in
              absurd (one_way p.key q.key q_later p_later)
        ]
      ]

  rest-says : (p q : Pair) (ps qs : List Pair) → IsStrictlySortedBy cmp (pair_keys (p ∷ ps)) → IsStrictlySortedBy cmp (pair_keys (q ∷ qs)) → p.key ≡ q.key → ((k : List ℕ) → value_in (p ∷ ps) k ≡ value_in (q ∷ qs) k) → (k : List ℕ) → value_in ps k ≡ value_in qs k
  rest-says p q ps qs p_sorted q_sorted one says k =
      elim (cases_Bool (same_key k p.key)) [
        | inl same ↦
            let its = same_is k p.key same in
            let none = none-said ps p.key (sorted_head cmp p.key (pair_keys ps) p_sorted) in
            let none_too = none-said qs q.key (sorted_head cmp q.key (pair_keys qs) q_sorted) in
            ap (value_in ps) its ∙ (none ∙ (sym none_too ∙ ap (value_in qs) (sym (its ∙ one))))
        | inr other ↦ sym (later-value p ps k other) ∙ (says k ∙ later-value q qs k (sym (ap (same_key k) one) ∙ other))
      ]

  pub are-one : (ps qs : List Pair) → IsStrictlySortedBy cmp (pair_keys ps) → IsStrictlySortedBy cmp (pair_keys qs) → ((k : List ℕ) → value_in ps k ≡ value_in qs k) → AreOne ps qs
  are-one [] [] p_sorted q_sorted says = tt
  are-one [] (q ∷ qs) p_sorted q_sorted says = some-none (value_in (q ∷ qs) q.key) q.value (first-value q qs q.key (same_itself q.key)) (sym (says q.key))
  are-one (p ∷ ps) [] p_sorted q_sorted says = some-none (value_in (p ∷ ps) p.key) p.value (first-value p ps p.key (same_itself p.key)) (says p.key)
  are-one (p ∷ ps) (q ∷ qs) p_sorted q_sorted says =
      let one = first-key p q ps qs p_sorted q_sorted says in
      let values : Some p.value ≡ Some q.value = sym (first-value p ps p.key (same_itself p.key)) ∙ (says p.key ∙ first-value q qs p.key (sym (ap (same_key p.key) one) ∙ same_itself p.key)) in
      let value : p.value ≡ q.value = cc in
      (one, value, are-one ps qs (sorted_tail cmp p.key (pair_keys ps) p_sorted) (sorted_tail cmp q.key (pair_keys qs) q_sorted) (rest-says p q ps qs p_sorted q_sorted one says))

-- ---- what is printed of them

one-length : (ps qs : List Pair) → AreOne ps qs → length ps ≡ length qs
one-length [] [] one = refl
one-length [] (q ∷ qs) one = absurd one
one-length (p ∷ ps) [] one = absurd one
one-length (p ∷ ps) (q ∷ qs) one = let rest = one-length ps qs one.2 in omega arith

one-lines : (f : Pair → List ℕ) (ps qs : List Pair) → ((p q : Pair) → p.key ≡ q.key → p.value ≡ q.value → f p ≡ f q) → AreOne ps qs → flat_map f ps ≡ flat_map f qs
one-lines f [] [] same one = refl
one-lines f [] (q ∷ qs) same one = absurd one
one-lines f (p ∷ ps) [] same one = absurd one
one-lines f (p ∷ ps) (q ∷ qs) same one = let here = same p q one.0 one.1 in let rest = one-lines f ps qs same one.2 in (λ i. here i ++ rest i)

pub one-map : (ps qs : List Pair) → AreOne ps qs → map_text ps ≡ map_text qs
one-map ps qs one =
    let number = one-length ps qs one in
    let lines = one-lines pair_line ps qs (λ p q k v. (λ i. pair_line (record { key = k i; value = v i; at = 0 }))) one in
    (λ i. codes "map " ++ (decimal (number i) ++ (line_end ++ lines i)))

one-count : (f : Pair → Bool) (ps qs : List Pair) → ((p q : Pair) → p.key ≡ q.key → p.value ≡ q.value → f p ≡ f q) → AreOne ps qs → count_by f ps ≡ count_by f qs
one-count f [] [] same one = refl
one-count f [] (q ∷ qs) same one = absurd one
one-count f (p ∷ ps) [] same one = absurd one
one-count f (p ∷ ps) (q ∷ qs) same one =
    let here = same p q one.0 one.1 in
    let rest = one-count f ps qs same one.2 in
    sum_by-cons (λ x. cond (f x) 1 0) p ps ∙ ((λ i. cond (here i) 1 0 + rest i) ∙ sym (sum_by-cons (λ x. cond (f x) 1 0) q qs))

pub one-blocks : (ps qs : List Pair) (c : Class) → AreOne ps qs → blocks_of ps c ≡ blocks_of qs c
one-blocks ps qs c one =
    let keys = one-count (λ (p : Pair). has_class c (length p.key)) ps qs (λ p q k v. ap (λ (x : List ℕ). has_class c (length x)) k) one in
    let values = one-count (λ (p : Pair). has_class c (length p.value)) ps qs (λ p q k v. ap (λ (x : List ℕ). has_class c (length x)) v) one in
    (λ i. keys i + values i)

-- ---- and of pairs that were read, each at the place that a count gives

abbrev line_at : (List ℕ → ℕ) → Pair → List ℕ
line_at n p = read_line (λ k at. n k) p

read-lines : (h : Histories) (n : List ℕ → ℕ) (ps : List Pair) → AllByRecursion (λ (p : Pair). place_of (h p.key) p.at ≡ n p.key) ps → flat_map (read_line (λ k at. place_of (h k) at)) ps ≡ flat_map (line_at n) ps
read-lines h n [] each = refl
read-lines h n (p ∷ ps) each =
    let here = each.0 in
    let rest = read-lines h n ps each.1 in
    (λ i. read_line (λ k at. here i) p ++ rest i)

pub one-read : (h e : Histories) (n : List ℕ → ℕ) (ps qs : List Pair) → AllByRecursion (λ (p : Pair). place_of (h p.key) p.at ≡ n p.key) ps → AllByRecursion (λ (q : Pair). place_of (e q.key) q.at ≡ n q.key) qs → AreOne ps qs
    → pairs_text (λ k at. place_of (h k) at) ps ≡ pairs_text (λ k at. place_of (e k) at) qs
one-read h e n ps qs p_each q_each one =
    let number = one-length ps qs one in
    let lines = one-lines (line_at n) ps qs (λ p q k v. (λ i. line_at n (record { key = k i; value = v i; at = 0 }))) one in
    let all = read-lines h n ps p_each ∙ (lines ∙ sym (read-lines e n qs q_each)) in
    (λ i. codes "pairs " ++ (decimal (number i) ++ (line_end ++ all i)))
