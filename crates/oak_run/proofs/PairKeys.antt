-- Each key stands once in pairs that rise, and they are as many as the different keys of a list that names just them.
use Rattle.std.proofs.Common.{◌≡◌, ℕ, suc, ◌+◌, ◌||◌, Bool, true, false, cond, List, [], ◌∷◌, length, Some, refl, sym, ap, subst, ◌∙◌, arith, inl, inr}
use Rattle.std.specs.List.{AllByRecursion, list_any}
use Rattle.std.proofs.lemmas.Bool.{cases_Bool, both_ways}
use Rattle.std.proofs.lemmas.Map.Keys.{sorted_head, sorted_tail}
use Rattle.std.specs.Ordering.{is_eq}
use Rattle.std.specs.declared.cmp.Ordering.TheVariants.{Less}
use Rattle.oak_model.specs.declared.replies.Pair.{Pair}
use Rattle.oak_model.specs.Counts.{one_if}
use Rattle.oak_model.specs.Key.{key_cmp, same_key}
use Rattle.oak_model.specs.Scan.{IsRising, pair_keys, value_in}
use Rattle.oak_model.proofs.KeyLaws.{same_is, same_itself}
use Rattle.oak_run.specs.WorkloadFits.{different}
use Rattle.oak_run.proofs.PairTexts.{rising-one_way}

-- ---- sums over pairs

abbrev pub over : (Pair → ℕ) → List Pair → ℕ
over f [] = 0
over f (p ∷ ps) = f p + over f ps

pub over-sum : (f g h : Pair → ℕ) (ps : List Pair) → ((p : Pair) → h p ≡ f p + g p) → over h ps ≡ over f ps + over g ps
over-sum f g h [] each = refl
over-sum f g h (p ∷ ps) each = omega (arith, each p, over-sum f g h ps each)

pub over-same : (f g : Pair → ℕ) (ps : List Pair) → ((p : Pair) → f p ≡ g p) → over f ps ≡ over g ps
over-same f g [] each = refl
over-same f g (p ∷ ps) each = omega (arith, each p, over-same f g ps each)

pub over-all : (f g : Pair → ℕ) (ps : List Pair) → AllByRecursion (λ p. f p ≡ g p) ps → over f ps ≡ over g ps
over-all f g [] each = refl
over-all f g (p ∷ ps) each = omega (arith, each.0, over-all f g ps each.1)

pub over-none : (ps : List Pair) → over (λ p. 0) ps ≡ 0
over-none [] = refl
over-none (p ∷ ps) = omega (arith, over-none ps)

pub over-ones : (ps : List Pair) → over (λ p. 1) ps ≡ length ps
over-ones [] = refl
over-ones (p ∷ ps) = omega (arith, over-ones ps)

-- ---- a key among them

-- how often the key stands in the pairs
abbrev pub times_in : List ℕ → List Pair → ℕ
times_in k ps = over (λ p. cond (same_key k p.key) 1 0) ps

first-apart : (k l : List ℕ) → key_cmp k l ≡ Less → same_key k l ≡ false
first-apart k l less = ap is_eq less

later-apart : (k l : List ℕ) → key_cmp k l ≡ Less → same_key l k ≡ false
later-apart k l less =
    elim (cases_Bool (same_key l k)) [
      | inl same ↦ let itself : key_cmp k k ≡ Less = subst (λ (x : List ℕ). key_cmp k x ≡ Less) (same_is l k same) less in absurd (rising-one_way k k itself itself)
      | inr other ↦ other
    ]

none-in : (k : List ℕ) (ps : List Pair) → AllByRecursion (λ y. key_cmp k y ≡ Less) (pair_keys ps) → times_in k ps ≡ 0
none-in k [] all = refl
none-in k (p ∷ ps) all = let here = ap one_if (first-apart k p.key all.0) in omega (arith, here, none-in k ps all.1)

pub once-in : (k b : List ℕ) (ps : List Pair) → IsRising ps → value_in ps k ≡ Some b → times_in k ps ≡ 1
once-in k b [] rising e = absurd cc
once-in k b (p ∷ ps) rising e =
    elim (cases_Bool (same_key k p.key)) [
      | inl same ↦
          let here = ap one_if same in
          let later = none-in p.key ps (sorted_head key_cmp p.key (pair_keys ps) rising) in
          let moved : times_in k ps ≡ times_in p.key ps = ap (λ (x : List ℕ). times_in x ps) (same_is k p.key same) in
          omega (arith, here, later, moved)
      | inr other ↦
          let here = ap one_if other in
          let rest : value_in ps k ≡ Some b = sym (ap (λ (c : Bool). cond c (Some p.value) (value_in ps k)) other) ∙ e in
          omega (arith, here, once-in k b ps (sorted_tail key_cmp p.key (pair_keys ps) rising) rest)
    ]

later-values : (p : Pair) (all qs : List Pair) → AllByRecursion (λ y. key_cmp p.key y ≡ Less) (pair_keys qs) → AllByRecursion (λ (q : Pair). value_in all q.key ≡ Some q.value) qs → AllByRecursion (λ (q : Pair). value_in (p ∷ all) q.key ≡ Some q.value) qs
later-values p all [] less values = tt
later-values p all (q ∷ qs) less values =
    (ap (λ (c : Bool). cond c (Some p.value) (value_in all q.key)) (later-apart p.key q.key less.0) ∙ values.0, later-values p all qs less.1 values.1)

-- each pair tells the value of its key
pub own-values : (ps : List Pair) → IsRising ps → AllByRecursion (λ (q : Pair). value_in ps q.key ≡ Some q.value) ps
own-values [] rising = tt
own-values (p ∷ ps) rising = (
  ap (λ (c : Bool). cond c (Some p.value) (value_in ps p.key)) (same_itself p.key),
  later-values p ps ps (sorted_head key_cmp p.key (pair_keys ps) rising) (own-values ps (sorted_tail key_cmp p.key (pair_keys ps) rising)),
)

-- ---- different keys

either-one : (a b : Bool) → (a ≡ true → b ≡ true → ⊥) → cond (a || b) 1 0 ≡ cond a 1 0 + cond b 1 0
either-one true true apart = absurd (apart refl refl)
either-one true false apart = refl
either-one false true apart = refl
either-one false false apart = refl

pub swapped : (a b : List ℕ) → same_key a b ≡ true → same_key b a ≡ true
swapped a b same = subst (λ (x : List ℕ). same_key b x ≡ true) (sym (same_is a b same)) (same_itself b)

swap-same : (a b : List ℕ) → same_key a b ≡ same_key b a
swap-same a b =
    elim (cases_Bool (same_key a b)) [
      | inl same ↦ same ∙ sym (swapped a b same)
      | inr other ↦ elim (cases_Bool (same_key b a)) [
        | inl same ↦ absurd (both_ways (same_key a b) other (swapped b a same))
        | inr apart ↦ other ∙ sym apart
      ]
    ]

-- whether the pair's key stands in the list
abbrev pub is_among : List (List ℕ) → Pair → Bool
is_among ks p = list_any (same_key p.key) ks

count-different : (ks : List (List ℕ)) (ps : List Pair) → AllByRecursion (λ k. times_in k ps ≡ 1) ks → different ks ≡ over (λ p. cond (is_among ks p) 1 0) ps
count-different [] ps each = sym (over-none ps)
count-different (k ∷ ks) ps each =
    elim (cases_Bool (list_any (same_key k) ks)) [
      | inl there ↦
          ap (λ (b : Bool). cond b (different ks) (suc (different ks))) there
          ∙ (count-different ks ps each.1
          ∙ over-same (λ p. cond (is_among ks p) 1 0) (λ p. cond (is_among (k ∷ ks) p) 1 0) ps (λ p. ap one_if (again p there)))
      | inr gone ↦
          let sum = over-sum (λ p. cond (same_key k p.key) 1 0) (λ p. cond (is_among ks p) 1 0) (λ p. cond (is_among (k ∷ ks) p) 1 0) ps
          (λ p. ap (λ (b : Bool). one_if (b || is_among ks p)) (swap-same p.key k) ∙ either-one (same_key k p.key) (is_among ks p) (apart p gone)) in
          let here = ap (λ (b : Bool). cond b (different ks) (suc (different ks))) gone in
          omega (arith, sum, here, each.0, count-different ks ps each.1)
    ]
  where
    again : (p : Pair) → list_any (same_key k) ks ≡ true → is_among ks p ≡ is_among (k ∷ ks) p
    again p there =
        elim (cases_Bool (same_key p.key k)) [
          | inl same ↦ subst (λ (x : List ℕ). list_any (same_key x) ks ≡ true) (sym (same_is p.key k same)) there ∙ sym (ap (λ (b : Bool). b || is_among ks p) same)
          | inr other ↦ sym (ap (λ (b : Bool). b || is_among ks p) other)
        ]

    apart : (p : Pair) → list_any (same_key k) ks ≡ false → same_key k p.key ≡ true → is_among ks p ≡ true → ⊥
    apart p gone same there = both_ways (list_any (same_key k) ks) gone (subst (λ (x : List ℕ). list_any (same_key x) ks ≡ true) (sym (same_is k p.key same)) there)

pub as-many : (ks : List (List ℕ)) (ps : List Pair) → AllByRecursion (λ k. times_in k ps ≡ 1) ks → AllByRecursion (λ (p : Pair). is_among ks p ≡ true) ps → length ps ≡ different ks
as-many ks ps each all =
    let ones = over-all (λ p. cond (is_among ks p) 1 0) (λ p. 1) ps (all-ones ps all) in
    omega (arith, ones, over-ones ps, count-different ks ps each)
  where
    all-ones : (qs : List Pair) → AllByRecursion (λ (p : Pair). is_among ks p ≡ true) qs → AllByRecursion (λ (p : Pair). one_if (is_among ks p) ≡ 1) qs
    all-ones [] h = tt
    all-ones (q ∷ qs) h = (ap one_if h.0, all-ones qs h.1)
