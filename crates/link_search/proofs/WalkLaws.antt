-- Entries that a walk passes: they are in their order, so none is passed twice, and there are no more than stand behind the prefix, where the walk begins behind that.
use Rattle.std.proofs.Common.{◌≡◌, ℕ, zero, suc, ◌+◌, ◌-◌, ◌<◌, ◌≤◌, List, [], ◌∷◌, ◌++◌, Option, Some, None, sym, refl, ◌∙◌, subst, arith}
use Rattle.std.specs.Prelude.{length}
use mathlib.Core.Logic.{dite}
use native.Mathlib.Decide.{ℕ_discrete, dec_lt}
use Rattle.oak_model.specs.Counts.{one_at, total, Each}
use Rattle.oak_model.specs.Key.{IsKeyBefore}
use Rattle.oak_model.proofs.Counting.{one_at-same, one_at-other}
use Rattle.oak_model.proofs.Lists.{each_append}
use Rattle.oak_model.proofs.SumLaws.{total_sum}
use Rattle.chunk_core.specs.LinkedEntries.{first_numbers}
use Rattle.link_search.specs.Linked.{Linked, Grown, Later, IsCounted, IsFound, IsAboveFrom, IsCut}
use Rattle.link_search.specs.Met.{Met, met_count, met_link, met_key, tried_count, tried_link, stored_value, stored_link, stored_key, gave_up, key_loads, IsEntryLoad}
use Rattle.link_search.specs.Walks.{ArePassed, Walks}
use Rattle.link_search.proofs.OrderLaws.{before_trans, not_before}

pub loads_append : (a b : List Met) → key_loads (a ++ b) ≡ key_loads a + key_loads b
unfolding key_loads
loads_append [] b = let u : key_loads b ≡ 0 + key_loads b = omega arith in u
loads_append (met_count n ∷ a) b = loads_append a b
loads_append (met_link f n ∷ a) b = loads_append a b
loads_append (met_key i ∷ a) b = let t = loads_append a b in omega arith
loads_append (tried_count o n ∷ a) b = loads_append a b
loads_append (tried_link f i o n ∷ a) b = loads_append a b
loads_append (stored_value i ∷ a) b = loads_append a b
loads_append (stored_link i l ∷ a) b = loads_append a b
loads_append (stored_key i ∷ a) b = loads_append a b
loads_append (gave_up i ∷ a) b = loads_append a b

pub later_none : (r : Linked) → Later r r
later_none r = record { counted = refl; prefix = refl; found = λ i h. h; key = λ i h. refl }

pub later_both : (r s t : Linked) → Later r s → Later s t → Later r t
later_both r s t p q = record { counted = q.counted ∙ p.counted; prefix = q.prefix ∙ p.prefix; found = λ i h. q.found i (p.found i h); key = λ i h. q.key i (p.found i h) ∙ p.key i h }

pub later_same : (r s : Linked) → s ≡ r → Later r s
later_same r s e = subst (Later r) (sym e) (later_none r)

pub counted_later : (r s : Linked) → Later r s → IsCounted r → IsCounted s
counted_later r s l h = subst (λ (n : ℕ). 0 < n) (sym l.counted) h

pub grown_later : (r s : Linked) → Later r s → Grown r s
grown_later r s l = record { found = l.found; key = l.key }

pub grown_none : (r : Linked) → Grown r r
grown_none r = record { found = λ i h. h; key = λ i h. refl }

pub grown_both : (r s t : Linked) → Grown r s → Grown s t → Grown r t
grown_both r s t p q = record { found = λ i h. q.found i (p.found i h); key = λ i h. q.key i (p.found i h) ∙ p.key i h }

pub grown_same : (r s : Linked) → s ≡ r → Grown r s
grown_same r s e = subst (Grown r) (sym e) (grown_none r)

pub cut_grown : (r s : Linked) (from : Option ℕ) (P : List ℕ → Type 0) → Grown r s → IsCut r from P → IsCut s from P
cut_grown r s None P l h = tt
cut_grown r s (Some i) P l h = (l.found i h.0, subst P (sym (l.key i h.0)) h.1)

module _ (r s : Linked) (l : Later r s) where
  pub above_later : (from : Option ℕ) (k : List ℕ) → IsAboveFrom r from k → IsAboveFrom s from k
  above_later None k h = tt
  above_later (Some i) k h = (l.found i h.0, subst (λ (q : List ℕ). IsKeyBefore q k) (sym (l.key i h.0)) h.1)

  pub above_sooner : (from : Option ℕ) (k : List ℕ) → ((i : ℕ) → from ≡ Some i → IsFound r i) → IsAboveFrom s from k → IsAboveFrom r from k
  above_sooner None k f h = tt
  above_sooner (Some i) k f h = (f i refl, subst (λ (q : List ℕ). IsKeyBefore q k) (l.key i (f i refl)) h.1)

  module _ (from : Option ℕ) (P : List ℕ → Type 0) where
    each_later : (k q : List ℕ) (is : List ℕ) → ArePassed r from P is → q ≡ k → Each (λ j. IsKeyBefore (r.key j) k) is → Each (λ j. IsKeyBefore (s.key j) q) is
    each_later k q [] a e h = tt
    each_later k q (j ∷ js) a e h = (subst (λ (x : List ℕ). IsKeyBefore x q) (sym (l.key j a.0.0)) (subst (IsKeyBefore (r.key j)) (sym e) h.0), each_later k q js a.1.1 e h.1)

    pub passed_later : (is : List ℕ) → ArePassed r from P is → ArePassed s from P is
    passed_later [] h = tt
    passed_later (i ∷ is) h = let e = l.key i h.0.0 in
        ((l.found i h.0.0, subst (IsAboveFrom s from) (sym e) (above_later from (r.key i) h.0.1), subst P (sym e) h.0.2), (each_later (r.key i) (s.key i) is h.1.1 e h.1.0, passed_later is h.1.1))

    pub tops_later : (q : List ℕ) (is : List ℕ) → ArePassed r from P is → Each (λ j. IsKeyBefore (r.key j) q) is → Each (λ j. IsKeyBefore (s.key j) q) is
    tops_later q is a h = each_later q q is a refl h

-- none is passed twice
module _ (r : Linked) (from : Option ℕ) (P : List ℕ → Type 0) where
  pub passed_once : (is : List ℕ) → ArePassed r from P is → (i : ℕ) → total (λ j. one_at j i) is ≤ 1
  unfolding total
  passed_once [] h i = omega arith
  passed_once (x ∷ xs) h i = dite (ℕ_discrete x i) (λ e. let o = one_at-same x i e in let n = none xs (subst (λ (t : ℕ). Each (λ j. IsKeyBefore (r.key j) (r.key t)) xs) e h.1.0) in omega arith)
      (λ ne. let o = one_at-other x i ne in let t = passed_once xs h.1.1 i in omega arith)
    where
      none : (ys : List ℕ) → Each (λ j. IsKeyBefore (r.key j) (r.key i)) ys → total (λ j. one_at j i) ys ≡ 0
      none [] h = refl
      none (y ∷ ys) h = let t = none ys h.1 in let o = one_at-other y i (λ e. not_before (r.key i) (subst (λ (t : ℕ). IsKeyBefore (r.key t) (r.key i)) e h.0)) in omega arith

zeros : (xs : List ℕ) → total (λ i. 0) xs ≡ 0
unfolding total
zeros [] = refl
zeros (x ∷ xs) = let t = zeros xs in omega arith

numbers_away : (n x : ℕ) → n ≤ x → total (λ i. one_at x i) (first_numbers n) ≡ 0
unfolding total first_numbers
numbers_away zero x l = refl
numbers_away (suc n) x l = let t = numbers_away n x (omega arith) in let o = one_at-other x n (λ e. absurd (omega arith)) in omega arith

number_once : (n x : ℕ) → x < n → total (λ i. one_at x i) (first_numbers n) ≡ 1
unfolding total first_numbers
number_once zero x l = absurd (omega arith)
number_once (suc n) x l = dite (ℕ_discrete x n) (λ e. let t = numbers_away n x (omega arith) in let o = one_at-same x n e in omega arith) (λ ne. let t = number_once n x (omega arith) in let o = one_at-other x n ne in omega arith)

spread : (n : ℕ) (xs : List ℕ) → Each (λ i. i < n) xs → length xs ≡ total (λ i. total (λ j. one_at j i) xs) (first_numbers n)
unfolding total
spread n [] h = sym (zeros (first_numbers n))
spread n (x ∷ xs) h = let t = spread n xs h.1 in let o = number_once n x h.0 in let s = total_sum (λ i. one_at x i + total (λ j. one_at j i) xs) (λ i. one_at x i) (λ i. total (λ j. one_at j i) xs) (first_numbers n) (λ i. refl) in omega arith

module _ (r : Linked) (from : Option ℕ) (P : List ℕ → Type 0) where
  within_all : (n : ℕ) → ((i : ℕ) → IsFound r i → i < n) → (is : List ℕ) → ArePassed r from P is → Each (λ i. i < n) is
  within_all n f [] h = tt
  within_all n f (i ∷ is) h = (f i h.0.0, within_all n f is h.1.1)

  -- where none of the first lies between
  module _ (low : ℕ) (bare : (i : ℕ) → i < low → IsAboveFrom r from (r.key i) → P (r.key i) → ⊥) where
    -- none of them is passed
    none_front : (is : List ℕ) → ArePassed r from P is → (i : ℕ) → i < low → total (λ j. one_at j i) is ≡ 0
    unfolding total
    none_front [] h i l = refl
    none_front (x ∷ xs) h i l = let t = none_front xs h.1.1 i l in let o = one_at-other x i (λ e. bare i l (subst (λ (n : ℕ). IsAboveFrom r from (r.key n)) e h.0.1) (subst (λ (n : ℕ). P (r.key n)) e h.0.2)) in omega arith

    behind_front : (is : List ℕ) → ArePassed r from P is → (n : ℕ) → total (λ i. total (λ j. one_at j i) is) (first_numbers n) ≤ n - low
    unfolding total first_numbers
    behind_front is h zero = omega arith
    behind_front is h (suc n) = let t = behind_front is h n in let o = passed_once r from P is h n in dite (dec_lt n low) (λ l. let z = none_front is h n l in omega arith) (λ l. omega arith)

    -- there are no more of them than entries below n behind those
    pub passed_few : (n : ℕ) → ((i : ℕ) → IsFound r i → i < n) → (is : List ℕ) → ArePassed r from P is → length is ≤ n - low
    passed_few n f is h = let s = spread n is (within_all n f is h) in let b = behind_front is h n in omega arith

  -- no more than entries
  pub passed_fewer : (n : ℕ) → ((i : ℕ) → IsFound r i → i < n) → (is : List ℕ) → ArePassed r from P is → length is ≤ n
  passed_fewer n f is h = let e = passed_few 0 (λ i l. absurd (omega arith)) n f is h in omega arith

-- one more that is above all of them
pub passed_more : (r : Linked) (from before : Option ℕ) (P : List ℕ → Type 0) (n : ℕ) (is : List ℕ) → IsFound r n → IsAboveFrom r before (r.key n) → P (r.key n) → ((q : List ℕ) → IsAboveFrom r before q → IsAboveFrom r from q) → ((q : List ℕ) → IsAboveFrom r before q → Each (λ j. IsKeyBefore (r.key j) q) is) → ArePassed r from P is → ArePassed r from P (n ∷ is)
passed_more r from before P n is found above here since tops h = ((found, since (r.key n) above, here), (tops (r.key n) above, h))

-- what is above it is above all that it is above
pub above_more : (r : Linked) (before : Option ℕ) (n : ℕ) (q : List ℕ) → IsAboveFrom r before (r.key n) → IsAboveFrom r (Some n) q → IsAboveFrom r before q
above_more r None n q a h = tt
above_more r (Some i) n q a h = (a.0, before_trans (r.key i) (r.key n) q a.1 h.1)

pub from_found : (r : Linked) (from : Option ℕ) (P : List ℕ → Type 0) → IsCut r from P → (i : ℕ) → from ≡ Some i → IsFound r i
from_found r from P h i e = (subst (λ (o : Option ℕ). IsCut r o P) e h).0

pub one_link : (f : Option ℕ) (n : ℕ) → key_loads (met_link f n ∷ []) ≡ 0
unfolding key_loads
one_link f n = refl

pub one_load : (i : ℕ) → key_loads (met_key i ∷ []) ≡ 1
unfolding key_loads
one_load i = refl

pub no_loads : key_loads [] ≡ 0
unfolding key_loads
no_loads = refl

-- a walk goes on
module _ {S : Type 0} {pinned : S → Type 0} {view : S → Linked} {meets : S → S → List Met → Type 0} {from : Option ℕ} {P : List ℕ → Type 0} (both : (s t u : S) (a b : List Met) → meets s t a → meets t u b → meets s u (a ++ b)) where
  pub walks_on : (rest rest' : ℕ) (s t u : S) (w : Walks pinned view meets from P rest s t) (ms : List Met) → pinned u → Later (view t) (view u) → meets t u ms → Each IsEntryLoad ms → key_loads ms + rest ≤ rest' → Walks pinned view meets from P rest' s u
  walks_on rest rest' s t u w ms pin later on loads few = record { pin = pin; later = later_both (view s) (view t) (view u) w.later later; met = w.met ++ ms; on = both s t u w.met ms w.on on; loads = each_append IsEntryLoad w.met ms w.loads loads; passed = w.passed; are = passed_later (view t) (view u) later from P w.passed w.are; few = let a = loads_append w.met ms in let f = w.few in omega arith }
