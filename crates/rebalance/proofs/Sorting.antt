-- What a sort of slots gives where their keys differ.
use Rattle.std.proofs.Common.{◌≡◌, ◌≢◌, ℕ, zero, suc, ◌+◌, ◌-◌, ◌<◌, false, List, [], ◌∷◌, length, get_or, sym, ◌∙◌, ap, refl, subst, arith}
use Rattle.std.specs.Ordering.{ordering_then, ordering_reverse, is_lt, is_eq}
use Rattle.std.specs.declared.cmp.Ordering.{Ordering}
use Rattle.std.specs.declared.cmp.Ordering.TheVariants.{Less, Equal, Greater}
use Rattle.std.specs.Cmp.{IsTotalOrder}
use Rattle.std.specs.Cmp.Lexicographic.{nat_list_cmp_total}
use Rattle.std.specs.List.Sorted.{IsPermutation, IsSorted}
use Rattle.std.proofs.lemmas.Cmp.{tied_itself, then_total, on_total, nat_cmp_total}
use Rattle.std.proofs.lemmas.List.Recursion.{is_sum_by}
use Rattle.std.proofs.lemmas.List.Sorted.{sum_by-IsPermutation}
use mathlib.Core.Option.{some}
use lib.ListN.{get_elem?}
use Rattle.oak_model.specs.Counts.{one_if, total}
use Rattle.oak_model.proofs.Counting.{total_two}
use Rattle.chunk_ops.specs.declared.stored.StoredKey.{StoredKey}
use Rattle.oak_core.specs.declared.sorting.SortSlot.{SortSlot}
use Rattle.rebalance.specs.Slots.{key_of, stored_cmp, has_key, AreDistinct, Rise}

pub stored_total : IsTotalOrder stored_cmp
stored_total = then_total (on_total (λ (k : StoredKey). k.words) nat_list_cmp_total) (on_total (λ (k : StoredKey). k.length) nat_cmp_total)

-- a sum over the same slots in another order

sum_none : (f : SortSlot → ℕ) → total f [] ≡ 0
unfolding total
sum_none f = refl

sum_more : (f : SortSlot → ℕ) (x : SortSlot) (xs : List SortSlot) → total f (x ∷ xs) ≡ f x + total f xs
unfolding total
sum_more f x xs = refl

sum_same : (f : SortSlot → ℕ) (xs ys : List SortSlot) → IsPermutation xs ys → total f ys ≡ total f xs
sum_same f xs ys p = is_sum_by (total f) f (sum_none f) (sum_more f) ys ∙ (sum_by-IsPermutation f xs ys p ∙ sym (is_sum_by (total f) f (sum_none f) (sum_more f) xs))

-- slots whose keys differ do so in another order
pub distinct_sorted : (xs ys : List SortSlot) → IsPermutation xs ys → AreDistinct xs → AreDistinct ys
distinct_sorted xs ys p h k = let e = sum_same (has_key k) xs ys p in let b = h k in omega arith

stands : (xs : List SortSlot) (i : ℕ) (d : SortSlot) → i < length xs → get_elem? xs i ≡ some (get_or xs i d)
stands [] i d l = absurd (omega arith)
stands (x ∷ xs) zero d l = refl
stands (x ∷ xs) (suc i) d l = stands xs i d (omega arith)

-- of two of them the keys differ
apart : (xs : List SortSlot) (i j : ℕ) (d : SortSlot) → AreDistinct xs → i < j → j < length xs → stored_cmp (key_of (get_or xs i d)) (key_of (get_or xs j d)) ≢ Equal
apart xs i j d h lt l e = let k : StoredKey = key_of (get_or xs i d) in
    let t = total_two (has_key k) xs i j (get_or xs i d) (get_or xs j d) (λ s. omega arith) (stands xs i d (omega arith)) (stands xs j d l) in
    let a : has_key k (get_or xs i d) ≡ 1 = ap (λ (o : Ordering). one_if (is_eq o)) (tied_itself stored_total k) in let b : has_key k (get_or xs j d) ≡ 1 = ap (λ (o : Ordering). one_if (is_eq o)) e in let c = h k in omega arith

not_first : (a b : Ordering) → is_lt (ordering_then a b) ≡ false → a ≢ Less
not_first Less b e = λ f. absurd cc
not_first Equal b e = λ f. cc
not_first Greater b e = λ f. cc

left : (a b : Ordering) → a ≡ ordering_reverse b → a ≢ Less → b ≢ Equal → b ≡ Less
left a Less e n m = refl
left a Equal e n m = absurd (m refl)
left a Greater e n m = absurd (n e)

next_rises : (xs : List SortSlot) → AreDistinct xs → ((k : ℕ) (d : SortSlot) → k + 1 < length xs → stored_cmp (key_of (get_or xs (k + 1) d)) (key_of (get_or xs k d)) ≢ Less) → (k : ℕ) (d : SortSlot) → k + 1 < length xs → stored_cmp (key_of (get_or xs k d)) (key_of (get_or xs (k + 1) d)) ≡ Less
next_rises xs h up k d l = left (stored_cmp (key_of (get_or xs (k + 1) d)) (key_of (get_or xs k d))) (stored_cmp (key_of (get_or xs k d)) (key_of (get_or xs (k + 1) d)))
    (stored_total.antisymm (key_of (get_or xs (k + 1) d)) (key_of (get_or xs k d))) (up k d l) (apart xs k (k + 1) d h (omega arith) l)

far : (xs : List SortSlot) → ((k : ℕ) (d : SortSlot) → k + 1 < length xs → stored_cmp (key_of (get_or xs k d)) (key_of (get_or xs (k + 1) d)) ≡ Less) → (i n j : ℕ) (d : SortSlot) → j ≡ i + n + 1 → j < length xs → stored_cmp (key_of (get_or xs i d)) (key_of (get_or xs j d)) ≡ Less
far xs up i zero j d e l = subst (λ (q : ℕ). stored_cmp (key_of (get_or xs i d)) (key_of (get_or xs q d)) ≡ Less) (let s : i + 1 ≡ j = omega arith in s) (up i d (omega arith))
far xs up i (suc n) j d e l = let m : ℕ = i + n + 1 in stored_total.trans (key_of (get_or xs i d)) (key_of (get_or xs m d)) (key_of (get_or xs j d)) (far xs up i n m d refl (omega arith))
    (subst (λ (q : ℕ). stored_cmp (key_of (get_or xs m d)) (key_of (get_or xs q d)) ≡ Less) (let s : m + 1 ≡ j = omega arith in s) (up m d (omega arith)))

-- R goes by the keys first
pub sorted_rises : (R : SortSlot → SortSlot → Ordering) (S : SortSlot → SortSlot → Ordering) → ((a b : SortSlot) → R a b ≡ ordering_then (stored_cmp (key_of a) (key_of b)) (S a b)) → (xs : List SortSlot) → AreDistinct xs → IsSorted R xs → Rise xs
sorted_rises R S is xs h s i j d lt l = let r : (k : ℕ) (d : SortSlot) → k + 1 < length xs → stored_cmp (key_of (get_or xs (k + 1) d)) (key_of (get_or xs k d)) ≢ Less
    = λ k d m. not_first (stored_cmp (key_of (get_or xs (k + 1) d)) (key_of (get_or xs k d))) (S (get_or xs (k + 1) d) (get_or xs k d)) (ap is_lt (sym (is (get_or xs (k + 1) d) (get_or xs k d))) ∙ s k d (omega arith) m) in
    far xs (next_rises xs h r) i (j - suc i) j d (omega arith) l

-- an order that goes by three parts goes by the first two
pub then_then : (a b c : Ordering) → ordering_then a (ordering_then b c) ≡ ordering_then (ordering_then a b) c
then_then Less b c = refl
then_then Equal b c = refl
then_then Greater b c = refl
