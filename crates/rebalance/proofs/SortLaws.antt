-- Slots that were read have keys that differ, and once they are sorted their keys rise.
use Rattle.std.proofs.Common.{◌≡◌, ℕ, zero, suc, ◌+◌, ◌<◌, ◌≤◌, Bool, true, false, List, [], ◌∷◌, map, take, length, get_or, sym, ◌∙◌, ap, refl, subst, arith}
use Rattle.std.specs.Ordering.{ordering_then, nat_cmp, is_eq}
use Rattle.std.specs.Cmp.{IsTotalOrder}
use Rattle.std.specs.Cmp.Lexicographic.{nat_list_cmp_total}
use Rattle.std.specs.declared.cmp.Ordering.{Ordering}
use Rattle.std.specs.declared.cmp.Ordering.TheVariants.{Less, Equal, Greater}
use Rattle.std.specs.List.{All}
use Rattle.std.specs.List.Sorted.{IsPermutation}
use Rattle.std.proofs.lemmas.Cmp.{then_total, on_total, nat_cmp_total}
use Rattle.std.proofs.lemmas.List.{get_or-take, length-take-le}
use Rattle.std.proofs.lemmas.List.Sorted.{All-permutation}
use mathlib.Core.Logic.{dite}
use mathlib.Core.Option.{some, some-injective, some-ne-none}
use lib.ListN.{get_elem?}
use native.Mathlib.Decide.{dec_lt}
use Rattle.oak_model.specs.Counts.{one_if, total}
use Rattle.oak_model.specs.Key.{key_cmp}
use Rattle.oak_model.proofs.Counting.{total_map, total_some}
use Rattle.chunk_ops.specs.declared.stored.StoredKey.{StoredKey}
use Rattle.chunk_ops.specs.Stored.{IsStored}
use Rattle.chunk_ops.proofs.StoredLaws.{words_then_lengths}
use Rattle.rebalance.specs.declared.entries.Entry.{Entry}
use Rattle.oak_core.specs.declared.sorting.SortSlot.{SortSlot}
use Rattle.rebalance.specs.Compacted.{is_of, KeysRise}
use Rattle.rebalance.specs.Slots.{entry_of, key_of, stored_cmp, has_key, AreDistinct, Rise}
use Rattle.rebalance.proofs.FilledCopies.{permuted_total}

-- the order of stored keys is total
pub stored_total : IsTotalOrder stored_cmp
stored_total = then_total (on_total (λ (k : StoredKey). k.words) nat_list_cmp_total) (on_total (λ (k : StoredKey). k.length) nat_cmp_total)

-- the order of stored keys is that of the keys
pub stored_order : (k l : StoredKey) (a b : List ℕ) → IsStored k a → IsStored l b → stored_cmp k l ≡ key_cmp a b
stored_order k l a b p q = (λ t. ordering_then (key_cmp (p.words t) (q.words t)) (nat_cmp (p.long t) (q.long t))) ∙ words_then_lengths a b p.bytes q.bytes p.few

pos_true : (b : Bool) → 0 < one_if b → b ≡ true
pos_true true l = refl
pos_true false l = absurd (omega arith)

is_tied : (o : Ordering) → is_eq o ≡ true → o ≡ Equal
is_tied Less e = absurd cc
is_tied Equal e = refl
is_tied Greater e = absurd cc

total_same : {A : Type 0} (f g : A → ℕ) → ((x : A) → f x ≡ g x) → (xs : List A) → total f xs ≡ total g xs
unfolding total
total_same f g h [] = refl
total_same f g h (x ∷ xs) = λ t. h x t + total_same f g h xs t

element : (xs : List SortSlot) (i : ℕ) (v : SortSlot) → get_elem? xs i ≡ some v → (i < length xs) × (get_or xs i v ≡ v)
element [] i v e = absurd (some-ne-none v (sym e))
element (x ∷ xs) zero v e = (omega arith, some-injective x v e)
element (x ∷ xs) (suc i) v e = let h = element xs i v e in let l = h.0 in (omega arith, h.1)

module _ (keys : ℕ → List ℕ) where
  -- the slot has the key of its entry
  abbrev pub IsSlot : SortSlot → Type 0
  IsSlot s = IsStored (key_of s) (keys s.key)

  -- counted by a slot's own key, slots are as many as their entries of that key
  same_total : (s : SortSlot) → IsSlot s → (xs : List SortSlot) → All IsSlot xs → total (has_key (key_of s)) xs ≡ total (λ (x : SortSlot). is_of keys (keys s.key) (entry_of x)) xs
  unfolding total
  same_total s p [] h = refl
  same_total s p (x ∷ xs) h = let here : IsSlot x = h 0 x (omega arith) in let rest : All IsSlot xs = λ k d l. h (suc k) d (omega arith) in
      λ t. one_if (is_eq (stored_order (key_of s) (key_of x) (keys s.key) (keys x.key) p here t)) + same_total s p xs rest t

  -- where no two entries have one key, no two slots have
  pub distinct_slots : (es : List Entry) (xs : List SortSlot) → All IsSlot xs → IsPermutation es (map entry_of xs) → ((k : List ℕ) → total (is_of keys k) es ≤ 1) → AreDistinct xs
  distinct_slots es xs all front once k = dite (dec_lt 0 (total (has_key k) xs)) (λ l. some_one (total_some (has_key k) xs l)) (λ n. omega arith)
    where
      some_one : (i : ℕ) × (v : SortSlot) × (get_elem? xs i ≡ some v) × (0 < has_key k v) → total (has_key k) xs ≤ 1
      some_one (i, v, at, l) = let f : SortSlot → ℕ = has_key (key_of v) in let w : List ℕ = keys v.key in
          let tied : stored_cmp k (key_of v) ≡ Equal = is_tied (stored_cmp k (key_of v)) (pos_true (is_eq (stored_cmp k (key_of v))) l) in
          let slot : IsSlot v = subst IsSlot (element xs i v at).1 (all i v (element xs i v at).0) in
          let a : total (has_key k) xs ≡ total f xs = total_same (has_key k) f (λ x. ap (λ (o : Ordering). one_if (is_eq o)) (stored_total.congr k (key_of v) (key_of x) tied)) xs in
          let b : total f xs ≡ total (λ (x : SortSlot). is_of keys w (entry_of x)) xs = same_total v slot xs all in
          let c : total (is_of keys w) (map entry_of xs) ≡ total (λ (x : SortSlot). is_of keys w (entry_of x)) xs = total_map entry_of (is_of keys w) xs in
          let d : total (is_of keys w) (map entry_of xs) ≡ total (is_of keys w) es = permuted_total (is_of keys w) es (map entry_of xs) front in
          let o = once w in omega arith

  -- slots rise as their entries' keys
  pub keys_rise : (xs : List SortSlot) → All IsSlot xs → Rise xs → KeysRise keys xs
  keys_rise xs all up i j d lt l = sym (stored_order (key_of (get_or xs i d)) (key_of (get_or xs j d)) (keys (get_or xs i d).key) (keys (get_or xs j d).key) (all i d (omega arith)) (all j d l)) ∙ up i j d lt l

-- what holds of the first slots, by their numbers and as a list

module _ (P : SortSlot → Type 0) where
  pub front_slots : (slots : List SortSlot) (n : ℕ) → n ≤ length slots → ((j : ℕ) (d : SortSlot) → j < n → P (get_or slots j d)) → All P (take n slots)
  front_slots slots n le h k d l = let e = length-take-le n slots le in let lt : k < n = omega arith in subst P (sym (get_or-take n slots k d lt)) (h k d lt)

  pub each_slot : (slots : List SortSlot) (n : ℕ) → n ≤ length slots → All P (take n slots) → (j : ℕ) (d : SortSlot) → j < n → P (get_or slots j d)
  each_slot slots n le all j d lt = subst P (get_or-take n slots j d lt) (all j d (let e = length-take-le n slots le in omega arith))

  pub sorted_slots : (xs ys : List SortSlot) → IsPermutation xs ys → All P xs → All P ys
  sorted_slots xs ys p all = All-permutation P xs ys p all
