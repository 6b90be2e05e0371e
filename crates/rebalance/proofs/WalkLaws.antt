-- The entries of a room are read in another order than that of their numbers, and each once.
use Rattle.std.proofs.Common.{◌≡◌, ℕ, zero, suc, ◌+◌, ◌/◌, ◌<◌, ◌≤◌, ◌==◌, not, Bool, true, false, cond, List, [], ◌∷◌, ◌++◌, map, take, length, get_or, set, replicate, get_or-set_other, get_or-set_same, sym, ◌∙◌, ap, refl, subst, arith, lt-ltb}
use Rattle.std.specs.List.{filter}
use Rattle.std.specs.List.Sorted.{IsPermutation}
use Rattle.std.proofs.lemmas.List.{get_or-replicate, get_or_past, length-replicate, length-take-le}
use Rattle.std.proofs.lemmas.List.Sorted.{IsPermutation-to_front, IsPermutation-cons, IsPermutation-sym, IsPermutation-trans, IsPermutation-append_left, length_permutation}
use Rattle.std.proofs.Math.ListN.{length-map}
use mathlib.Core.Logic.{dite}
use native.Mathlib.Decide.{ℕ_discrete, dec_lt}
use Rattle.oak_model.specs.Counts.{rows}
use Rattle.oak_model.proofs.Lists.{rows_length}
use Rattle.chunk_core.specs.LinkedEntries.{entries_in}
use Rattle.chunk_core.specs.Rooms.{RoomMemory}
use Rattle.chunk_ops.specs.Stored.{IsStored}
use Rattle.oak_core.specs.declared.sorting.SortSlot.{SortSlot}
use Rattle.rebalance.specs.declared.entries.Entry.{Entry}
use Rattle.rebalance.specs.declared.reading.Read.{Read}
use Rattle.rebalance.specs.Dropping.{DropsKeys, dropped_ranges}
use Rattle.rebalance.specs.Entries.{AreValued, entries, entry_at, kept, dropped, greatest, has_value, has_word, lacks_value, linked_among}
use Rattle.rebalance.specs.Compacted.{KeysRise, ReadsSorted, linked_in}
use Rattle.rebalance.specs.Read.{HasAll, PutsEntry}
use Rattle.rebalance.specs.Slots.{entry_of, key_of}
use Rattle.rebalance.proofs.ReadLaws.{same_kept, front_more, each_more}

-- the elements at which the flags are set
unfoldable pub marked : {A : Type 0} → List Bool → List A → List A
marked [] xs = []
marked (b ∷ bs) [] = []
marked (b ∷ bs) (x ∷ xs) = cond b (x ∷ marked bs xs) (marked bs xs)

pub marked_none : {A : Type 0} (bs : List Bool) (xs : List A) → ((j : ℕ) → j < length bs → get_or bs j false ≡ false) → marked bs xs ≡ []
unfolding marked
marked_none [] xs h = refl
marked_none (b ∷ bs) [] h = refl
marked_none (b ∷ bs) (x ∷ xs) h = ap (λ (c : Bool). cond c (x ∷ marked bs xs) (marked bs xs)) (h 0 (omega arith)) ∙ marked_none bs xs (λ j l. h (suc j) (omega arith))

-- one flag more
pub marked_more : {A : Type 0} (bs : List Bool) (xs : List A) (i : ℕ) (e : A) → i < length bs → i < length xs → get_or bs i false ≡ false → get_or xs i e ≡ e → IsPermutation (marked bs xs ++ e ∷ []) (marked (set bs i true) xs)
unfolding marked
marked_more [] xs i e l k f is = absurd (omega arith)
marked_more (b ∷ bs) [] i e l k f is = absurd (omega arith)
marked_more (true ∷ bs) (x ∷ xs) zero e l k f is = absurd cc
marked_more (false ∷ bs) (x ∷ xs) zero e l k f is = subst (λ (y : _). IsPermutation (marked bs xs ++ e ∷ []) (y ∷ marked bs xs)) (sym is) (IsPermutation-to_front (marked bs xs) e)
marked_more (true ∷ bs) (x ∷ xs) (suc i) e l k f is = IsPermutation-cons x (marked bs xs ++ e ∷ []) (marked (set bs i true) xs) (marked_more bs xs i e (omega arith) (omega arith) f is)
marked_more (false ∷ bs) (x ∷ xs) (suc i) e l k f is = marked_more bs xs i e (omega arith) (omega arith) f is

marked_few : {A : Type 0} (bs : List Bool) (xs : List A) → length (marked bs xs) ≤ length xs
unfolding marked
marked_few [] xs = omega arith
marked_few (b ∷ bs) [] = omega arith
marked_few (true ∷ bs) (x ∷ xs) = let h = marked_few bs xs in omega arith
marked_few (false ∷ bs) (x ∷ xs) = let h = marked_few bs xs in omega arith

-- where these are as many as all, they are all

pub marked_all : {A : Type 0} (bs : List Bool) (xs : List A) → length (marked bs xs) ≡ length xs → marked bs xs ≡ xs
unfolding marked
marked_all [] [] e = refl
marked_all [] (x ∷ xs) e = absurd (omega arith)
marked_all (b ∷ bs) [] e = refl
marked_all (true ∷ bs) (x ∷ xs) e = ap (λ (ys : List _). x ∷ ys) (marked_all bs xs (omega arith))
marked_all (false ∷ bs) (x ∷ xs) e = let h = marked_few bs xs in absurd (omega arith)

pub all_marked : {A : Type 0} (bs : List Bool) (xs : List A) (j : ℕ) → length (marked bs xs) ≡ length xs → j < length xs → get_or bs j false ≡ true
unfolding marked
all_marked [] [] j e l = absurd (omega arith)
all_marked [] (x ∷ xs) j e l = absurd (omega arith)
all_marked (b ∷ bs) [] j e l = absurd (omega arith)
all_marked (true ∷ bs) (x ∷ xs) zero e l = refl
all_marked (true ∷ bs) (x ∷ xs) (suc j) e l = all_marked bs xs j (omega arith) (omega arith)
all_marked (false ∷ bs) (x ∷ xs) j e l = let h = marked_few bs xs in absurd (omega arith)

-- flags that are all unset, and one that was set

pub unmarked : (n j : ℕ) → get_or (replicate n false) j false ≡ false
unmarked n j = dite (dec_lt j n) (λ l. get_or-replicate n j false false l) (λ ge. get_or_past (replicate n false) j false (let e = length-replicate n false in omega arith))

pub mark_set : (Q : ℕ → Type 0) (seen : List Bool) (i j : ℕ) → Q i → (get_or seen j false ≡ true → Q j) → get_or (set seen i true) j false ≡ true → Q j
mark_set Q seen i j here other is = dite (ℕ_discrete j i) (λ e. subst Q (sym e) here) (λ ne. other (sym (get_or-set_other seen i j true false ne) ∙ is))

-- one entry more was read, to the next slot

module _ (key : List ℕ) (whole : Bool) (e : Entry) (k : ℕ) (slots slots' : List SortSlot) (lt : k < length slots) (h : PutsEntry key whole e k slots slots') where
  pub front_set : (seen : List Bool) (es : List Entry) (i : ℕ) → i < length seen → i < length es → get_or seen i false ≡ false → get_or es i e ≡ e → IsPermutation (marked seen es) (map entry_of (take k slots)) → IsPermutation (marked (set seen i true) es) (map entry_of (take (k + 1) slots'))
  front_set seen es i l few f is p = let long : List Entry = marked seen es ++ e ∷ [] in
      same_kept (marked (set seen i true) es) (marked (set seen i true) es) (map entry_of (take k slots) ++ e ∷ []) (map entry_of (take (k + 1) slots'))
      (IsPermutation-trans (marked (set seen i true) es) long (map entry_of (take k slots) ++ e ∷ []) (IsPermutation-sym long (marked (set seen i true) es) (marked_more seen es i e l few f is)) (IsPermutation-append_left (e ∷ []) (marked seen es) (map entry_of (take k slots)) p))
      refl (sym (ap (λ (xs : List SortSlot). map entry_of (take (k + 1) xs)) h.put ∙ front_more slots k h.slot e h.is lt))

  pub each_set : (P : SortSlot → Type 0) → P h.slot → ((j : ℕ) (d : SortSlot) → j < k → P (get_or slots j d)) → (j : ℕ) (d : SortSlot) → j < k + 1 → P (get_or slots' j d)
  each_set P here others j d l = subst (λ (xs : List SortSlot). P (get_or xs j d)) (sym h.put) (each_more P slots k h.slot lt here others j d l)

  -- what holds of one of them
  pub one_set : (P : SortSlot → Type 0) (j : ℕ) → (j ≡ k → P h.slot) → ((d : SortSlot) → j < k → P (get_or slots j d)) → (d : SortSlot) → j < k + 1 → P (get_or slots' j d)
  one_set P j here other d l = subst (λ (xs : List SortSlot). P (get_or xs j d)) (sym h.put) (dite (ℕ_discrete j k)
      (λ e. subst P (sym (ap (λ (i : ℕ). get_or (set slots k h.slot) i d) e ∙ get_or-set_same slots k h.slot d lt)) (here e))
      (λ ne. subst P (sym (get_or-set_other slots k j h.slot d ne)) (other d (omega arith))))

-- all were read

module _ (m : RoomMemory) (r n : ℕ) (slots : List SortSlot) (seen : List Bool) (fits : n ≤ length slots) (front : IsPermutation (marked seen (entries m r n)) (map entry_of (take n slots))) where
  as_many : length (marked seen (entries m r n)) ≡ length (entries m r n)
  as_many = let a = length_permutation (marked seen (entries m r n)) (map entry_of (take n slots)) front in let b : length (map entry_of (take n slots)) ≡ length (take n slots) = simp length-map in let d = length-take-le n slots fits in let e = rows_length 0 n (λ i. entry_at m r i) in omega arith

  pub front_whole : IsPermutation (entries m r n) (map entry_of (take n slots))
  front_whole = subst (λ (es : List Entry). IsPermutation es (map entry_of (take n slots))) (marked_all seen (entries m r n) as_many) front

  pub whole_seen : (j : ℕ) → j < n → get_or seen j false ≡ true
  whole_seen j l = all_marked seen (entries m r n) j as_many (let e = rows_length 0 n (λ i. entry_at m r i) in omega arith)

-- a filter that lets all of the rows through, or none

filter_yes : {A : Type 0} (p : A → Bool) (f : ℕ → A) (i n : ℕ) → ((k : ℕ) → i ≤ k → k < i + n → p (f k) ≡ true) → filter p (rows i n f) ≡ rows i n f
unfolding rows
filter_yes p f i zero h = refl
filter_yes p f i (suc n) h = ap (λ (c : Bool). cond c (f i ∷ filter p (rows (suc i) n f)) (filter p (rows (suc i) n f))) (h i (omega arith) (omega arith)) ∙ ap (λ (ys : List _). f i ∷ ys) (filter_yes p f (suc i) n (λ k a b. h k (omega arith) (omega arith)))

filter_no : {A : Type 0} (p : A → Bool) (f : ℕ → A) (i n : ℕ) → ((k : ℕ) → i ≤ k → k < i + n → p (f k) ≡ false) → filter p (rows i n f) ≡ []
unfolding rows
filter_no p f i zero h = refl
filter_no p f i (suc n) h = ap (λ (c : Bool). cond c (f i ∷ filter p (rows (suc i) n f)) (filter p (rows (suc i) n f))) (h i (omega arith) (omega arith)) ∙ filter_no p f (suc i) n (λ k a b. h k (omega arith) (omega arith))

-- each of the first n entries has a key word and a value

module _ (m : RoomMemory) (r n : ℕ) (valued : AreValued m r n) where
  pub linked_all : linked_among m r n ≡ entries m r n
  linked_all = filter_yes has_word (λ i. entry_at m r i) 0 n (λ k _ l. lt-ltb 0 (m.key r k) (valued k (omega arith)).0)

  kept_all : kept (linked_among m r n) ≡ entries m r n
  kept_all = ap kept linked_all ∙ filter_yes has_value (λ i. entry_at m r i) 0 n (λ k _ l. ap (λ (b : ℕ). b == 1) (valued k (omega arith)).1)

  dropped_none : dropped (linked_among m r n) ≡ []
  dropped_none = ap dropped linked_all ∙ filter_no lacks_value (λ i. entry_at m r i) 0 n (λ k _ l. ap (λ (b : ℕ). not (b == 1)) (valued k (omega arith)).1)

  -- so none is dropped

  pub drops_nothing : DropsKeys r n m m
  drops_nothing = record {
    pin = refl;
    base = refl;
    count = refl;
    latch = refl;
    first = refl;
    low = refl;
    high = refl;
    value = refl;
    next = refl;
    others = λ q j _. refl;
    valued = λ j _ _. refl;
    gone = λ j l z. let h = (valued j l).1 in absurd (omega arith);
  }

  pub ranges_same : (gs : _) → dropped_ranges (dropped (linked_among m r n)) gs ≡ gs
  unfolding dropped_ranges
  ranges_same gs = ap (λ (es : List Entry). dropped_ranges es gs) dropped_none

  -- and the slots are in order where their keys rise

  pub all_sorted : (keys : ℕ → List ℕ) (slots : List SortSlot) (x : Read) → n ≡ entries_in (m.count r) → HasAll keys m r n slots → x.kept ≡ n → x.dropped ≡ 0 → x.base ≡ m.base r → KeysRise keys (take x.kept slots) → ReadsSorted keys m r slots x
  unfolding greatest
  all_sorted keys slots x count h k d o rise = let sf = h.fits in record {
    many = omega arith;
    fits = omega arith;
    same = same_kept (entries m r n) (kept (linked_in m r)) (map entry_of (take n slots)) (map entry_of (take x.kept slots)) h.front (sym kept_all ∙ ap (λ (i : ℕ). kept (linked_among m r i)) count) (ap (λ (i : ℕ). map entry_of (take i slots)) (sym k));
    rise = rise;
    middle = λ q. subst (λ (i : ℕ). i / 2 < i → IsStored (key_of (get_or slots (i / 2) q)) (keys (get_or slots (i / 2) q).key)) (sym k) (h.middle q);
    base = o ∙ ap (greatest (m.base r)) (sym dropped_none ∙ ap (λ (i : ℕ). dropped (linked_among m r i)) count);
  }
