-- One slot more was stored, and then the counts.
use Rattle.std.proofs.Common.{◌≡◌, ◌≢◌, ℕ, zero, suc, ◌+◌, ◌-◌, ◌<◌, ◌≤◌, ◌⊎◌, inl, inr, List, [], ◌∷◌, ◌++◌, map, length, get_or, drop, sym, ◌∙◌, ap, refl, subst, arith}
use Rattle.std.proofs.lemmas.List.{length-map, get_or-map, get_or-take, get_or-drop, length-take-le, length-drop}
use mathlib.Core.Logic.{dite}
use native.Mathlib.Decide.{ℕ_discrete}
use Rattle.oak_model.specs.Counts.{rows}
use Rattle.oak_model.proofs.Lists.{rows_length, rows_at, same_elements}
use Rattle.chunk_core.specs.RoomStep.{put_room}
use Rattle.chunk_core.specs.Rooms.{RoomMemory, at_base, at_first, at_count}
use Rattle.oak_core.specs.declared.sorting.SortSlot.{SortSlot}
use Rattle.rebalance.specs.declared.entries.Entry.{Entry}
use Rattle.rebalance.specs.Entries.{entries}
use Rattle.rebalance.specs.Filled.{AreAt, ClearsEntries, KeepsBelow, KeepsEntries, StoresSlots, Fills, FillsBoth, slots_from, write_slot, next_of, first_of, count_of}
use Rattle.rebalance.specs.Slots.{entry_of}
use Rattle.rebalance.proofs.ClearLaws.{cleared_rest}
use Rattle.rebalance.proofs.StoredWords.{at_one, at_room}

-- how many slots a part has, and which

pub part_length : (from n : ℕ) (xs : List SortSlot) → from + n ≤ length xs → length (slots_from from n xs) ≡ n
part_length from n xs le = let e = length-drop from xs in length-take-le n (drop from xs) (omega arith)

pub part_at : (from n k : ℕ) (d : SortSlot) (xs : List SortSlot) → k < n → get_or (slots_from from n xs) k d ≡ get_or xs (from + k) d
part_at from n k d xs l = get_or-take n (drop from xs) k d l ∙ get_or-drop from xs k d

module _ (r start i n x : ℕ) (s : SortSlot) (slots : List SortSlot) (m now : RoomMemory) where
  at_more : ((d : SortSlot) → s ≡ get_or slots i d) → x ≡ next_of (start + i) n → AreAt r start slots n i now → AreAt r start slots n (i + 1) (write_slot now r (start + i) s x)
  at_more is nx h j d l = (
    at_one (start + j) (start + i) r r s.key (now.key r (start + j)) (λ v. v ≡ (get_or slots j d).key) (λ a _. ap (λ (t : SortSlot). t.key) (here a)) (λ o. (h j d (less o)).0),
    at_one (start + j) (start + i) r r s.value (now.value r (start + j)) (λ v. v ≡ (get_or slots j d).value) (λ a _. ap (λ (t : SortSlot). t.value) (here a)) (λ o. (h j d (less o)).1),
    at_one (start + j) (start + i) r r x (now.next r (start + j)) (λ v. v ≡ next_of (start + j) n) (λ a _. nx ∙ ap (λ (k : ℕ). next_of k n) (sym a)) (λ o. (h j d (less o)).2),
  )
    where
      here : start + j ≡ start + i → s ≡ get_or slots j d
      here a = is d ∙ ap (λ (k : ℕ). get_or slots k d) (let e : i ≡ j = omega arith in e)

      less : (start + j ≢ start + i) ⊎ (r ≢ r) → j < i
      less (inl a) = dite (ℕ_discrete j i) (λ e. absurd (a (ap (λ (k : ℕ). start + k) e))) (λ o. omega arith)
      less (inr a) = absurd (a refl)

  below_more : KeepsBelow r start m now → KeepsBelow r start m (write_slot now r (start + i) s x)
  below_more h = record {
    key = λ j l. at_one j (start + i) r r s.key (now.key r j) (λ v. v ≡ m.key r j) (λ a _. absurd (omega arith)) (λ _. h.key j l);
    value = λ j l. at_one j (start + i) r r s.value (now.value r j) (λ v. v ≡ m.value r j) (λ a _. absurd (omega arith)) (λ _. h.value j l);
    next = λ j l. at_one j (start + i) r r x (now.next r j) (λ v. v ≡ m.next r j) (λ a _. absurd (omega arith)) (λ _. h.next j l);
  }

  rest_more : KeepsEntries r (start + i) m now → KeepsEntries r (start + (i + 1)) m (write_slot now r (start + i) s x)
  rest_more h = record {
    key = λ q j f. at_one j (start + i) q r s.key (now.key q j) (λ v. v ≡ m.key q j) (λ a b. let g = f b in absurd (omega arith)) (λ o. h.key q j (λ b. let g = f b in omega arith));
    value = λ q j f. at_one j (start + i) q r s.value (now.value q j) (λ v. v ≡ m.value q j) (λ a b. let g = f b in absurd (omega arith)) (λ o. h.value q j (λ b. let g = f b in omega arith));
    next = λ q j f. at_one j (start + i) q r x (now.next q j) (λ v. v ≡ m.next q j) (λ a b. let g = f b in absurd (omega arith)) (λ o. h.next q j (λ b. let g = f b in omega arith));
  }

  -- the next slot was stored
  pub slot_more : ((d : SortSlot) → s ≡ get_or slots i d) → x ≡ next_of (start + i) n → StoresSlots r start slots n i m now → StoresSlots r start slots n (i + 1) m (write_slot now r (start + i) s x)
  slot_more is nx h = record {
    are = at_more is nx h.are;
    below = below_more h.below;
    entries_kept = rest_more h.entries_kept;
    bounds_kept = record { pin = h.bounds_kept.pin; latch = h.bounds_kept.latch; low = h.bounds_kept.low; high = h.bounds_kept.high };
    base = h.base;
    count = h.count;
    first = h.first;
  }

rows_append : {A : Type 0} (i a n : ℕ) (f : ℕ → A) → rows i (a + n) f ≡ rows i a f ++ rows (i + a) n f
unfolding rows
rows_append i zero n f = (λ t. rows (let e : i ≡ i + 0 = omega arith in e t) (let e : 0 + n ≡ n = omega arith in e t) f)
rows_append i (suc a) n f = ap (λ (k : ℕ). rows i k f) (let e : suc a + n ≡ suc (a + n) = omega arith in e)
    ∙ ap (λ (xs : List _). f i ∷ xs) (rows_append (suc i) a n f ∙ ap (λ (k : ℕ). rows (suc i) a f ++ rows k n f) (let e : suc i + a ≡ i + suc a = omega arith in e))

rows_same : {A : Type 0} (i n : ℕ) (f g : ℕ → A) → ((k : ℕ) → k < n → f (i + k) ≡ g (i + k)) → rows i n f ≡ rows i n g
unfolding rows
rows_same i zero f g h = refl
rows_same i (suc n) f g h = let a : f i ≡ g i = subst (λ (k : ℕ). f k ≡ g k) (let e : i + 0 ≡ i = omega arith in e) (h 0 (omega arith)) in
    let b = rows_same (suc i) n f g (λ k l. subst (λ (j : ℕ). f j ≡ g j) (let e : i + suc k ≡ suc i + k = omega arith in e) (h (suc k) (omega arith))) in λ t. a t ∷ b t

abbrev row : RoomMemory → ℕ → ℕ → Entry
row m r i = record { place = m.key r i; value = m.value r i }

-- slots were stored behind the first entries
module _ (r start n : ℕ) (slots : List SortSlot) (m m' : RoomMemory) (h : StoresSlots r start slots (start + length slots) (length slots) m m') where
  none : SortSlot
  none = record { words = []; length = 0; key = 0; value = 0 }

  stored_entries : rows start (length slots) (row m' r) ≡ map entry_of slots
  stored_entries = let d : Entry = record { place = 0; value = 0 } in
      same_elements (rows start (length slots) (row m' r)) (map entry_of slots) d (rows_length start (length slots) (row m' r) ∙ sym (length-map slots entry_of))
      (λ k l. let lt : k < length slots = subst (λ (q : ℕ). k < q) (rows_length start (length slots) (row m' r)) l in
      rows_at start (length slots) k (row m' r) d lt ∙ ((λ t. record { place = (h.are k none lt).0 t; value = (h.are k none lt).1 t }) ∙ sym (get_or-map entry_of slots k none d lt)))

  -- all entries up to the last slot
  pub more_entries : entries m' r (start + length slots) ≡ entries m r start ++ map entry_of slots
  more_entries = rows_append 0 start (length slots) (row m' r)
      ∙ (λ t. rows_same 0 start (row m' r) (row m r) (λ k l. let z : 0 + k ≡ k = omega arith in ap (row m' r) z ∙ ((λ u. record { place = h.below.key k l u; value = h.below.value k l u }) ∙ sym (ap (row m r) z))) t
      ++ (ap (λ (k : ℕ). rows k (length slots) (row m' r)) (let z : 0 + start ≡ start = omega arith in z) ∙ stored_entries) t)

-- The entries behind the slots were cleared, the slots were stored, and then base, first link and count.
module _ (e r base : ℕ) (slots : List SortSlot) (before bare m : RoomMemory) (few : length slots ≤ e) (c : ClearsEntries r (length slots) (e - length slots) before bare) (h : StoresSlots r 0 slots (0 + length slots) (length slots) bare m) where
  -- what is behind the slots is as it was cleared
  behind : (q j : ℕ) → (q ≡ r → length slots ≤ j) → q ≡ r → 0 + length slots ≤ j
  behind q j f s = let l = f s in omega arith

  -- and what is behind all entries as it was before
  past : (q j : ℕ) → (q ≡ r → e ≤ j) → q ≡ r → (j < length slots) ⊎ (length slots + (e - length slots) ≤ j)
  past q j f s = inr (let l = f s in omega arith)

  far : (q j : ℕ) → (q ≡ r → e ≤ j) → q ≡ r → length slots ≤ j
  far q j f s = let l = f s in omega arith

  filled_here : Fills e r slots base before (put_room (put_room (put_room m (at_base r) base) (at_first r) (first_of (length slots))) (at_count r) (count_of (length slots)))
  unfolding rows
  filled_here = let n : ℕ = length slots in let zero_more : 0 + n ≡ n = omega arith in let k = h.entries_kept in let b = h.bounds_kept in let d = c.bounds_kept in record {
    filled = record {
      is = ap (entries m r) (sym zero_more) ∙ more_entries r 0 n slots bare m h;
      linked = λ j l. let z : 0 + j ≡ j = omega arith in let e : m.next r (0 + j) ≡ next_of (0 + j) (0 + n) = (h.are j (record { words = []; length = 0; key = 0; value = 0 }) l).2 in
          subst (λ (i : ℕ). m.next r i ≡ next_of i n) z (e ∙ ap (next_of (0 + j)) zero_more);
      count = at_room r r (count_of n) (m.count r) (λ v. v ≡ count_of n) (λ _. refl) (λ o. absurd (o refl));
      first = at_room r r (first_of n) (m.first r) (λ v. v ≡ first_of n) (λ _. refl) (λ o. absurd (o refl));
      base_is = at_room r r base (m.base r) (λ v. v ≡ base) (λ _. refl) (λ o. absurd (o refl));
      rest = λ j le l. let a = cleared_rest r n before e bare few c j le l in (k.key r j (behind r j (λ _. le)) ∙ a.0, k.value r j (behind r j (λ _. le)) ∙ a.1);
    };
    entries_kept = record {
      key = λ q j f. k.key q j (behind q j (far q j f)) ∙ c.key q j (past q j f);
      value = λ q j f. k.value q j (behind q j (far q j f)) ∙ c.value q j (past q j f);
      next = λ q j f. k.next q j (behind q j (far q j f)) ∙ ap (λ (g : ℕ → ℕ → ℕ). g q j) c.next;
    };
    counts_kept = record {
      base = λ q o. at_room q r base (m.base q) (λ v. v ≡ before.base q) (λ e. absurd (o e)) (λ _. ap (λ (f : ℕ → ℕ). f q) (h.base ∙ c.base));
      count = λ q o. at_room q r (count_of n) (m.count q) (λ v. v ≡ before.count q) (λ e. absurd (o e)) (λ _. ap (λ (f : ℕ → ℕ). f q) (h.count ∙ c.count));
      first = λ q o. at_room q r (first_of n) (m.first q) (λ v. v ≡ before.first q) (λ e. absurd (o e)) (λ _. ap (λ (f : ℕ → ℕ). f q) (h.first ∙ c.first));
    };
    bounds_kept = record { pin = b.pin ∙ d.pin; latch = b.latch ∙ d.latch; low = b.low ∙ d.low; high = b.high ∙ d.high };
  }

-- the same for a number of slots
pub fills : (e r n base : ℕ) (slots : List SortSlot) (before bare m : RoomMemory) → length slots ≡ n → n ≤ e → ClearsEntries r n (e - n) before bare → StoresSlots r 0 slots (0 + n) n bare m
    → Fills e r slots base before (put_room (put_room (put_room m (at_base r) base) (at_first r) (first_of n)) (at_count r) (count_of n))
fills e r n base slots before bare m is = subst (λ (k : ℕ). k ≤ e → ClearsEntries r k (e - k) before bare → StoresSlots r 0 slots (0 + k) k bare m → Fills e r slots base before (put_room (put_room (put_room m (at_base r) base) (at_first r) (first_of k)) (at_count r) (count_of k))) is
    (filled_here e r base slots before bare m)

-- one room was filled, and then another
pub fills_both : (all low high : ℕ) (a b : List SortSlot) (base : ℕ) (m n o : RoomMemory) → low ≢ high → Fills all low a base m n → Fills all high b base n o → FillsBoth all low high a b base m o
fills_both all low high a b base m n o apart f h = let k = h.entries_kept in let e = f.entries_kept in let kc = h.counts_kept in let ec = f.counts_kept in let x = f.filled in let away : (j : ℕ) → low ≡ high → all ≤ j = λ j s. absurd (apart s) in record {
  low_filled = record {
    is = rows_same 0 (length a) (row o low) (row n low) (λ i _ t. record { place = k.key low (0 + i) (away (0 + i)) t; value = k.value low (0 + i) (away (0 + i)) t }) ∙ x.is;
    linked = λ j l. k.next low j (away j) ∙ x.linked j l;
    count = kc.count low apart ∙ x.count;
    first = kc.first low apart ∙ x.first;
    base_is = kc.base low apart ∙ x.base_is;
    rest = λ j le l. let q = x.rest j le l in (k.key low j (away j) ∙ q.0, k.value low j (away j) ∙ q.1);
  };
  high_filled = h.filled;
  bounds_kept = record { pin = h.bounds_kept.pin ∙ f.bounds_kept.pin; latch = h.bounds_kept.latch ∙ f.bounds_kept.latch; low = h.bounds_kept.low ∙ f.bounds_kept.low; high = h.bounds_kept.high ∙ f.bounds_kept.high };
  key = λ q j u v. k.key q j (λ s. absurd (v s)) ∙ e.key q j (λ s. absurd (u s));
  value = λ q j u v. k.value q j (λ s. absurd (v s)) ∙ e.value q j (λ s. absurd (u s));
  next = λ q j u v. k.next q j (λ s. absurd (v s)) ∙ e.next q j (λ s. absurd (u s));
  base = λ q u v. kc.base q v ∙ ec.base q u;
  count = λ q u v. kc.count q v ∙ ec.count q u;
  first = λ q u v. kc.first q v ∙ ec.first q u;
}
