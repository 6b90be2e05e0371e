-- One entry more was read.
use Rattle.std.proofs.Common.{◌≡◌, ℕ, zero, suc, ◌+◌, ◌<◌, ◌==◌, ◌/◌, ◌^◌, nat_lt, max, not, Bool, true, false, cond, List, [], ◌∷◌, ◌++◌, map, take, length, get_or, set, sym, ◌∙◌, ap, refl, subst, arith, append-nil, get_or-set_other, get_or-set_same, lt-ltb}
use Rattle.std.proofs.lemmas.List.{take_more_set, map-append}
use Rattle.std.proofs.lemmas.List.Elements.{filter-append}
use Rattle.std.proofs.Math.ListN.{length-set}
use Rattle.std.specs.List.{filter}
use Rattle.std.specs.List.Sorted.{IsPermutation}
use Rattle.std.proofs.lemmas.List.Sorted.{IsPermutation-refl, IsPermutation-append_left}
use mathlib.Core.Logic.{dite}
use native.Mathlib.Decide.{ℕ_discrete}
use Rattle.oak_model.specs.Counts.{rows}
use Rattle.oak_model.proofs.Counting.{one_at-cases}
use Rattle.chunk_core.specs.Rooms.{RoomMemory}
use Rattle.chunk_core.specs.ValueWord.{names_header}
use Rattle.chunk_ops.specs.Stored.{IsStored}
use Rattle.oak_core.specs.declared.sorting.SortSlot.{SortSlot}
use Rattle.rebalance.specs.declared.entries.Entry.{Entry}
use Rattle.rebalance.specs.declared.reading.Read.{Read}
use Rattle.rebalance.specs.Dropping.{DropsKeys}
use Rattle.rebalance.specs.Entries.{entries, kept, dropped, greatest, has_value, has_word, lacks_value, linked_among}
use Rattle.rebalance.specs.Read.{HasRead}
use Rattle.rebalance.specs.Slots.{entry_of, key_of}

rows_snoc : {A : Type 0} (i n : ℕ) (f : ℕ → A) → rows i (n + 1) f ≡ rows i n f ++ f (i + n) ∷ []
unfolding rows
rows_snoc i zero f = ap (λ (k : ℕ). f k ∷ []) (let e : i ≡ i + 0 = omega arith in e)
rows_snoc i (suc n) f = ap (λ (k : ℕ). rows i k f) (let e : suc n + 1 ≡ suc (n + 1) = omega arith in e) ∙ ap (λ (xs : List _). f i ∷ xs) (rows_snoc (suc i) n f ∙ ap (λ (k : ℕ). rows (suc i) n f ++ f k ∷ []) (let e : suc i + n ≡ i + suc n = omega arith in e))

filtered : {A : Type 0} (p : A → Bool) (x : A) (b : Bool) → p x ≡ b → filter p (x ∷ []) ≡ cond b (x ∷ []) []
filtered p x b e = ap (λ (t : Bool). cond t (x ∷ []) []) e

greatest_more : (b : ℕ) (xs : List Entry) (e : Entry) → greatest b (xs ++ e ∷ []) ≡ max (greatest b xs) e.value
unfolding greatest
greatest_more b [] e = omega arith
greatest_more b (x ∷ xs) e = let h = greatest_more b xs e in omega arith

-- one slot more, and one entry more

pub front_more : (slots : List SortSlot) (k : ℕ) (s : SortSlot) (e : Entry) → entry_of s ≡ e → k < length slots → map entry_of (take (k + 1) (set slots k s)) ≡ map entry_of (take k slots) ++ e ∷ []
front_more slots k s e f lt = ap (map entry_of) (take_more_set slots k s lt) ∙ (map-append entry_of (take k slots) (s ∷ []) ∙ ap (λ (a : Entry). map entry_of (take k slots) ++ a ∷ []) f)

pub each_more : (P : SortSlot → Type 0) (slots : List SortSlot) (k : ℕ) (s : SortSlot) → k < length slots → P s → ((j : ℕ) (d : SortSlot) → j < k → P (get_or slots j d)) → (j : ℕ) (d : SortSlot) → j < k + 1 → P (get_or (set slots k s) j d)
each_more P slots k s lt here others j q l = dite (ℕ_discrete j k)
    (λ z. subst P (sym (ap (λ (c : ℕ). get_or (set slots k s) c q) z ∙ get_or-set_same slots k s q lt)) here)
    (λ z. subst P (sym (get_or-set_other slots k j s q z)) (others j q (omega arith)))

pub same_kept : (es fs xs ys : List Entry) → IsPermutation es xs → es ≡ fs → xs ≡ ys → IsPermutation fs ys
same_kept es fs xs ys p a b = subst (λ (ls : List Entry). IsPermutation ls ys) a (subst (IsPermutation es) b p)

more_kept : (es fs xs ys : List Entry) (e : Entry) → IsPermutation es xs → es ++ e ∷ [] ≡ fs → xs ++ e ∷ [] ≡ ys → IsPermutation fs ys
more_kept es fs xs ys e p a b = same_kept (es ++ e ∷ []) fs (xs ++ e ∷ []) ys (IsPermutation-append_left (e ∷ []) es xs p) a b

-- the top bit of the value word is set with a value, and else not

pub has_top : (e : Entry) → has_value e ≡ true → names_header e.value ≡ 1
unfolding names_header
has_top e = one_at-cases (e.value / 2 ^ 63) 1 (λ (n : ℕ). (n == 1) ≡ true → n ≡ 1) (λ _ _. refl) (λ _ f. absurd cc)

pub lacks_top : (e : Entry) → has_value e ≡ false → names_header e.value ≡ 0
unfolding names_header
lacks_top e = one_at-cases (e.value / 2 ^ 63) 1 (λ (n : ℕ). (n == 1) ≡ false → n ≡ 0) (λ _ f. absurd cc) (λ _ _. refl)

-- the next entry has its words yet
pub entry_here : (r i : ℕ) (m now : RoomMemory) (e : Entry) → DropsKeys r i m now → e.place ≡ now.key r i → e.value ≡ now.value r i → e ≡ record { place = m.key r i; value = m.value r i }
entry_here r i m now e h p v = let a : e.place ≡ m.key r i = p ∙ h.others r i (λ _. omega arith) in let b : e.value ≡ m.value r i = v ∙ ap (λ (f : ℕ → ℕ → ℕ). f r i) h.value in λ t. record { place = a t; value = b t }

module _ (m : RoomMemory) (r i : ℕ) (e : Entry) (is : e ≡ record { place = m.key r i; value = m.value r i }) where
  entries_more : entries m r (i + 1) ≡ entries m r i ++ e ∷ []
  entries_more = rows_snoc 0 i (λ (k : ℕ). let x : Entry = record { place = m.key r k; value = m.value r k } in x)
      ∙ ap (λ (x : Entry). entries m r i ++ x ∷ []) (ap (λ (k : ℕ). let x : Entry = record { place = m.key r k; value = m.value r k } in x) (let f : 0 + i ≡ i = omega arith in f) ∙ sym is)

  -- the linked ones, with one entry more

  linked_yes : 0 < e.place → linked_among m r (i + 1) ≡ linked_among m r i ++ e ∷ []
  linked_yes l = ap (filter has_word) entries_more ∙ (filter-append has_word (entries m r i) (e ∷ []) ∙ ap (λ (xs : List Entry). linked_among m r i ++ xs) (filtered has_word e true (lt-ltb 0 e.place l)))

  linked_no : e.place ≡ 0 → linked_among m r (i + 1) ≡ linked_among m r i
  linked_no z = ap (filter has_word) entries_more ∙ (filter-append has_word (entries m r i) (e ∷ []) ∙ (ap (λ (xs : List Entry). linked_among m r i ++ xs) (filtered has_word e false (ap (nat_lt 0) z)) ∙ append-nil (linked_among m r i)))

  -- those kept and those dropped

  pub kept_yes : 0 < e.place → has_value e ≡ true → kept (linked_among m r (i + 1)) ≡ kept (linked_among m r i) ++ e ∷ []
  kept_yes l h = let es : List Entry = linked_among m r i in ap kept (linked_yes l) ∙ (filter-append has_value es (e ∷ []) ∙ ap (λ (xs : List Entry). kept es ++ xs) (filtered has_value e true h))

  pub kept_no : 0 < e.place → has_value e ≡ false → kept (linked_among m r (i + 1)) ≡ kept (linked_among m r i)
  kept_no l h = let es : List Entry = linked_among m r i in ap kept (linked_yes l) ∙ (filter-append has_value es (e ∷ []) ∙ (ap (λ (xs : List Entry). kept es ++ xs) (filtered has_value e false h) ∙ append-nil (kept es)))

  pub dropped_yes : 0 < e.place → has_value e ≡ false → dropped (linked_among m r (i + 1)) ≡ dropped (linked_among m r i) ++ e ∷ []
  dropped_yes l h = let es : List Entry = linked_among m r i in ap dropped (linked_yes l) ∙ (filter-append lacks_value es (e ∷ []) ∙ ap (λ (xs : List Entry). dropped es ++ xs) (filtered lacks_value e true (ap not h)))

  pub dropped_no : 0 < e.place → has_value e ≡ true → dropped (linked_among m r (i + 1)) ≡ dropped (linked_among m r i)
  dropped_no l h = let es : List Entry = linked_among m r i in ap dropped (linked_yes l) ∙ (filter-append lacks_value es (e ∷ []) ∙ (ap (λ (xs : List Entry). dropped es ++ xs) (filtered lacks_value e false (ap not h)) ∙ append-nil (dropped es)))

  -- one that is not linked is neither
  pub dropped_none : e.place ≡ 0 → dropped (linked_among m r (i + 1)) ≡ dropped (linked_among m r i)
  dropped_none z = ap dropped (linked_no z)

  module _ (keys : ℕ → List ℕ) (b : ℕ) (slots : List SortSlot) (x y : Read) (h : HasRead keys m r b i slots x) where
    -- the entry came to the next slot
    pub read_kept : (s : SortSlot) → entry_of s ≡ e → 0 < s.key → 0 < e.place → IsStored (key_of s) (keys s.key) → has_value e ≡ true → x.kept < length slots → y.kept ≡ x.kept + 1 → y.dropped ≡ x.dropped → y.base ≡ x.base → HasRead keys m r b (i + 1) (set slots x.kept s) y
    read_kept s f pos word t v lt k d o = let many = h.many in let n = length-set slots x.kept s in record {
      many = omega arith;
      fits = omega arith;
      front = more_kept (kept (linked_among m r i)) (kept (linked_among m r (i + 1))) (map entry_of (take x.kept slots)) (map entry_of (take y.kept (set slots x.kept s))) e h.front (sym (kept_yes word v)) (sym (ap (λ (n : ℕ). map entry_of (take n (set slots x.kept s))) k ∙ front_more slots x.kept s e f lt));
      named = λ j q l. each_more (λ (a : SortSlot). 0 < a.key) slots x.kept s lt pos h.named j q (omega arith);
      stored = λ j q l. each_more (λ (a : SortSlot). IsStored (key_of a) (keys a.key)) slots x.kept s lt t h.stored j q (omega arith);
      base = o ∙ (h.base ∙ ap (greatest b) (sym (dropped_no word v)));
    }

    -- the entry was dropped
    pub read_dropped : 0 < e.place → has_value e ≡ false → y.kept ≡ x.kept → y.dropped ≡ x.dropped + 1 → y.base ≡ max x.base e.value → HasRead keys m r b (i + 1) slots y
    read_dropped word v k d o = let many = h.many in let sf = h.fits in record {
      many = omega arith;
      fits = omega arith;
      front = same_kept (kept (linked_among m r i)) (kept (linked_among m r (i + 1))) (map entry_of (take x.kept slots)) (map entry_of (take y.kept slots)) h.front (sym (kept_no word v)) (ap (λ (n : ℕ). map entry_of (take n slots)) (sym k));
      named = λ j q l. h.named j q (omega arith);
      stored = λ j q l. h.stored j q (omega arith);
      base = o ∙ (ap (λ (n : ℕ). max n e.value) h.base ∙ (sym (greatest_more b (dropped (linked_among m r i)) e) ∙ ap (greatest b) (sym (dropped_yes word v))));
    }

    -- the entry is not linked
    pub read_skipped : e.place ≡ 0 → y.kept ≡ x.kept → y.dropped ≡ x.dropped + 1 → y.base ≡ x.base → HasRead keys m r b (i + 1) slots y
    read_skipped z k d o = let many = h.many in let sf = h.fits in record {
      many = omega arith;
      fits = omega arith;
      front = same_kept (kept (linked_among m r i)) (kept (linked_among m r (i + 1))) (map entry_of (take x.kept slots)) (map entry_of (take y.kept slots)) h.front (ap kept (sym (linked_no z))) (ap (λ (n : ℕ). map entry_of (take n slots)) (sym k));
      named = λ j q l. h.named j q (omega arith);
      stored = λ j q l. h.stored j q (omega arith);
      base = o ∙ (h.base ∙ ap (greatest b) (sym (dropped_none z)));
    }

-- before the first entry
pub read_none : (keys : ℕ → List ℕ) (m : RoomMemory) (r b : ℕ) (slots : List SortSlot) (x : Read) → x.kept ≡ 0 → x.dropped ≡ 0 → x.base ≡ b → HasRead keys m r b 0 slots x
unfolding greatest rows
read_none keys m r b slots x k d o = record {
  many = omega arith;
  fits = omega arith;
  front = subst (IsPermutation []) (ap (λ (n : ℕ). map entry_of (take n slots)) (sym k)) (IsPermutation-refl []);
  named = λ j q l. absurd (omega arith);
  stored = λ j q l. absurd (omega arith);
  base = o;
}
