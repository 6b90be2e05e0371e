-- Two held rooms with neighbouring ranges: the one that has the entries of both mirrors what the ranges are together.
use Rattle.std.proofs.Common.{◌≡◌, ℕ, ◌+◌, ◌-◌, ◌<◌, ◌≤◌, true, List, ◌++◌, map, length, sym, refl, ap, ◌∙◌, subst, ⊎_elim, arith, length-append}
use Rattle.std.specs.List.{slice_index_or}
use Rattle.std.proofs.lemmas.List.{map-append, get_or_append_left, get_or-append_right}
use mathlib.Core.Logic.{dite}
use native.Mathlib.Decide.{dec_lt}
use Rattle.oak_model.specs.declared.limits.TheConstants.{GREATEST_ENTRIES}
use Rattle.oak_model.specs.Counts.{Has}
use Rattle.oak_model.specs.Key.{AreBytes, IsKey, IsKeyBefore}
use Rattle.oak_model.specs.KeyNumber.{key_number}
use Rattle.oak_model.specs.Limits.{Sizes}
use Rattle.oak_model.proofs.Counting.{total_append}
use Rattle.oak_model.proofs.NumberLaws.{key_before_is}
use Rattle.oak_model.proofs.RowLaws.{rows_same}
use Rattle.chunk_core.specs.declared.holds.Carried.{Carried}
use Rattle.chunk_core.specs.declared.holds.MovingRange.{MovingRange}
use Rattle.chunk_core.specs.declared.layout.TheConstants.{BOUND_WORDS}
use Rattle.chunk_core.specs.KeyWords.{low_number}
use Rattle.chunk_core.specs.MovingRanges.{greater, is_below, joined_by}
use Rattle.chunk_core.specs.RoomReads.{copy_at, words_at}
use Rattle.chunk_core.specs.Rooms.{RoomMemory}
use Rattle.chunk_core.specs.ValueWord.{names_header}
use Rattle.oak_core.specs.declared.sorting.SortSlot.{SortSlot}
use Rattle.rebalance.specs.declared.entries.Entry.{Entry}
use Rattle.rebalance.specs.DroppedRange.{sum_of}
use Rattle.rebalance.specs.Entries.{entries}
use Rattle.rebalance.specs.Filled.{AreBare, IsFilled, Appends, count_of, first_of, next_of}
use Rattle.rebalance.specs.Mirrors.{Mirrors, RangeStands, range_span}
use Rattle.rebalance.specs.SlotRanges.{SlotsHave, BoundsAre}
use Rattle.rebalance.specs.Slots.{entry_of}
use Rattle.rebalance.proofs.CompactedMirrors.{filled_mirrors}
use Rattle.rebalance.proofs.JoinedRanges.{has_parts, below_is, within_high}
use Rattle.rebalance.proofs.SlotKeys.{slot_carried, slot_inside, within_low}

-- A room none of whose words changed has the same copy.
pub copy_still : (z : Sizes) (m n : RoomMemory) (r : ℕ) → n.base r ≡ m.base r → n.count r ≡ m.count r → n.latch r ≡ m.latch r → n.first r ≡ m.first r → ((j : ℕ) → n.low r j ≡ m.low r j) → ((j : ℕ) → n.high r j ≡ m.high r j)
    → ((j : ℕ) → n.key r j ≡ m.key r j) → ((j : ℕ) → n.value r j ≡ m.value r j) → ((j : ℕ) → n.next r j ≡ m.next r j) → copy_at z n r ≡ copy_at z m r
copy_still z m n r base count latch first low high key value next = let lows = rows_same 0 BOUND_WORDS (n.low r) (m.low r) (λ j _ _. low j) in let highs = rows_same 0 BOUND_WORDS (n.high r) (m.high r) (λ j _ _. high j) in
    let all = rows_same 0 z.entries (words_at n r) (words_at m r) (λ j _ _ t. record { word = key j t; value = value j t; next = next j t }) in λ t. record { base = base t; count = count t; latch = latch t; first = first t; low = lows t; high = highs t; entries = all t }

-- Slots have a range's entries still where keys are told otherwise, of each entry the same.
pub slots_still : (keys other : ℕ → List ℕ) (xs : List SortSlot) (g : MovingRange) → SlotsHave keys xs g → ((c : Carried) → Has c g.carried → names_header c.value ≡ 1 → other c.word ≡ keys c.word) → SlotsHave other xs g
slots_still keys other xs g s same = record {
  sums = s.sums;
  rise = λ i j d lt l. let a = slot_carried keys xs g s i d (omega arith) in let b = slot_carried keys xs g s j d l in
      let at : other (slice_index_or xs i d).key ≡ keys (slice_index_or xs i d).key = ap other (sym a.2) ∙ (same a.0 a.1 (s.valued a.0 a.1) ∙ ap keys a.2) in
      let at2 : other (slice_index_or xs j d).key ≡ keys (slice_index_or xs j d).key = ap other (sym b.2) ∙ (same b.0 b.1 (s.valued b.0 b.1) ∙ ap keys b.2) in
      subst (λ (p : List ℕ × List ℕ). IsKeyBefore p.0 p.1) (λ t. (sym at t, sym at2 t)) (s.rise i j d lt l);
  have = λ c h v. let k = s.have c h v in let e = same c h v in record {
    is = e ∙ k.is;
    named = let n = k.named in record {
      some_word = n.some_word;
      long = n.long ∙ ap length (sym e);
      key = subst IsKey (sym e) n.key;
      bytes = subst AreBytes (sym e) n.bytes;
    };
  };
  valued = s.valued;
}

-- The slots of the lower range and then those of the upper one have the entries of both.
pub joined_slots : (keys : ℕ → List ℕ) (ys xs : List SortSlot) (g h : MovingRange) → RangeStands g → RangeStands h → is_below g h ≡ true → SlotsHave keys ys h → SlotsHave keys xs g → SlotsHave keys (ys ++ xs) (joined_by g h)
joined_slots keys ys xs g h stands_g stands_h below lower upper = record {
  sums = λ f. let a = ap (sum_of f) (map-append entry_of ys xs) in let b = total_append (λ (e : Entry). f e.place e.value) (map entry_of ys) (map entry_of xs) in let c = total_append (λ (x : Carried). f x.word x.value) h.carried g.carried in let p = lower.sums f in let q = upper.sums f in omega arith;
  rise = λ i j d lt l. let n = length-append ys xs in dite (dec_lt j (length ys))
      (λ both. before (sym (get_or_append_left ys xs d i (omega arith))) (sym (get_or_append_left ys xs d j both)) (lower.rise i j d lt both))
      (λ far. dite (dec_lt i (length ys))
      (λ near. before (sym (get_or_append_left ys xs d i near)) (sym (get_or-append_right ys xs (length ys) j d refl (omega arith))) (across i (j - length ys) d near (omega arith)))
      (λ away. before (sym (get_or-append_right ys xs (length ys) i d refl (omega arith))) (sym (get_or-append_right ys xs (length ys) j d refl (omega arith))) (upper.rise (i - length ys) (j - length ys) d (omega arith) (omega arith))));
  have = λ c m v. ⊎_elim (λ (a : Has c h.carried). lower.have c a v) (λ (a : Has c g.carried). upper.have c a v) (has_parts c h.carried g.carried m);
  valued = λ c m. ⊎_elim (λ (a : Has c h.carried). lower.valued c a) (λ (a : Has c g.carried). upper.valued c a) (has_parts c h.carried g.carried m);
}
  where
    before : {s t u v : SortSlot} → s ≡ u → t ≡ v → IsKeyBefore (keys s.key) (keys t.key) → IsKeyBefore (keys u.key) (keys v.key)
    before a b k = subst (λ (p : SortSlot × SortSlot). IsKeyBefore (keys p.0.key) (keys p.1.key)) (λ t. (a t, b t)) k

    across : (i j : ℕ) (d : SortSlot) → i < length ys → j < length xs → IsKeyBefore (keys (slice_index_or ys i d).key) (keys (slice_index_or xs j d).key)
    across i j d li lj = let a = slot_carried keys ys h lower i d li in let b = slot_carried keys xs g upper j d lj in
        let p = within_high (range_span h) (low_number g.low) (key_number (keys (slice_index_or ys i d).key)) (below_is g h stands_g stands_h below) (slot_inside keys ys h lower stands_h i d li) in
        let q = within_low (range_span g) (key_number (keys (slice_index_or xs j d).key)) (slot_inside keys xs g upper stands_g j d lj) in
        key_before_is (keys (slice_index_or ys i d).key) (keys (slice_index_or xs j d).key) (subst (λ (w : ℕ). AreBytes (keys w)) a.2 a.3.named.bytes) (subst (λ (w : ℕ). AreBytes (keys w)) b.2 b.3.named.bytes)
        (subst (λ (w : ℕ). IsKey (keys w)) a.2 a.3.named.key) (subst (λ (w : ℕ). IsKey (keys w)) b.2 b.3.named.key) (omega arith)

-- A room with the lower one's low bound and the upper one's high bound has those of both together.
pub joined_bounds : (m n : RoomMemory) (low high : ℕ) (g h : MovingRange) → BoundsAre m low h → BoundsAre m high g → ((j : ℕ) → j < BOUND_WORDS → n.low low j ≡ m.low low j) → ((j : ℕ) → j < BOUND_WORDS → n.high low j ≡ m.high high j) → n.latch low ≡ m.latch low → BoundsAre n low (joined_by g h)
joined_bounds m n low high g h lower upper lows highs latch = let a = lower.fit in let b = upper.fit in record {
  low = rows_same 0 BOUND_WORDS (n.low low) (m.low low) (λ j _ lt. lows j (omega arith)) ∙ lower.low;
  high = rows_same 0 BOUND_WORDS (n.high low) (m.high high) (λ j _ lt. highs j (omega arith)) ∙ upper.high;
  latch = latch ∙ lower.latch;
  fit = record { low_fits = a.low_fits; high_fits = b.high_fits };
}

-- Behind a room's own entries those of the slots were stored.
pub appended_filled : (e r : ℕ) (ys xs : List SortSlot) (base : ℕ) (m n : RoomMemory) → entries m r (length ys) ≡ map entry_of ys → AreBare e r (length ys) m → Appends r (length ys) xs base m n → IsFilled e r (ys ++ xs) base n
appended_filled all r ys xs base m n own bare a = let e : length ys + length xs ≡ length (ys ++ xs) = sym (length-append ys xs) in record {
  is = ap (entries n r) (sym e) ∙ (a.is ∙ (ap (λ (es : List Entry). es ++ map entry_of xs) own ∙ sym (map-append entry_of ys xs)));
  linked = λ j l. a.linked.linked j (omega arith) ∙ ap (next_of j) e;
  count = a.count ∙ ap count_of e;
  first = a.linked.first ∙ ap first_of e;
  base_is = a.base_is;
  rest = λ j le l. let b = bare j (omega arith) l in (a.entries_kept.key r j (λ _. omega arith) ∙ b.0, a.entries_kept.value r j (λ _. omega arith) ∙ b.1);
}

-- The lower room, with the slots of both ranges, their bounds and the greater base, mirrors them together.
pub merged_mirrors : (z : Sizes) (n : RoomMemory) (r : ℕ) (keys : ℕ → List ℕ) (ys xs : List SortSlot) (g h : MovingRange) (base : ℕ) → z.entries ≤ GREATEST_ENTRIES → RangeStands g → RangeStands h → is_below g h ≡ true → SlotsHave keys ys h → SlotsHave keys xs g
    → IsFilled z.entries r (ys ++ xs) base n → length ys + length xs ≤ z.entries → base ≡ greater g.base h.base → BoundsAre n r (joined_by g h) → Mirrors z (copy_at z n r) (joined_by g h)
merged_mirrors z n r keys ys xs g h base limit stands_g stands_h below lower upper filled few base_is bounds = filled_mirrors z n r (ys ++ xs) base (joined_by g h) keys limit filled (let e = length-append ys xs in omega arith) base_is bounds (joined_slots keys ys xs g h stands_g stands_h below lower upper)
