-- A held room that was compacted has the entries of its range still, without those that were dropped.
use Rattle.std.proofs.Common.{◌≡◌, ℕ, ◌<◌, ◌≤◌, List, [], map, length, sym, ◌∙◌, ap, refl, subst, arith}
use Rattle.std.specs.Prelude.{slice_index}
use Rattle.std.specs.List.Sorted.{IsPermutation}
use Rattle.std.proofs.lemmas.List.{length-map}
use Rattle.oak_model.specs.declared.limits.TheConstants.{GREATEST_ENTRIES}
use Rattle.oak_model.specs.Counts.{rows, total, Each, Has}
use Rattle.oak_model.specs.Limits.{Sizes}
use Rattle.oak_model.proofs.Lists.{rows_length}
use Rattle.oak_model.proofs.RowLaws.{each_rows}
use Rattle.chunk_core.specs.declared.holds.Carried.{Carried}
use Rattle.chunk_core.specs.declared.holds.EntryWords.{EntryWords}
use Rattle.chunk_core.specs.declared.holds.MovingRange.{MovingRange}
use Rattle.chunk_core.specs.declared.layout.TheConstants.{BOUND_WORDS}
use Rattle.chunk_core.specs.LinkedEntries.{entries_in, reached, Rises}
use Rattle.chunk_core.specs.RoomCopies.{next_held, word_held}
use Rattle.chunk_core.specs.RoomReads.{copy_at}
use Rattle.chunk_core.specs.RoomRule.{AreBounds}
use Rattle.chunk_core.specs.Rooms.{RoomMemory}
use Rattle.chunk_core.proofs.EntryNumbers.{few_entries}
use Rattle.chunk_core.proofs.WholeChains.{rises_rows, whole_chain}
use Rattle.oak_core.specs.declared.sorting.SortSlot.{SortSlot}
use Rattle.rebalance.specs.declared.entries.Entry.{Entry}
use Rattle.rebalance.specs.CarriedKeys.{HasKey, HaveKeys}
use Rattle.rebalance.specs.Compacted.{linked_in, KeysRise}
use Rattle.rebalance.specs.DroppedRange.{sum_of, sum_carried, dropped_range, WordsDiffer}
use Rattle.rebalance.specs.Dropping.{DropsKeys}
use Rattle.rebalance.specs.Copies.{AllLinked, reached_in}
use Rattle.rebalance.specs.Entries.{entries, greatest, has_word, kept, dropped}
use Rattle.rebalance.specs.Filled.{IsFilled, Fills}
use Rattle.rebalance.specs.Mirrors.{Mirrors, RangeStands, carried_key}
use Rattle.rebalance.specs.SlotRanges.{SlotsHave, BoundsAre}
use Rattle.rebalance.specs.Slots.{entry_of}
use Rattle.rebalance.proofs.DroppedRange.{parted_sum}
use Rattle.rebalance.proofs.FilledChains.{filled_chained}
use Rattle.rebalance.proofs.FilledCopies.{copied_sum, copied_word, filled_key, filled_linked, filled_many, filled_prefix, filled_sum, filled_rises, permuted_total, length_total}
use Rattle.rebalance.proofs.LinkedCopies.{linked_are}
use Rattle.rebalance.proofs.MirroredEntries.{drops, kept_left, all_valued}
use Rattle.rebalance.proofs.PassedOnes.{fewer_pass}
use Rattle.rebalance.proofs.SlotKeys.{slot_carried}

-- Each entry of a room that was filled with the entries of a range is linked.
pub slots_linked : (z : Sizes) (m : RoomMemory) (r : ℕ) (xs : List SortSlot) (base : ℕ) (g : MovingRange) (keys : ℕ → List ℕ) → z.entries ≤ GREATEST_ENTRIES → IsFilled z.entries r xs base m → length xs ≤ z.entries → SlotsHave keys xs g → AllLinked (copy_at z m r)
slots_linked z m r xs base g keys limit filled few slots = filled_linked z m r xs base filled few limit (λ i d l. let t = slot_carried keys xs g slots i d l in let k = t.3.named.some_word in let w = t.2 in omega arith)

-- Links reach them in turn, and their keys rise.
module _ (z : Sizes) (m : RoomMemory) (r : ℕ) (xs : List SortSlot) (base : ℕ) (limit : z.entries ≤ GREATEST_ENTRIES) (filled : IsFilled z.entries r xs base m) (few : length xs ≤ z.entries) where
  filled_reached : reached_in (copy_at z m r) ≡ rows 0 (entries_in (m.count r)) (λ j. j)
  filled_reached = let chained = filled_chained z m r xs base filled few limit in ap (reached (next_held (copy_at z m r))) chained.begins ∙ whole_chain (entries_in (m.count r)) (next_held (copy_at z m r)) chained.links chained.ends (few_entries (m.count r))

  filled_used : Each (λ i. i < entries_in (m.count r)) (reached_in (copy_at z m r))
  filled_used = subst (Each (λ i. i < entries_in (m.count r))) (sym filled_reached) (each_rows (λ i. i < entries_in (m.count r)) 0 (entries_in (m.count r)) (λ j. j) (λ k _ l. omega arith))

  filled_along : (g : MovingRange) (keys : ℕ → List ℕ) → SlotsHave keys xs g → (f : ℕ → ℕ) → ((c : Carried) → Has c g.carried → f c.word ≡ carried_key c) → Rises (λ i. f (word_held (copy_at z m r) i)) (reached_in (copy_at z m r))
  filled_along g keys slots f is = let n : ℕ = entries_in (m.count r) in let many = filled_many z m r xs base filled few limit in subst (Rises (λ i. f (word_held (copy_at z m r) i))) (sym filled_reached)
      (rises_rows (λ i. f (word_held (copy_at z m r) i)) n 0 n (λ i j lt l. let c = at i (omega arith) in let d = at j (omega arith) in let a = is c.0 c.1 in let b = is d.0 d.1 in let p = ap f c.2 in let q = ap f d.2 in
      let rise = filled_rises z m r xs base filled few limit keys slots.rise i j c.0 d.0 lt (omega arith) c.3 d.3 c.2 d.2 in omega arith) (omega arith))
    where
      at : (i : ℕ) → i < length xs → (c : Carried) × Has c g.carried × (c.word ≡ word_held (copy_at z m r) i) × HasKey keys c
      at i l = let s : SortSlot = record { words = []; length = 0; key = 0; value = 0 } in let t = slot_carried keys xs g slots i s l in (t.0, t.1, t.2 ∙ (sym (filled_key z m r xs base filled few limit i s l) ∙ sym (copied_word z m r i (omega arith))), t.3)

-- A room that was filled with the entries of a range mirrors it.
pub filled_mirrors : (z : Sizes) (m : RoomMemory) (r : ℕ) (xs : List SortSlot) (base : ℕ) (g : MovingRange) (keys : ℕ → List ℕ) → z.entries ≤ GREATEST_ENTRIES → IsFilled z.entries r xs base m → length xs ≤ z.entries → base ≡ g.base → BoundsAre m r g → SlotsHave keys xs g → Mirrors z (copy_at z m r) g
filled_mirrors z m r xs base g keys limit filled few base_is bounds slots = let many = filled_many z m r xs base filled few limit in let prefix = filled_prefix z m r xs base filled few limit in record {
  base = filled.base_is ∙ base_is;
  low = bounds.low;
  high = bounds.high;
  latch = bounds.latch;
  few = omega arith;
  prefix = omega arith;
  entries = λ f. ap (total (λ (e : EntryWords). f e.word e.value)) (linked_are (copy_at z m r) (slots_linked z m r xs base g keys limit filled few slots)) ∙ (filled_sum z m r xs base filled few limit f ∙ slots.sums f);
  bounds = subst (λ (p : List ℕ × List ℕ). AreBounds (slice_index p.0 0) (slice_index p.1 0)) (λ t. (sym bounds.low t, sym bounds.high t)) bounds.fit;
  sorted = λ i j c d lt l ch dh ci dj. filled_rises z m r xs base filled few limit keys slots.rise i j c d lt (omega arith) (slots.have c ch (slots.valued c ch)) (slots.have d dh (slots.valued d dh)) ci dj;
  used = filled_used z m r xs base limit filled few;
  along = filled_along z m r xs base limit filled few g keys slots;
}

-- A room that mirrors a range has its bounds.
pub bounds_of : (z : Sizes) (m : RoomMemory) (r : ℕ) (g : MovingRange) → Mirrors z (copy_at z m r) g → BoundsAre m r g
bounds_of z m r g mirrors = record {
  low = mirrors.low;
  high = mirrors.high;
  latch = mirrors.latch;
  fit = subst (λ (p : List ℕ × List ℕ). AreBounds (slice_index p.0 0) (slice_index p.1 0)) (λ t. (mirrors.low t, mirrors.high t)) mirrors.bounds;
}

-- It has them still where these words are as they were, and so has one with the bounds of another range that has the same.
pub bounds_still : (m n : RoomMemory) (r : ℕ) (g h : MovingRange) → BoundsAre m r g → n.low r ≡ m.low r → n.high r ≡ m.high r → n.latch r ≡ m.latch r → h.low ≡ g.low → h.high ≡ g.high → BoundsAre n r h
bounds_still m n r g h b low high latch lows highs = record {
  low = ap (rows 0 BOUND_WORDS) low ∙ (b.low ∙ sym lows);
  high = ap (rows 0 BOUND_WORDS) high ∙ (b.high ∙ sym highs);
  latch = latch ∙ b.latch;
  fit = subst (λ (p : List ℕ × List ℕ). AreBounds (slice_index p.0 0) (slice_index p.1 0)) (λ t. (sym lows t, sym highs t)) b.fit;
}

-- A room that mirrors the range g, whose slots have its entries with a value.
module _ (z : Sizes) (m : RoomMemory) (r : ℕ) (g : MovingRange) (mirrors : Mirrors z (copy_at z m r) g) (stands : RangeStands g) (differ : WordsDiffer g) where
  -- what is added up over its linked entries
  pub used_sum : (f : ℕ → ℕ → ℕ) → sum_of f (linked_in m r) ≡ sum_carried f g.carried
  used_sum f = sym (copied_sum z m r f mirrors.few) ∙ mirrors.entries f

  module _ (keys : ℕ → List ℕ) (have : HaveKeys keys g.carried) (xs : List SortSlot) (same : IsPermutation (kept (linked_in m r)) (map entry_of xs)) where
    -- they have what is left of the range
    pub slots_have : KeysRise keys xs → SlotsHave keys xs (dropped_range (dropped (linked_in m r)) g)
    slots_have rise = record {
      sums = λ f. permuted_total (λ (e : Entry). f e.place e.value) (kept (linked_in m r)) (map entry_of xs) same ∙ kept_left (linked_in m r) g stands differ used_sum f;
      rise = rise;
      have = λ c h. have c ((drops (linked_in m r) g stands differ used_sum).some c h);
      valued = all_valued (linked_in m r) g stands differ used_sum;
    }

    -- they are no more than the room has
    pub slots_few : length xs ≤ z.entries
    slots_few = let a = permuted_total (λ (e : Entry). 1) (kept (linked_in m r)) (map entry_of xs) same in let b = length_total (map entry_of xs) in let c = length-map xs entry_of in
        let d = parted_sum (λ w v. 1) (linked_in m r) in let e = length_total (linked_in m r) in let p = fewer_pass has_word (entries m r (entries_in (m.count r))) in let l = rows_length 0 (entries_in (m.count r)) (λ (i : ℕ). let y : Entry = record { place = m.key r i; value = m.value r i } in y) in
        let few = mirrors.few in omega arith

    -- the base that was read is that of what is left
    pub read_base : (base : ℕ) → base ≡ greatest (m.base r) (dropped (linked_in m r)) → base ≡ (dropped_range (dropped (linked_in m r)) g).base
    read_base base is = is ∙ (ap (λ (b : ℕ). greatest b (dropped (linked_in m r))) mirrors.base ∙ sym (drops (linked_in m r) g stands differ used_sum).base)

    -- and the room has its bounds
    pub read_bounds : (n : ℕ) (m1 : RoomMemory) → DropsKeys r n m m1 → BoundsAre m1 r (dropped_range (dropped (linked_in m r)) g)
    read_bounds n m1 gone = let d = drops (linked_in m r) g stands differ used_sum in
        bounds_still m m1 r g (dropped_range (dropped (linked_in m r)) g) (bounds_of z m r g mirrors) (ap (λ (f : ℕ → ℕ → ℕ). f r) gone.low) (ap (λ (f : ℕ → ℕ → ℕ). f r) gone.high) (ap (λ (f : ℕ → ℕ). f r) gone.latch) d.low d.high

    -- the room is filled with them, in the order of their keys
    pub compacted_mirrors : (base n : ℕ) (m1 m2 : RoomMemory) → z.entries ≤ GREATEST_ENTRIES → KeysRise keys xs → base ≡ greatest (m.base r) (dropped (linked_in m r)) → DropsKeys r n m m1 → Fills z.entries r xs base m1 m2 → Mirrors z (copy_at z m2 r) (dropped_range (dropped (linked_in m r)) g)
    compacted_mirrors base n m1 m2 limit rise base_is gone fills = let g1 : MovingRange = dropped_range (dropped (linked_in m r)) g in let b = fills.bounds_kept in
        filled_mirrors z m2 r xs base g1 keys limit fills.filled slots_few (read_base base base_is)
        (bounds_still m1 m2 r g1 g1 (read_bounds n m1 gone) (ap (λ (f : ℕ → ℕ → ℕ). f r) b.low) (ap (λ (f : ℕ → ℕ → ℕ). f r) b.high) (ap (λ (f : ℕ → ℕ). f r) b.latch) refl refl) (slots_have rise)
