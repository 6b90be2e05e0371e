-- What a compaction makes of the room that the pass came to hold last, and of its range.
use Rattle.std.proofs.Common.{◌≡◌, ℕ, ◌+◌, ◌*◌, ◌≤◌, ◌==◌, false, not, cond, List, [], ◌∷◌, map, length, take, refl, sym, ap, ◌∙◌, arith, length-take-le, ◌&&◌}
use Rattle.std.proofs.lemmas.List.{length-map}
use Rattle.std.specs.List.{filter}
use Rattle.oak_model.specs.Counts.{rows, total, Each}
use Rattle.oak_model.specs.Limits.{Sizes}
use Rattle.oak_model.specs.declared.limits.TheConstants.{GREATEST_ENTRIES}
use Rattle.oak_model.proofs.Counting.{test-cases}
use Rattle.oak_model.proofs.SumLaws.{times-none, times-one}
use Rattle.chunk_core.specs.declared.layout.TheConstants.{BOUND_WORDS}
use Rattle.chunk_core.specs.declared.holds.Carried.{Carried}
use Rattle.chunk_core.specs.declared.holds.EntryWords.{EntryWords}
use Rattle.chunk_core.specs.declared.holds.HeldRoom.{HeldRoom}
use Rattle.chunk_core.specs.declared.holds.MovingRange.{MovingRange}
use Rattle.chunk_core.specs.declared.holds.RoomCopy.{RoomCopy}
use Rattle.chunk_core.specs.LinkedEntries.{entries_in}
use Rattle.chunk_core.specs.MovingRanges.{base_with, greater, is_dropped, range_without}
use Rattle.chunk_core.specs.RoomReads.{copy_at}
use Rattle.chunk_core.specs.Rooms.{RoomMemory}
use Rattle.chunk_core.specs.ValueWord.{names_header}
use Rattle.oak_core.specs.declared.sorting.SortSlot.{SortSlot}
use Rattle.oak_core.specs.declared.states.PassState.{PassState}
use Rattle.rebalance.specs.declared.entries.Entry.{Entry}
use Rattle.rebalance.specs.declared.reading.Read.{Read}
use Rattle.rebalance.specs.Copies.{entries_of, linked_held, values_in}
use Rattle.rebalance.specs.Chunks.{HoldsFront, IsRewritten, keys_in}
use Rattle.rebalance.specs.Compacted.{IsCompacted, ReadsSorted, linked_in}
use Rattle.rebalance.specs.DroppedRange.{dropped_range, range_with, sum_of}
use Rattle.rebalance.specs.Entries.{dropped, kept, has_value, greatest}
use Rattle.rebalance.specs.HeldRooms.{AllValued}
use Rattle.rebalance.specs.Mirrors.{Mirrors, held_memory}
use Rattle.rebalance.specs.SlotRanges.{SlotsHave}
use Rattle.rebalance.specs.Slots.{entry_of}
use Rattle.rebalance.proofs.CompactedMirrors.{compacted_mirrors, slots_few, slots_have, slots_linked}
use Rattle.rebalance.proofs.DroppedRange.{named-cases, total_filter}
use Rattle.rebalance.proofs.FilledCopies.{copied_entries, copied_sum, filled_many, filled_prefix, filled_sum, length_total, permuted_total}
use Rattle.rebalance.proofs.FrontRooms.{front_differ, front_keys, front_mirrors, front_stands, front_words}

-- an entry with a value goes with no key word
pub none_dropped : (word : ℕ) (c : Carried) → names_header c.value ≡ 1 → is_dropped word c ≡ false
none_dropped word c e = ap (λ (n : ℕ). (c.word == word) && (n == 0)) e ∙ test-cases (c.word == word) (λ b. (b && false) ≡ false) (λ _. refl) (λ _. refl)

-- so none of a range does where each has one, and its base stays
pub valued_kept : (word : ℕ) (cs : List Carried) → Each (λ (c : Carried). names_header c.value ≡ 1) cs → filter (λ c. not (is_dropped word c)) cs ≡ cs
valued_kept word [] all = refl
valued_kept word (c ∷ cs) all = (λ i. cond (not (none_dropped word c all.0 i)) (c ∷ valued_kept word cs all.1 i) (valued_kept word cs all.1 i))

pub valued_base : (word base : ℕ) (cs : List Carried) → Each (λ (c : Carried). names_header c.value ≡ 1) cs → base_with word base cs ≡ base
unfolding base_with
valued_base word base [] all = refl
valued_base word base (c ∷ cs) all = (λ i. cond (none_dropped word c all.0 i) (greater c.value (valued_base word base cs all.1 i)) (valued_base word base cs all.1 i))

range_stays : (word : ℕ) (g : MovingRange) → AllValued g → range_with word g ≡ g
range_stays word g all = test-cases (word == 0) (λ b. cond b g (range_without word g) ≡ g) (λ _. refl) (λ _ i. record g { base = valued_base word g.base g.carried all i; carried = valued_kept word g.carried all i })

-- whichever entries are dropped
pub valued_stays : (es : List Entry) (g : MovingRange) → AllValued g → dropped_range es g ≡ g
unfolding dropped_range
valued_stays [] g all = refl
valued_stays (e ∷ es) g all = ap (dropped_range es) (range_stays e.place g all) ∙ valued_stays es g all

pub all_stay : (es : List Entry) (gs : List MovingRange) → Each AllValued gs → map (dropped_range es) gs ≡ gs
all_stay es [] all = refl
all_stay es (g ∷ gs) all = λ i. valued_stays es g all.0 i ∷ all_stay es gs all.1 i

-- the entries with a value, counted by their value words
pub kept_sum : (f : ℕ → ℕ → ℕ) (es : List Entry) → sum_of f (kept es) ≡ sum_of (λ w v. names_header v * f w v) es
unfolding total
kept_sum f es = total_filter has_value (λ (e : Entry). f e.place e.value) es ∙ each_same es
  where
    each_same : (es : List Entry) → total (λ (e : Entry). cond (has_value e) (f e.place e.value) 0) es ≡ sum_of (λ w v. names_header v * f w v) es
    each_same [] = refl
    each_same (e ∷ es) = let t = each_same es in let x : ℕ = f e.place e.value in
        named-cases e.value (λ b. cond b x 0 + total (λ (e : Entry). cond (has_value e) (f e.place e.value) 0) es ≡ names_header e.value * x + total (λ (e : Entry). names_header e.value * f e.place e.value) es)
        (λ p. let y = times-one (names_header e.value) x p in omega arith) (λ p. let y = times-none (names_header e.value) x p in omega arith)

values_once : (es : List EntryWords) → total (λ (e : EntryWords). names_header e.value * 1) es ≡ total (λ (e : EntryWords). names_header e.value) es
unfolding total
values_once [] = refl
values_once (e ∷ es) = let t = values_once es in omega arith

-- of none it is the first
pub first_only : (b : ℕ) → greatest b [] ≡ b
unfolding greatest
first_only b = refl

module _ (z : Sizes) (limit : z.entries ≤ GREATEST_ENTRIES) (r : ℕ) (w : RoomCopy) (g : MovingRange) (hs : List HeldRoom) (gs : List MovingRange) (v : PassState) (f : HoldsFront z r w g hs gs v) where
  abbrev m : RoomMemory
  m = held_memory v.rooms.held

  -- the count and the linked entries, by the memory
  pub count_is : (held_memory v.rooms.held).count r ≡ w.count
  count_is = ap (λ (c : RoomCopy). c.count) (front_words z r w g hs gs v f)

  pub words_sum : (F : ℕ → ℕ → ℕ) → total (λ (e : EntryWords). F e.word e.value) (linked_held w) ≡ sum_of F (linked_in (held_memory v.rooms.held) r)
  words_sum F = ap (λ (c : RoomCopy). total (λ (e : EntryWords). F e.word e.value) (linked_held c)) (sym (front_words z r w g hs gs v f)) ∙ copied_sum z m r F (front_mirrors z r w g hs gs v f).few

  words_entries : entries_of w ≡ linked_in (held_memory v.rooms.held) r
  words_entries = ap entries_of (sym (front_words z r w g hs gs v f)) ∙ copied_entries z m r (front_mirrors z r w g hs gs v f).few

  module _ (slots : List SortSlot) (x : Read) (read : ReadsSorted (keys_in v.rooms.moving) (held_memory v.rooms.held) r slots x) (m' : RoomMemory) (compacts : IsCompacted z.entries r (entries_in ((held_memory v.rooms.held).count r)) (take x.kept slots) x.base (held_memory v.rooms.held) m') where
    abbrev xs : List SortSlot
    xs = take x.kept slots

    abbrev pub range' : MovingRange
    range' = dropped_range (dropped (linked_in (held_memory v.rooms.held) r)) g

    abbrev pub words' : RoomCopy
    words' = copy_at z m' r

    many : length xs ≡ x.kept
    many = length-take-le x.kept slots read.fits

    -- the room has what is left of the range
    pub still_mirrors : Mirrors z words' range'
    still_mirrors = compacted_mirrors z m r g (front_mirrors z r w g hs gs v f) (front_stands z r w g hs gs v f) (front_differ z r w g hs gs v f) (keys_in v.rooms.moving) (front_keys z r w g hs gs v f) xs read.same
        x.base (entries_in (m.count r)) compacts.between m' limit read.rise read.base compacts.drops compacts.fills

    pub still_has : SlotsHave (keys_in v.rooms.moving) xs range'
    still_has = slots_have z m r g (front_mirrors z r w g hs gs v f) (front_stands z r w g hs gs v f) (front_differ z r w g hs gs v f) (keys_in v.rooms.moving) (front_keys z r w g hs gs v f) xs read.same read.rise

    few : length xs ≤ z.entries
    few = slots_few z m r g (front_mirrors z r w g hs gs v f) (front_stands z r w g hs gs v f) (front_differ z r w g hs gs v f) (keys_in v.rooms.moving) (front_keys z r w g hs gs v f) xs read.same

    -- as many are kept as had a value
    pub kept_values : length xs ≡ values_in w
    kept_values = let a = length_total (map entry_of xs) in let b = length-map xs entry_of in let c = permuted_total (λ (e : Entry). 1) (kept (linked_in m r)) (map entry_of xs) read.same in
        let d = kept_sum (λ w v. 1) (linked_in m r) in let e = words_sum (λ w v. names_header v * 1) in let t = values_once (linked_held w) in omega arith

    pub now_rewritten : IsRewritten w words'
    now_rewritten = let bounds = compacts.fills.bounds_kept in let drops = compacts.drops in record {
      low = ap (λ (F : ℕ → ℕ → ℕ). rows 0 BOUND_WORDS (F r)) (bounds.low ∙ drops.low) ∙ ap (λ (c : RoomCopy). c.low) (front_words z r w g hs gs v f);
      high = ap (λ (F : ℕ → ℕ → ℕ). rows 0 BOUND_WORDS (F r)) (bounds.high ∙ drops.high) ∙ ap (λ (c : RoomCopy). c.high) (front_words z r w g hs gs v f);
      base = compacts.fills.filled.base_is ∙ (read.base ∙ (ap (λ (c : RoomCopy). greatest c.base (dropped (linked_in m r))) (front_words z r w g hs gs v f) ∙ ap (λ (es : List Entry). greatest w.base (dropped es)) (sym words_entries)));
      kept = λ F. filled_sum z m' r xs x.base compacts.fills.filled few limit F ∙ (permuted_total (λ (e : Entry). F e.place e.value) (kept (linked_in m r)) (map entry_of xs) read.same ∙ (kept_sum F (linked_in m r) ∙ sym (words_sum (λ w v. names_header v * F w v))));
      linked = slots_linked z m' r xs x.base range' (keys_in v.rooms.moving) limit compacts.fills.filled few still_has;
      sorted = record { count = filled_many z m' r xs x.base compacts.fills.filled few limit ∙ kept_values; prefix = filled_prefix z m' r xs x.base compacts.fills.filled few limit ∙ kept_values };
    }

    pub now_counted : entries_in w.count ≡ length xs + x.dropped
    now_counted = let a = read.many in let b = ap entries_in count_is in let c = many in omega arith
