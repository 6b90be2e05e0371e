-- The room that the pass came to hold last was read: what it is filled with, and that it is as it was where each of its entries has a value.
use Rattle.std.proofs.Common.{◌≡◌, ℕ, ◌+◌, ◌*◌, ◌<◌, ◌≤◌, ◌==◌, not, cond, List, [], ◌∷◌, length, map, take, refl, sym, ap, ◌∙◌, subst, arith, length-take-le, ltb-true}
use Rattle.std.specs.List.{filter}
use Rattle.std.proofs.lemmas.List.{length-map}
use mathlib.Core.Logic.{dite}
use mathlib.Core.Option.{some}
use lib.ListN.{get_elem?}
use native.Mathlib.Decide.{ℕ_discrete, dec_lt}
use Rattle.oak_model.specs.Counts.{Each, total}
use Rattle.oak_model.specs.Limits.{Sizes}
use Rattle.oak_model.proofs.Lists.{rows_length}
use Rattle.oak_model.proofs.MemberLaws.{each_at, filter-cases}
use Rattle.chunk_core.specs.declared.holds.HeldRoom.{HeldRoom}
use Rattle.chunk_core.specs.declared.holds.MovingRange.{MovingRange}
use Rattle.chunk_core.specs.declared.holds.RoomCopy.{RoomCopy}
use Rattle.chunk_core.specs.declared.holds.RoomHolds.{RoomHolds}
use Rattle.chunk_core.specs.LinkedEntries.{entries_in}
use Rattle.chunk_core.specs.Rooms.{RoomMemory}
use Rattle.chunk_core.specs.ValueWord.{names_header}
use Rattle.chunk_core.proofs.CountLoads.{rows_has}
use Rattle.oak_core.specs.declared.sorting.SortSlot.{SortSlot}
use Rattle.oak_core.specs.declared.states.PassState.{PassState}
use Rattle.chunk_ops.specs.RoomPins.{HadMoment}
use Rattle.rebalance.specs.declared.entries.Entry.{Entry}
use Rattle.rebalance.specs.declared.reading.Read.{Read}
use Rattle.rebalance.specs.Copies.{values_in}
use Rattle.rebalance.specs.Chunks.{CompactsFront, HoldsFront, ReadsFront, keys_in}
use Rattle.rebalance.specs.Compacted.{ReadsSorted, linked_in}
use Rattle.rebalance.specs.DroppedRange.{sum_of}
use Rattle.rebalance.specs.Dropping.{DropsKeys, dropped_ranges}
use Rattle.rebalance.specs.Entries.{dropped, entries, has_word, kept}
use Rattle.rebalance.specs.Filled.{Fills}
use Rattle.rebalance.specs.HeldRooms.{AllValued}
use Rattle.rebalance.specs.HeldTables.{Apart, HoldsAlone, IsHeldRow, WorksOnRooms, works_none, works_both}
use Rattle.rebalance.specs.Mirrors.{held_memory}
use Rattle.rebalance.specs.Slots.{entry_of}
use Rattle.rebalance.proofs.CopyBases.{value_small}
use Rattle.rebalance.proofs.FilledCopies.{length_total, permuted_total}
use Rattle.rebalance.proofs.FrontCompacts.{count_is, kept_sum, words_sum}
use Rattle.rebalance.proofs.FrontLaws.{looked_rooms}
use Rattle.rebalance.proofs.FrontRewrites.{entries_limited, front_compacts, only_still}
use Rattle.rebalance.proofs.FrontRooms.{front_alone}
use Rattle.rebalance.proofs.PassedOnes.{all_pass}

-- ---- lists in which each entry has a value

values_small : (es : List Entry) → sum_of (λ w v. names_header v * 1) es ≤ length es
unfolding total
values_small [] = omega arith
values_small (e ∷ es) = let t = values_small es in let v = value_small e.value in omega arith

-- as many values as entries
each_valued : (es : List Entry) → sum_of (λ w v. names_header v * 1) es ≡ length es → Each (λ (e : Entry). names_header e.value ≡ 1) es
unfolding total
each_valued [] h = tt
each_valued (e ∷ es) h = let t = values_small es in let v = value_small e.value in (omega arith, each_valued es (omega arith))

-- none of them is dropped then
valued_none : (es : List Entry) → Each (λ (e : Entry). names_header e.value ≡ 1) es → dropped es ≡ []
valued_none [] h = refl
valued_none (e ∷ es) h = let t = valued_none es h.1 in λ i. cond (not (h.0 i == 1)) (e ∷ t i) (t i)

-- and as many values as entries
valued_many : (es : List Entry) → Each (λ (e : Entry). names_header e.value ≡ 1) es → sum_of (λ w v. names_header v) es ≡ length es
unfolding total
valued_many [] h = refl
valued_many (e ∷ es) h = let t = valued_many es h.1 in let v = h.0 in omega arith

-- those that are linked have key words
each_keyed : (es : List Entry) → Each (λ (e : Entry). 0 < e.place) (filter has_word es)
each_keyed [] = tt
each_keyed (e ∷ es) = let t = each_keyed es in filter-cases has_word e es (Each (λ (x : Entry). 0 < x.place)) (λ p. (ltb-true 0 e.place p, t)) (λ _. t)

nothing_dropped : (gs : List MovingRange) → dropped_ranges [] gs ≡ gs
unfolding dropped_ranges
nothing_dropped gs = refl

-- ---- the room

module _ (z : Sizes) (call r : ℕ) (w : RoomCopy) (g : MovingRange) (hs : List HeldRoom) (gs : List MovingRange) (v : PassState) (f : HoldsFront z r w g hs gs v) (u : PassState) (slots : List SortSlot) (x : Read) (reads : ReadsFront z call r slots x v u) where
  abbrev m : RoomMemory
  m = held_memory v.rooms.held

  in_few : entries_in (m.count r) ≤ z.entries
  in_few = subst (λ (n : ℕ). entries_in n ≤ z.entries) (sym (count_is z (entries_limited z v f.moment) r w g hs gs v f)) f.mirrors.few

  -- no more were kept than a room has entries
  pub read_few : x.kept ≤ z.entries
  read_few = let a = reads.read.many in let b = in_few in omega arith

  -- it is held still
  pub read_alone : HoldsAlone z r u
  read_alone = let a = front_alone z r w g hs gs v f in record { room = reads.works.copies r a.room; only = only_still z call v u reads.works a.only; begun = reads.works.moment a.begun }

  -- once it is filled with the slots, it was compacted
  pub read_filled : Each AllValued gs → Each (IsHeldRow z) hs → Apart hs → (t : PassState) → WorksOnRooms z call u t → t.rooms.moving ≡ u.rooms.moving → Fills z.entries r (take x.kept slots) x.base (held_memory u.rooms.held) (held_memory t.rooms.held) → CompactsFront z call r x.dropped (take x.kept slots) w hs gs v t
  read_filled others rows several t works ranges fills = front_compacts z call r w g hs gs v f others rows several t (works_both z call v u t reads.works works) slots x (ranges ∙ reads.ranges) reads.read (record { between = held_memory u.rooms.held; drops = reads.drops; fills = fills }) reads.named

  -- As many were kept as a room has entries.
  module _ (full : x.kept ≡ z.entries) where
    -- so none was dropped
    pub full_dropped : x.dropped ≡ 0
    full_dropped = let a = reads.read.many in let b = in_few in omega arith

    -- and all entries of the room are in use
    pub full_count : entries_in ((held_memory v.rooms.held).count r) ≡ z.entries
    full_count = let a = reads.read.many in let b = in_few in omega arith

    abbrev used : List Entry
    used = entries m r (entries_in (m.count r))

    used_long : length used ≡ entries_in (m.count r)
    used_long = rows_length 0 (entries_in (m.count r)) (λ (i : ℕ). let y : Entry = record { place = m.key r i; value = m.value r i } in y)

    values_many : sum_of (λ w v. names_header v * 1) (linked_in m r) ≡ entries_in (m.count r)
    values_many = let xs = take x.kept slots in let a = length_total (map entry_of xs) in let b = length-map xs entry_of in let c = permuted_total (λ (e : Entry). 1) (kept (linked_in m r)) (map entry_of xs) reads.read.same in
        let d = kept_sum (λ w v. 1) (linked_in m r) in let l = length-take-le x.kept slots reads.read.fits in let n = full_count in omega arith

    -- so each entry is linked
    full_linked : linked_in m r ≡ used
    full_linked = let a = values_many in let b = values_small (linked_in m r) in let k = used_long in all_pass has_word used (omega arith)

    values_each : Each (λ (e : Entry). names_header e.value ≡ 1) (linked_in m r)
    values_each = let a = values_many in let k = used_long in let l = ap length full_linked in each_valued (linked_in m r) (omega arith)

    -- no entry is among those to be dropped
    pub full_none : dropped (linked_in (held_memory v.rooms.held) r) ≡ []
    full_none = valued_none (linked_in m r) values_each

    -- as many have a value as a room has entries
    pub full_values : values_in w ≡ z.entries
    full_values = let a = words_sum z (entries_limited z v f.moment) r w g hs gs v f (λ _ v. names_header v) in let b = valued_many (linked_in m r) values_each in let k = used_long in let l = ap length full_linked in let n = full_count in omega arith

    abbrev row : ℕ → Entry
    row j = record { place = m.key r j; value = m.value r j }

    row_there : (i : ℕ) → i < entries_in (m.count r) → get_elem? used i ≡ some (row i)
    row_there i l = rows_has row 0 (entries_in (m.count r)) i l ∙ ap (λ (k : ℕ). some (row k)) (let q : 0 + i ≡ i = omega arith in q)

    -- each entry has one
    pub full_valued : (i : ℕ) → i < entries_in ((held_memory v.rooms.held).count r) → names_header ((held_memory v.rooms.held).value r i) ≡ 1
    full_valued i l = each_at (λ (e : Entry). names_header e.value ≡ 1) used (subst (Each (λ (e : Entry). names_header e.value ≡ 1)) full_linked values_each) i (row i) (row_there i l)

    -- and a key word
    pub full_keyed : (i : ℕ) → i < entries_in ((held_memory v.rooms.held).count r) → 0 < (held_memory v.rooms.held).key r i
    full_keyed i l = each_at (λ (e : Entry). 0 < e.place) used (subst (Each (λ (e : Entry). 0 < e.place)) full_linked (each_keyed used)) i (row i) (row_there i l)

    key_same : (q j : ℕ) → (held_memory u.rooms.held).key q j ≡ m.key q j
    key_same q j = let d = reads.drops in dite (ℕ_discrete q r)
        (λ e. dite (dec_lt j (entries_in (m.count r))) (λ l. subst (λ (k : ℕ). (held_memory u.rooms.held).key k j ≡ m.key k j) (sym e) (d.valued j l (full_valued j l))) (λ n. d.others q j (λ _. omega arith)))
        (λ ne. d.others q j (λ e. absurd (ne e)))

    words_same : held_memory u.rooms.held ≡ held_memory v.rooms.held
    words_same = let d = reads.drops in λ i. record { pin = d.pin i; base = d.base i; count = d.count i; latch = d.latch i; first = d.first i; low = d.low i; high = d.high i; key = λ q j. key_same q j i; value = d.value i; next = d.next i }

    -- the pass has of rooms what it had
    pub full_rooms : u.rooms ≡ v.rooms
    full_rooms = looked_rooms z call v u f.moment reads.works words_same (reads.ranges ∙ (ap (λ (ds : List Entry). dropped_ranges ds v.rooms.moving) full_none ∙ nothing_dropped v.rooms.moving))

    drops_none : DropsKeys r (entries_in ((held_memory v.rooms.held).count r)) (held_memory v.rooms.held) (held_memory v.rooms.held)
    drops_none = record { pin = refl; base = refl; count = refl; latch = refl; first = refl; low = refl; high = refl; value = refl; next = refl; others = λ q j _. refl; valued = λ j _ _. refl; gone = λ j l e. let a = full_valued j l in absurd (omega arith) }

    -- So it is with the slots at a later state with the same rooms,
    pub full_again : (t : PassState) → t.rooms ≡ v.rooms → ReadsFront z call r slots x t t
    full_again t e = record {
      works = works_none z call t;
      drops = subst (λ (a : RoomHolds). DropsKeys r (entries_in ((held_memory a.held).count r)) (held_memory a.held) (held_memory a.held)) (sym e) drops_none;
      ranges = subst (λ (a : RoomHolds). a.moving ≡ dropped_ranges (dropped (linked_in (held_memory a.held) r)) a.moving) (sym e) (sym (ap (λ (ds : List Entry). dropped_ranges ds v.rooms.moving) full_none ∙ nothing_dropped v.rooms.moving));
      read = subst (λ (a : RoomHolds). ReadsSorted (keys_in a.moving) (held_memory a.held) r slots x) (sym e) reads.read;
      named = reads.named;
    }

    -- and with the room
    pub full_front : (t : PassState) → t.rooms ≡ v.rooms → t.blocks ≡ v.blocks → t.headers ≡ v.headers → HadMoment z t → HoldsFront z r w g hs gs t
    full_front t e b h moment = record {
      inside = f.inside;
      held = ap (λ (a : RoomHolds). a.held) e ∙ f.held;
      moving = ap (λ (a : RoomHolds). a.moving) e ∙ f.moving;
      apart = f.apart;
      only = record {
        blocks = b ∙ f.only.blocks;
        headers = h ∙ f.only.headers;
        pin = ap (λ (a : RoomHolds). a.pin) e ∙ f.only.pin;
        claim = ap (λ (a : RoomHolds). a.claim) e ∙ f.only.claim;
      };
      whole = f.whole;
      mirrors = f.mirrors;
      moment = moment;
    }
