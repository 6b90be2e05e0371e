-- Two rooms that a pass holds, of which it claimed the first: their words, and the slots that were read from the second.
use Rattle.std.proofs.Common.{◌≡◌, ◌≢◌, ℕ, zero, ◌+◌, ◌/◌, ◌<◌, ◌≤◌, List, [], ◌∷◌, length, map, take, refl, sym, ap, ◌∙◌, subst, arith, Option, Some, length-take-le}
use Rattle.std.specs.List.{filter, slice_index_or}
use Rattle.std.specs.List.Sorted.{IsPermutation}
use Rattle.std.proofs.lemmas.List.{get_or-take}
use mathlib.Core.Option.{some}
use lib.ListN.{get_elem?}
use Rattle.oak_model.specs.declared.limits.TheConstants.{GREATEST_ENTRIES, GREATEST_KEY}
use Rattle.oak_model.specs.Counts.{rows, total}
use Rattle.oak_model.specs.Limits.{Sizes}
use Rattle.oak_model.proofs.Counting.{one_at-same}
use Rattle.chunk_core.specs.declared.holds.HeldRoom.{HeldRoom}
use Rattle.chunk_core.specs.declared.holds.MovingRange.{MovingRange}
use Rattle.chunk_core.specs.declared.holds.RoomCopy.{RoomCopy}
use Rattle.chunk_core.specs.declared.holds.RoomHolds.{RoomHolds}
use Rattle.chunk_core.specs.declared.states.TheConstants.{HELD}
use Rattle.chunk_core.specs.LinkedEntries.{entries_in}
use Rattle.chunk_core.specs.RoomCopies.{copy_of}
use Rattle.chunk_core.specs.RoomReads.{copy_at}
use Rattle.chunk_core.proofs.HeldRooms.{room_rows, row_else, row_here}
use Rattle.chunk_ops.specs.Stored.{IsStored}
use Rattle.oak_core.specs.declared.sorting.SortSlot.{SortSlot}
use Rattle.oak_core.specs.declared.states.PassState.{PassState}
use Rattle.rebalance.specs.declared.entries.Entry.{Entry}
use Rattle.rebalance.specs.declared.reading.Read.{Read}
use Rattle.rebalance.specs.CarriedKeys.{HaveKeys}
use Rattle.rebalance.specs.Chunks.{HoldsFront, ReadsFront, held_row, keys_in}
use Rattle.rebalance.specs.Compacted.{ReadsSorted, linked_in}
use Rattle.rebalance.specs.DroppedRange.{WordsDiffer, dropped_range}
use Rattle.rebalance.specs.Entries.{dropped, greatest, has_word, kept}
use Rattle.rebalance.specs.Halving.{HasWhole, HoldsPair}
use Rattle.rebalance.specs.HeldRooms.{IsNamed}
use Rattle.rebalance.specs.HeldTables.{HoldsAlone, key_of_entry}
use Rattle.rebalance.specs.Holding.{Claims}
use Rattle.rebalance.specs.Mirrors.{Mirrors, RangeStands, copy_or, entry_words, held_memory}
use Rattle.rebalance.specs.SlotRanges.{BoundsAre, SlotsHave}
use Rattle.rebalance.specs.Slots.{entry_of, key_of}
use Rattle.rebalance.proofs.CarriedEntries.{carried_names}
use Rattle.rebalance.proofs.CompactedMirrors.{bounds_of}
use Rattle.rebalance.proofs.CopyBases.{first_only}
use Rattle.rebalance.proofs.FrontReads.{full_none}
use Rattle.rebalance.proofs.FrontRooms.{front_copy}
use Rattle.rebalance.proofs.HeldAlone.{copy_first}
use Rattle.rebalance.proofs.HeldBeside.{copy_behind}
use Rattle.rebalance.proofs.HeldMemory.{held_copy}
use Rattle.rebalance.proofs.MomentRanges.{moment_differ}
use Rattle.rebalance.proofs.RangesStand.{range_stands}
use Rattle.rebalance.proofs.RebalancedRooms.{read_slots}

none_left : (g : MovingRange) → dropped_range [] g ≡ g
unfolding dropped_range
none_left g = refl

-- two rows of different rooms

module _ (r q : ℕ) (w c : RoomCopy) (apart : r ≢ q) where
  -- the words of the first
  pub first_of_two : copy_of q (held_row q c ∷ held_row r w ∷ []) ≡ Some c
  first_of_two = copy_first q c (held_row r w ∷ [])

  -- and of the second
  pub second_of_two : copy_of r (held_row q c ∷ held_row r w ∷ []) ≡ Some w
  second_of_two = copy_behind r (held_row q c) (held_row r w ∷ []) (λ e. apart (sym e)) ∙ copy_first r w []

  -- the first is held once
  pub first_held : room_rows q HELD (held_row q c ∷ held_row r w ∷ []) ≡ 1
  unfolding room_rows total
  first_held = let o = one_at-same HELD HELD refl in let a = row_here q q HELD (held_row q c) (held_row r w ∷ []) refl refl in let b = row_else r q HELD (held_row r w) [] refl (λ e. apart (sym e)) in omega arith

  -- so is the second
  pub second_held : room_rows r HELD (held_row q c ∷ held_row r w ∷ []) ≡ 1
  unfolding room_rows total
  second_held = let o = one_at-same HELD HELD refl in let a = row_else q r HELD (held_row q c) (held_row r w ∷ []) refl apart in let b = row_here r r HELD (held_row r w) [] refl refl in omega arith

-- ---- the pair

module _ (z : Sizes) (r q : ℕ) (w c : RoomCopy) (g : MovingRange) (v : PassState) (h : HoldsPair z r q w c g v) where
  -- the words of the claimed room
  pub upper_copy : copy_of q v.rooms.held ≡ Some c
  upper_copy = ap (copy_of q) h.held ∙ first_of_two r q w c h.apart

  -- and of the other
  pub lower_copy : copy_of r v.rooms.held ≡ Some w
  lower_copy = ap (copy_of r) h.held ∙ second_of_two r q w c h.apart

  -- calls on held rooms may use both
  pub upper_alone : HoldsAlone z q v
  unfolding room_rows
  upper_alone = record { room = record { inside = h.inside_upper; copy = c; is = upper_copy; whole = h.whole_upper; held = ap (room_rows q HELD) h.held ∙ first_held r q w c h.apart }; only = h.only; begun = h.moment }

  -- and the other one
  pub lower_alone : HoldsAlone z r v
  unfolding room_rows
  lower_alone = record { room = record { inside = h.inside; copy = w; is = lower_copy; whole = h.whole; held = ap (room_rows r HELD) h.held ∙ second_held r q w c h.apart }; only = h.only; begun = h.moment }

  -- the words by the memory of all rooms that are held
  pub pair_words : copy_at z (held_memory v.rooms.held) r ≡ w
  pair_words = held_copy z r w v.rooms.held lower_copy h.whole

  -- they are those of the range
  pub pair_mirrors : Mirrors z (copy_at z (held_memory v.rooms.held) r) g
  pair_mirrors = subst (λ (x : RoomCopy). Mirrors z x g) (sym pair_words) h.mirrors

  -- the range is the first of the pass
  pub pair_there : get_elem? v.rooms.moving zero ≡ some g
  pair_there = ap (λ (xs : List MovingRange). get_elem? xs zero) h.moving

  -- it is in order
  pub pair_stands : RangeStands g
  pair_stands = range_stands z v h.moment zero g pair_there

  -- two of its entries with one key word are one
  pub pair_differ : WordsDiffer g
  pair_differ = moment_differ z v h.moment zero g pair_there pair_stands

  -- its entries with a value have the keys that are looked up
  pub pair_keys : HaveKeys (keys_in v.rooms.moving) g.carried
  pair_keys x m b = let k = carried_names z v h.moment x (record { place = zero; range = g; there = pair_there; has = m }) b in record { is = k.key; named = subst (IsNamed x.word) (sym k.key) (let n = k.names.named in subst (IsNamed x.word) (sym (ap key_of_entry k.names.first) ∙ k.key) n) }

  -- the room has its bounds
  pub pair_bounds : BoundsAre (held_memory v.rooms.held) r g
  pair_bounds = bounds_of z (held_memory v.rooms.held) r g pair_mirrors

  -- the word of the claimed room that was its latch is 0
  pub pair_free : (held_memory v.rooms.held).latch q ≡ 0
  pair_free = ap (λ (o : Option RoomCopy). (copy_or o).latch) upper_copy ∙ h.free

  -- a room has no more entries than the largest
  pub pair_limit : z.entries ≤ GREATEST_ENTRIES
  pair_limit = h.moment.1.rule.sizes.entries_greatest

  -- The slots have all entries of the room.
  module _ (slots : List SortSlot) (x : Read) (all : HasWhole z r slots x v) where
    abbrev xs : List SortSlot
    xs = take x.kept slots

    -- they are those of the range
    pub whole_slots : SlotsHave (keys_in v.rooms.moving) (take x.kept slots) g
    whole_slots = subst (λ (l : MovingRange). SlotsHave (keys_in v.rooms.moving) xs l) (ap (λ (es : List Entry). dropped_range es g) all.none ∙ none_left g)
        (read_slots z pair_limit (held_memory v.rooms.held) r g pair_mirrors pair_stands pair_differ (keys_in v.rooms.moving) pair_keys slots x all.read)

    -- as many as were kept
    pub whole_long : length (take x.kept slots) ≡ x.kept
    whole_long = length-take-le x.kept slots all.read.fits

    -- which a room has place for
    pub whole_few : length (take x.kept slots) ≤ z.entries
    whole_few = let l = whole_long in let f = all.full in omega arith

    -- both halves have some
    pub half_some : 0 < x.kept / 2
    half_some = let l = h.moment.1.rule.sizes.entries_least in let f = all.full in omega arith

    -- the lower half is not all
    pub half_fewer : x.kept / 2 < x.kept
    half_fewer = let l = half_some in omega arith

    -- the key between them
    pub half_stored : (d : SortSlot) → IsStored (key_of (slice_index_or slots (x.kept / 2) d)) (keys_in v.rooms.moving (slice_index_or (take x.kept slots) (x.kept / 2) d).key)
    half_stored d = subst (λ (s : SortSlot). IsStored (key_of (slice_index_or slots (x.kept / 2) d)) (keys_in v.rooms.moving s.key)) (sym (get_or-take x.kept slots (x.kept / 2) d half_fewer)) (all.read.middle d half_fewer)

    -- is no longer than a key
    pub half_short : (d : SortSlot) → (slice_index_or slots (x.kept / 2) d).length ≤ GREATEST_KEY
    half_short d = let s = half_stored d in let l = s.long in let f = s.few in omega arith

    -- the base is that of the range
    pub whole_base : x.base ≡ g.base
    whole_base = all.read.base ∙ (ap (greatest ((held_memory v.rooms.held).base r)) all.none ∙ (first_only ((held_memory v.rooms.held).base r) ∙ pair_mirrors.base))

-- ---- what was read of a room is so where the pass holds another one too

module _ (r : ℕ) (vs ts : List HeldRoom) (same : copy_of r ts ≡ copy_of r vs) where
  abbrev used : Option RoomCopy → List Entry
  used o = filter has_word (rows 0 (entries_in (copy_or o).count) (λ (i : ℕ). record { place = entry_words (copy_or o) i (λ e. e.word); value = entry_words (copy_or o) i (λ e. e.value) }))

  -- it was read
  pub read_beside : (keys : ℕ → List ℕ) (slots : List SortSlot) (x : Read) → ReadsSorted keys (held_memory vs) r slots x → ReadsSorted keys (held_memory ts) r slots x
  read_beside keys slots x s = record {
    many = subst (λ (o : Option RoomCopy). x.kept + x.dropped ≡ entries_in (copy_or o).count) (sym same) s.many;
    fits = s.fits;
    same = subst (λ (o : Option RoomCopy). IsPermutation (kept (used o)) (map entry_of (take x.kept slots))) (sym same) s.same;
    rise = s.rise;
    middle = s.middle;
    base = subst (λ (o : Option RoomCopy). x.base ≡ greatest (copy_or o).base (dropped (used o))) (sym same) s.base;
  }

  -- nothing was dropped
  pub none_beside : dropped (linked_in (held_memory vs) r) ≡ [] → dropped (linked_in (held_memory ts) r) ≡ []
  none_beside e = subst (λ (o : Option RoomCopy). dropped (used o) ≡ []) (sym same) e

-- ---- the front room with one that was claimed

module _ (z : Sizes) (call r : ℕ) (w : RoomCopy) (g : MovingRange) (v : PassState) (f : HoldsFront z r w g [] [] v) (u : PassState) (same : u.rooms ≡ v.rooms) (blocks : u.blocks ≡ v.blocks) (headers : u.headers ≡ v.headers) (q : ℕ) (other : q ≢ r) (c : RoomCopy) (t : PassState) (claim : Claims z call q c u t) where
  abbrev a : RoomHolds
  a = v.rooms

  rooms_now : t.rooms ≡ record v.rooms { held = held_row q c ∷ v.rooms.held }
  rooms_now = claim.rooms ∙ ap (λ (b : RoomHolds). record b { held = held_row q c ∷ b.held }) same

  -- the pass holds both
  pub claimed_pair : HoldsPair z r q w c g t
  claimed_pair = record {
    inside = f.inside;
    inside_upper = claim.inside;
    apart = λ e. other (sym e);
    held = ap (λ (b : RoomHolds). b.held) rooms_now ∙ ap (λ (l : List HeldRoom). held_row q c ∷ l) f.held;
    moving = ap (λ (b : RoomHolds). b.moving) rooms_now ∙ f.moving;
    only = record {
      blocks = claim.beside.blocks ∙ (blocks ∙ f.only.blocks);
      headers = claim.beside.headers ∙ (headers ∙ f.only.headers);
      pin = ap (λ (b : RoomHolds). b.pin) rooms_now ∙ f.only.pin;
      claim = ap (λ (b : RoomHolds). b.claim) rooms_now ∙ f.only.claim;
    };
    whole = f.whole;
    whole_upper = claim.has.whole;
    free = claim.latch;
    mirrors = f.mirrors;
    moment = claim.ended;
  }

  -- what was read from it
  pub claimed_whole : (slots : List SortSlot) (x : Read) (reads : ReadsFront z call r slots x v u) → x.kept ≡ z.entries → HasWhole z r slots x t
  claimed_whole slots x reads full = let words : copy_of r t.rooms.held ≡ copy_of r v.rooms.held = lower_copy z r q w c g t claimed_pair ∙ sym (front_copy z r w g [] [] v f) in record {
    read = subst (λ (l : List MovingRange). ReadsSorted (keys_in l) (held_memory t.rooms.held) r slots x) (sym (ap (λ (b : RoomHolds). b.moving) rooms_now)) (read_beside r v.rooms.held t.rooms.held words (keys_in v.rooms.moving) slots x reads.read);
    named = reads.named;
    full = full;
    none = none_beside r v.rooms.held t.rooms.held words (full_none z call r w g [] [] v f u slots x reads full);
  }
