-- Two rooms with neighbouring ranges that a pass holds, joined into the lower one.
use Rattle.std.proofs.Common.{◌≡◌, ◌≢◌, ℕ, ◌+◌, ◌≤◌, cond, max, true, Bool, List, [], ◌∷◌, ◌++◌, map, length, sym, refl, ap, ◌∙◌, subst, arith, eq-eqb, ne_eqb, length-append, Option, Some}
use lib.ListN.{get_elem?}
use Rattle.oak_model.specs.Counts.{one_if, total}
use Rattle.oak_model.specs.Limits.{Sizes}
use Rattle.oak_model.proofs.Counting.{one_at-other, one_at-same}
use Rattle.chunk_core.specs.declared.holds.HeldRoom.{HeldRoom}
use Rattle.chunk_core.specs.declared.holds.MovingRange.{MovingRange}
use Rattle.chunk_core.specs.declared.holds.RoomCopy.{RoomCopy}
use Rattle.chunk_core.specs.declared.holds.RoomHolds.{RoomHolds}
use Rattle.chunk_core.specs.declared.layout.TheConstants.{BOUND_WORDS}
use Rattle.chunk_core.specs.declared.states.TheConstants.{HELD}
use Rattle.chunk_core.specs.MayOnRooms.{MayRetire}
use Rattle.chunk_core.specs.MovingRanges.{greater, is_below, joined_by, joined_to, range_of, ranges_joined, ranges_without}
use Rattle.chunk_core.specs.RoomCopies.{copy_of, without_room}
use Rattle.chunk_core.specs.RoomReads.{copy_at}
use Rattle.chunk_core.specs.RoomRule.{in_room_state}
use Rattle.chunk_core.specs.RoomStep.{retire_room}
use Rattle.chunk_core.specs.Rooms.{RoomMemory}
use Rattle.chunk_core.proofs.HeldRooms.{room_rows, row_else, row_here}
use Rattle.chunk_core.proofs.RangeMoves.{greater-cases}
use Rattle.oak_core.specs.declared.sorting.SortSlot.{SortSlot}
use Rattle.oak_core.specs.declared.states.PassState.{PassState}
use Rattle.oak_core.specs.Step.{on_rooms}
use Rattle.oak_core.proofs.calls.CallSteps.{step_since}
use Rattle.rebalance.specs.declared.chunk_pairs.Taken.{Taken}
use Rattle.rebalance.specs.Bounds.{KeepsButBounds, Sets}
use Rattle.rebalance.specs.Chunks.{held_row, keys_in}
use Rattle.rebalance.specs.Entries.{entries}
use Rattle.rebalance.specs.Filled.{Appends, AreBare, IsFilled, IsLinked}
use Rattle.rebalance.specs.HeldTables.{HoldsAlone, HoldsOnlyRooms, RowsStay, WorksOnRooms}
use Rattle.rebalance.specs.Holding.{Retires}
use Rattle.rebalance.specs.Merging.{HoldsPair, JoinsPair}
use Rattle.rebalance.specs.Mirrors.{Mirrors, RangeStands, held_memory}
use Rattle.rebalance.specs.SlotRanges.{BoundsAre}
use Rattle.rebalance.specs.Slots.{entry_of}
use Rattle.rebalance.proofs.ChunkLaws.{without_first, works_both, works_of_rooms, works_of_stands}
use Rattle.rebalance.proofs.CompactedMirrors.{bounds_of, slots_linked}
use Rattle.rebalance.proofs.FilledChains.{filled_chained}
use Rattle.rebalance.proofs.FilledCopies.{filled_many, filled_prefix}
use Rattle.rebalance.proofs.FrontRewrites.{entries_limited, only_still}
use Rattle.rebalance.proofs.FrontRooms.{front_mirrors}
use Rattle.rebalance.proofs.HeldAlone.{copy_first}
use Rattle.rebalance.proofs.HeldBeside.{copy_behind}
use Rattle.rebalance.proofs.HeldMemory.{held_copy}
use Rattle.rebalance.proofs.HeldRows.{rows_from, whole_at}
use Rattle.rebalance.proofs.MergedMirrors.{appended_filled, joined_bounds, joined_slots}
use Rattle.rebalance.proofs.RangesStand.{range_stands}
use Rattle.rebalance.proofs.RebalancedRooms.{merged}
use Rattle.rebalance.proofs.RoomsBeside.{entries_still}
use Rattle.rebalance.proofs.TwoHeldRooms.{frees_upper}

-- the range that came with a room, and the others, where the first one did and the second one did not
range_first : (r : ℕ) (g h : MovingRange) → g.room ≡ r → range_of r (g ∷ h ∷ []) ≡ Some g
unfolding range_of
range_first r g h e = ap (λ (b : Bool). cond b (Some g) (range_of r (h ∷ []))) (eq-eqb g.room r e)

without_range : (r : ℕ) (g h : MovingRange) → g.room ≡ r → h.room ≢ r → ranges_without r (g ∷ h ∷ []) ≡ h ∷ []
unfolding ranges_without
without_range r g h e ne = ap (λ (b : Bool). cond b (ranges_without r (h ∷ [])) (g ∷ ranges_without r (h ∷ []))) (eq-eqb g.room r e) ∙ ap (λ (b : Bool). cond b [] (h ∷ [])) (ne_eqb h.room r ne)

-- where the second one lies just below the first one, they are joined
joined_two : (r : ℕ) (g h : MovingRange) → g.room ≡ r → h.room ≢ r → is_below g h ≡ true → ranges_joined r (g ∷ h ∷ []) ≡ joined_by g h ∷ []
joined_two r g h e ne below = (λ i. joined_to (range_first r g h e i) (without_range r g h e ne i)) ∙ ap (λ (b : Bool). cond b (joined_by g h) h ∷ []) below

retires_two : (r : ℕ) (g h : MovingRange) → g.room ≡ r → h.room ≢ r → is_below g h ≡ true → MayRetire r (g ∷ h ∷ [])
unfolding total
retires_two r g h e ne below = record {
  one = let a = one_at-same g.room r e in let b = one_at-other h.room r ne in omega arith;
  joins = λ x is. subst (λ (hs : List MovingRange). total (λ (y : MovingRange). one_if (is_below x y)) hs ≡ 1) (sym (without_range r g h e ne))
      (subst (λ (y : MovingRange). one_if (is_below y h) + 0 ≡ 1) (some_same g x (sym (range_first r g h e) ∙ is)) (ap (λ (b : Bool). one_if b + 0) below));
}
  where
    some_same : (x y : MovingRange) → Some x ≡ Some y → x ≡ y
    some_same x y e = ap (λ (o : Option MovingRange). some_or x o) e
      where
        some_or : MovingRange → Option MovingRange → MovingRange
        some_or d (Some z) = z
        some_or d _ = d

module _ (z : Sizes) (low up : Taken) (slots : List SortSlot) (v : PassState) (p : HoldsPair z low up slots v) where
  pub rooms_apart : up.room ≢ low.room
  unfolding total
  rooms_apart e = let n = p.front.apart in let o = one_at-same low.room up.room (sym e) in absurd (omega arith)

  origins_apart : p.below.room ≢ up.room
  origins_apart e = rooms_apart (sym e ∙ p.lower_origin)

  lower_copy : copy_of low.room v.rooms.held ≡ Some p.lower
  lower_copy = ap (copy_of low.room) p.front.held ∙ (copy_behind low.room (held_row up.room p.upper) (held_row low.room p.lower ∷ []) rooms_apart ∙ copy_first low.room p.lower [])

  lower_held : in_room_state low.room HELD v.rooms ≡ 1
  unfolding room_rows total
  lower_held = ap (λ (hs : List HeldRoom). room_rows low.room HELD hs) p.front.held
      ∙ (row_else up.room low.room HELD (held_row up.room p.upper) (held_row low.room p.lower ∷ []) refl (λ e. rooms_apart (sym e)) ∙ (row_here low.room low.room HELD (held_row low.room p.lower) [] refl refl ∙ (let o = one_at-same HELD HELD refl in omega arith)))

  -- the lower room is held, as the upper one is
  pub lower_alone : HoldsAlone z low.room v
  lower_alone = record { room = record { inside = p.inside; copy = p.lower; is = lower_copy; whole = p.whole; held = lower_held }; only = p.front.only; begun = p.front.moment }

  -- its entries are linked while only bounds are stored
  pub pair_linked : (m : RoomMemory) → KeepsButBounds (held_memory v.rooms.held) m → IsLinked low.room low.kept m
  pair_linked m k = let f = p.own_filled in subst (λ (n : ℕ). IsLinked low.room n m) p.own_many (record {
    linked = λ j l. ap (λ (g : ℕ → ℕ → ℕ). g low.room j) k.next ∙ f.linked j l;
    first = ap (λ (g : ℕ → ℕ). g low.room) k.first ∙ f.first;
  })

  -- the upper room may be retired
  pub pair_retires : (gs : List MovingRange) → gs ≡ v.rooms.moving → MayRetire up.room gs
  pair_retires gs e = subst (MayRetire up.room) (sym (e ∙ p.front.moving)) (retires_two up.room p.above p.below p.upper_origin origins_apart p.neighbours)

  above_stands : RangeStands p.above
  above_stands = range_stands z v p.front.moment 0 p.above (ap (λ (gs : List MovingRange). get_elem? gs 0) p.front.moving)

  below_stands : RangeStands p.below
  below_stands = range_stands z v p.front.moment 1 p.below (ap (λ (gs : List MovingRange). get_elem? gs 1) p.front.moving)

  -- The high bound and the entries of the upper room were stored in the lower one, and the upper one was retired.
  module _ (call : ℕ) (m : RoomMemory) (n u : PassState) (works : WorksOnRooms z call v n) (ranges : n.rooms.moving ≡ v.rooms.moving)
      (high : Sets low.room BOUND_WORDS ((held_memory v.rooms.held).high up.room) (held_memory v.rooms.held).high m.high) (lows : m.low ≡ (held_memory v.rooms.held).low) (rest : KeepsButBounds (held_memory v.rooms.held) m)
      (base : ℕ) (base_is : base ≡ max low.base up.base) (stored : Appends low.room low.kept slots base m (held_memory n.rooms.held)) (retires : Retires z call up.room n u) where
    appends : Appends low.room (length p.own) slots base m (held_memory n.rooms.held)
    appends = subst (λ (k : ℕ). Appends low.room k slots base m (held_memory n.rooms.held)) (sym p.own_many) stored

    own_still : entries m low.room (length p.own) ≡ map entry_of p.own
    own_still = entries_still (held_memory v.rooms.held) m low.room (length p.own) (λ j. ap (λ (f : ℕ → ℕ → ℕ). f low.room j) rest.key) (λ j. ap (λ (f : ℕ → ℕ → ℕ). f low.room j) rest.value) ∙ p.own_filled.is

    own_bare : AreBare z.entries low.room (length p.own) m
    own_bare j le l = let b = p.own_filled.rest j le l in (ap (λ (f : ℕ → ℕ → ℕ). f low.room j) rest.key ∙ b.0, ap (λ (f : ℕ → ℕ → ℕ). f low.room j) rest.value ∙ b.1)

    lower_mirrors : Mirrors z (copy_at z (held_memory v.rooms.held) low.room) p.below
    lower_mirrors = subst (λ (x : RoomCopy). Mirrors z x p.below) (sym (held_copy z low.room p.lower v.rooms.held lower_copy p.whole)) p.mirrors

    upper_mirrors : Mirrors z (copy_at z (held_memory v.rooms.held) up.room) p.above
    upper_mirrors = front_mirrors z up.room p.upper p.above (held_row low.room p.lower ∷ []) (p.below ∷ []) v p.front

    bounds : BoundsAre m low.room (joined_by p.above p.below)
    bounds = joined_bounds (held_memory v.rooms.held) m low.room up.room p.above p.below (bounds_of z (held_memory v.rooms.held) low.room p.below lower_mirrors) (bounds_of z (held_memory v.rooms.held) up.room p.above upper_mirrors)
        (λ j l. ap (λ (f : ℕ → ℕ → ℕ). f low.room j) lows) (λ j l. high.words j l) (ap (λ (f : ℕ → ℕ). f low.room) rest.latch)

    few : length p.own + length slots ≤ z.entries
    few = let a = p.own_many in let b = p.many in let c = p.few in omega arith

    greater_base : base ≡ greater p.above.base p.below.base
    greater_base = let a = p.lower_base in let b = p.upper_base in let c = p.mirrors.base in let d = p.front.mirrors.base in greater-cases p.above.base p.below.base (λ (t : ℕ). base ≡ t) (λ l. omega arith) (λ l. omega arith)

    joined_mirrors : Mirrors z (copy_at z (held_memory n.rooms.held) low.room) (joined_by p.above p.below)
    joined_mirrors = merged z (entries_limited z v p.front.moment) m (held_memory n.rooms.held) low.room (keys_in v.rooms.moving) p.own slots p.above p.below base above_stands below_stands p.neighbours p.own_has p.has own_still own_bare appends few greater_base bounds

    rows_now : n.rooms.held ≡ held_row up.room (copy_at z (held_memory n.rooms.held) up.room) ∷ held_row low.room (copy_at z (held_memory n.rooms.held) low.room) ∷ []
    unfolding total
    rows_now = rows_from z (held_row up.room p.upper ∷ held_row low.room p.lower ∷ []) n.rooms.held (p.front.whole, (p.whole, tt)) (p.front.apart, (refl, tt))
        (subst (λ (hs : List HeldRoom). RowsStay z hs n.rooms.held) p.front.held works.rows)

    held_now : u.rooms.held ≡ held_row low.room (copy_at z (held_memory n.rooms.held) low.room) ∷ []
    unfolding total
    held_now = ap (λ (a : RoomHolds). a.held) retires.rooms ∙ (ap (without_room up.room) rows_now ∙ without_first up.room (held_row up.room (copy_at z (held_memory n.rooms.held) up.room)) (held_row low.room (copy_at z (held_memory n.rooms.held) low.room) ∷ []) refl p.front.apart)

    moving_now : u.rooms.moving ≡ joined_by p.above p.below ∷ []
    moving_now = ap (λ (a : RoomHolds). a.moving) retires.rooms ∙ (ap (ranges_joined up.room) (ranges ∙ p.front.moving) ∙ joined_two up.room p.above p.below p.upper_origin origins_apart p.neighbours)

    only_now : HoldsOnlyRooms u
    only_now = let o = only_still z call v n works p.front.only in record {
      blocks = retires.beside.blocks ∙ o.blocks;
      headers = retires.beside.headers ∙ o.headers;
      pin = ap (λ (a : RoomHolds). a.pin) retires.rooms ∙ o.pin;
      claim = ap (λ (a : RoomHolds). a.claim) retires.rooms ∙ o.claim;
    }

    joined_filled : IsFilled z.entries low.room (p.own ++ slots) base (held_memory n.rooms.held)
    joined_filled = appended_filled z.entries low.room p.own slots base m (held_memory n.rooms.held) own_still own_bare appends

    pub pair_joins : JoinsPair z call low up p.below p.above v u
    unfolding total
    pair_joins = let l = length-append p.own slots in let a = p.own_many in let b = p.many in let c = few in let limit = entries_limited z v p.front.moment in record {
      opened = copy_at z (held_memory n.rooms.held) low.room;
      front = record {
        inside = p.inside;
        held = held_now;
        moving = moving_now;
        apart = refl;
        only = only_now;
        whole = whole_at z (held_memory n.rooms.held) low.room;
        mirrors = joined_mirrors;
        moment = retires.ended;
      };
      valued = (joined_slots (keys_in v.rooms.moving) p.own slots p.above p.below above_stands below_stands p.neighbours p.own_has p.has).valued;
      retires = step_since z call (on_rooms (retire_room up.room)) v n u works.stands.met retires.step;
      beside = works_both call v n u (works_of_rooms z call v n works) (works_of_stands call n u retires.beside);
      claims = retires.beside.stands.claims ∙ works.stands.claims;
      sorted = record {
        count = filled_many z (held_memory n.rooms.held) low.room (p.own ++ slots) base joined_filled (omega arith) limit ∙ (omega arith);
        prefix = filled_prefix z (held_memory n.rooms.held) low.room (p.own ++ slots) base joined_filled (omega arith) limit ∙ (omega arith);
      };
      chained = filled_chained z (held_memory n.rooms.held) low.room (p.own ++ slots) base joined_filled (omega arith) limit;
      linked = slots_linked z (held_memory n.rooms.held) low.room (p.own ++ slots) base (joined_by p.above p.below) (keys_in v.rooms.moving) limit joined_filled (omega arith) (joined_slots (keys_in v.rooms.moving) p.own slots p.above p.below above_stands below_stands p.neighbours p.own_has p.has);
      alone = frees_upper z low.room up.room p.lower p.upper v n u p.front.held works.words retires.alone;
    }
