-- A room that was split: the upper room may be opened over the upper part of the range, and then the lower one over what is left.
use Rattle.std.proofs.Common.{◌≡◌, ◌≢◌, ℕ, zero, suc, ◌+◌, ◌-◌, ◌<◌, ◌≤◌, ◌==◌, ◌⊎◌, not, nat_le, cond, Bool, true, false, List, [], ◌∷◌, ◌++◌, take, drop, length, sym, refl, ap, ◌∙◌, subst, inl, inr, arith, eq-eqb, ne_eqb, le-leb, Option}
use Rattle.std.specs.Prelude.{slice_index}
use Rattle.std.specs.List.{filter, slice_index_or}
use Rattle.std.specs.declared.cmp.Ordering.{Ordering}
use Rattle.std.specs.declared.cmp.Ordering.TheVariants.{Less, Equal, Greater}
use Rattle.std.proofs.lemmas.List.{length-take-le, length-drop, take-take, drop-take}
use mathlib.Core.Logic.{dite}
use mathlib.Core.Option.{some, some-injective, some-ne-none}
use native.Mathlib.Decide.{ℕ_discrete}
use lib.ListN.{get_elem?}
use Rattle.oak_model.specs.declared.limits.TheConstants.{GREATEST_ENTRIES}
use Rattle.oak_model.specs.Counts.{rows, Has}
use Rattle.oak_model.specs.Key.{IsKey, key_cmp}
use Rattle.oak_model.specs.KeyNumber.{key_number}
use Rattle.oak_model.specs.Limits.{Sizes}
use Rattle.oak_model.proofs.Counting.{true_both}
use Rattle.oak_model.proofs.MemberLaws.{each_has}
use Rattle.oak_model.proofs.RowLaws.{rows_same}
use Rattle.chunk_core.specs.declared.holds.Carried.{Carried}
use Rattle.chunk_core.specs.declared.holds.MovingRange.{MovingRange}
use Rattle.chunk_core.specs.declared.holds.RoomCopy.{RoomCopy}
use Rattle.chunk_core.specs.declared.layout.TheConstants.{BOUND_WORDS}
use Rattle.chunk_core.specs.KeyWords.{least_number, low_bytes, high_bytes, low_number, high_number, high_from}
use Rattle.chunk_core.specs.MayOnRooms.{MayOpenRoom}
use Rattle.chunk_core.specs.MovingRanges.{takes, is_upper, left_of, ranges_left}
use Rattle.chunk_core.specs.RoomReads.{copy_at}
use Rattle.chunk_core.specs.Rooms.{RoomMemory}
use Rattle.chunk_core.specs.Spans.{past_high, within}
use Rattle.chunk_core.proofs.SpanLaws.{high_from-is, lower_at, past-le}
use Rattle.chunk_ops.specs.declared.stored.StoredKey.{StoredKey}
use Rattle.chunk_ops.specs.Stored.{IsStored}
use Rattle.oak_core.specs.declared.sorting.SortSlot.{SortSlot}
use Rattle.oak_core.specs.Lack.{IsBelow, InSwept}
use Rattle.rebalance.specs.DroppedRange.{sum_carried}
use Rattle.rebalance.specs.Mirrors.{RangeStands, range_span, carried_key}
use Rattle.rebalance.specs.SlotRanges.{SlotsHave, BoundsAre}
use Rattle.rebalance.specs.Split.{Splits}
use Rattle.rebalance.proofs.DroppedRange.{filter_has}
use Rattle.rebalance.proofs.FilledChains.{filled_chained}
use Rattle.rebalance.proofs.FilledCopies.{filled_many, filled_prefix, filled_sum, filled_rises}
use Rattle.rebalance.proofs.MiddleBounds.{bound_stored, stored_long, middle_low_bytes, middle_high_bytes, middle_low_number}
use Rattle.rebalance.proofs.LeastKey.{least_key}
use Rattle.rebalance.proofs.SlotKeys.{filter_every, rise_front, rise_back, slots_rise, slot_carried, slot_inside, upper_sum, lower_sum, carried_over, carried_under, within_low}
use Rattle.rebalance.proofs.TakenRanges.{takes_none}

-- Where one range is left of the one that a room takes, it stands in its place, and those before it stand as they did.
pub left_there : (w : RoomCopy) (gs : List MovingRange) (i : ℕ) (g l : MovingRange) → get_elem? gs i ≡ some g → takes w g ≡ true → ((j : ℕ) (h : MovingRange) → get_elem? gs j ≡ some h → j < i → takes w h ≡ false) → left_of w g ≡ l ∷ []
    → (get_elem? (ranges_left w gs) i ≡ some l) × ((j : ℕ) → j < i → get_elem? (ranges_left w gs) j ≡ get_elem? gs j)
unfolding ranges_left
left_there w [] i g l at taken first left = absurd (some-ne-none g (sym at))
left_there w (x ∷ xs) zero g l at taken first left = let e : x ≡ g = some-injective x g at in (
  ap (λ (b : Bool). get_elem? (cond b (left_of w x ++ xs) (x ∷ ranges_left w xs)) zero) (ap (takes w) e ∙ taken) ∙ ap (λ (ls : List MovingRange). get_elem? (ls ++ xs) zero) (ap (left_of w) e ∙ left),
  (λ j lt. absurd (omega arith)),
)
left_there w (x ∷ xs) (suc i) g l at taken first left = let t = left_there w xs i g l at taken (λ j h e lt. first (suc j) h e (omega arith)) left in let no_one = first zero x refl (omega arith) in (
  ap (λ (b : Bool). get_elem? (cond b (left_of w x ++ xs) (x ∷ ranges_left w xs)) (suc i)) no_one ∙ t.0,
  before t.1 no_one,
)
  where
    before : ((j : ℕ) → j < i → get_elem? (ranges_left w xs) j ≡ get_elem? xs j) → takes w x ≡ false → (j : ℕ) → j < suc i → get_elem? (cond (takes w x) (left_of w x ++ xs) (x ∷ ranges_left w xs)) j ≡ get_elem? (x ∷ xs) j
    before same no_one zero lt = ap (λ (b : Bool). get_elem? (cond b (left_of w x ++ xs) (x ∷ ranges_left w xs)) zero) no_one
    before same no_one (suc j) lt = ap (λ (b : Bool). get_elem? (cond b (left_of w x ++ xs) (x ∷ ranges_left w xs)) (suc j)) no_one ∙ same j (omega arith)

-- The first n of all slots, which are more, were split.
pub splits_front : (e low high : ℕ) (slots : List SortSlot) (h n : ℕ) (k : StoredKey) (base : ℕ) (m m' : RoomMemory) → h ≤ n → Splits e low high (take h slots) (take (n - h) (drop h slots)) k base m m' → Splits e low high (take h (take n slots)) (drop h (take n slots)) k base m m'
splits_front e low high slots h n k base m m' le s = subst (λ (p : List SortSlot × List SortSlot). Splits e low high p.0 p.1 k base m m')
    (λ t. (sym (take-take h n slots le) t, (sym (drop-take h (n - h) slots) ∙ ap (λ (j : ℕ). drop h (take j slots)) (let q : h + (n - h) ≡ n = omega arith in q)) t)) s

-- Sorted slots with the entries of the range g of the room `low` were split at slot h, which has the key k.
module _ (z : Sizes) (limit : z.entries ≤ GREATEST_ENTRIES) (m m' : RoomMemory) (low high : ℕ) (g : MovingRange) (stands : RangeStands g) (keys : ℕ → List ℕ) (xs : List SortSlot) (slots : SlotsHave keys xs g) (bounds : BoundsAre m low g) (free : m.latch high ≡ 0) (few : length xs ≤ z.entries)
    (h : ℕ) (some_low : 0 < h) (some_high : h < length xs) (d : SortSlot) (k : StoredKey) (stored : IsStored k (keys (slice_index_or xs h d).key)) (base : ℕ) (base_is : base ≡ g.base) (splits : Splits z.entries low high (take h xs) (drop h xs) k base m m') where
  abbrev middle : ℕ
  middle = key_number (keys (slice_index_or xs h d).key)

  -- what is left of the range once the upper room is opened
  abbrev pub lower_range : MovingRange
  lower_range = record g { high = high_from (rows 0 BOUND_WORDS (m'.low high)); carried = filter (λ (c : Carried). not (nat_le (low_number (rows 0 BOUND_WORDS (m'.low high))) (carried_key c))) g.carried }

  pub upper_low : rows 0 BOUND_WORDS (m'.low high) ≡ k.length ∷ k.words
  upper_low = bound_stored k.length k.words (m'.low high) (stored_long k (keys (slice_index_or xs h d).key) stored) splits.middle_low

  pub upper_high : rows 0 BOUND_WORDS (m'.high high) ≡ g.high
  upper_high = rows_same 0 BOUND_WORDS (m'.high high) (m.high low) (λ j le lt. splits.upper j (omega arith)) ∙ bounds.high

  pub lower_low : rows 0 BOUND_WORDS (m'.low low) ≡ g.low
  lower_low = rows_same 0 BOUND_WORDS (m'.low low) (m.low low) (λ j le lt. splits.lower j) ∙ bounds.low

  pub lower_high : rows 0 BOUND_WORDS (m'.high low) ≡ (k.length + 1) ∷ k.words
  lower_high = bound_stored (k.length + 1) k.words (m'.high low) (stored_long k (keys (slice_index_or xs h d).key) stored) splits.middle_high

  -- the upper room begins at the key
  pub upper_number : low_number (rows 0 BOUND_WORDS (m'.low high)) ≡ key_number (keys (slice_index_or xs h d).key)
  upper_number = ap low_number upper_low ∙ middle_low_number k (keys (slice_index_or xs h d).key) stored

  -- which lies in the range
  pub middle_inside : within (range_span g) (low_number (rows 0 BOUND_WORDS (m'.low high))) ≡ 1
  middle_inside = ap (within (range_span g)) upper_number ∙ slot_inside keys xs g slots stands h d some_high

  -- and above its low bound
  pub middle_above : low_number g.low < low_number (rows 0 BOUND_WORDS (m'.low high))
  middle_above = let a = within_low (range_span g) (key_number (keys (slice_index_or xs 0 d).key)) (slot_inside keys xs g slots stands 0 d (omega arith)) in let b = slots_rise keys xs g slots 0 h d some_low some_high in let e = upper_number in omega arith

  -- and above the least key, since the first entry's key is below it
  some_key : least_number < low_number (rows 0 BOUND_WORDS (m'.low high))
  some_key = let t = slot_carried keys xs g slots 0 d (omega arith) in let a = least_key (keys (slice_index_or xs 0 d).key) (subst (λ (w : ℕ). IsKey (keys w)) t.2 t.3.named.key) in
      let b = slots_rise keys xs g slots 0 h d some_low some_high in let e = upper_number in omega arith

  below : (i : ℕ) → i < h → key_number (keys (slice_index_or xs i d).key) < low_number (rows 0 BOUND_WORDS (m'.low high))
  below i l = let r = slots_rise keys xs g slots i h d l some_high in let e = upper_number in omega arith

  above : (i : ℕ) → h ≤ i → i < length xs → low_number (rows 0 BOUND_WORDS (m'.low high)) ≤ key_number (keys (slice_index_or xs i d).key)
  above i le l = let e = upper_number in dite (ℕ_discrete i h) (λ q. let s = ap (λ (j : ℕ). key_number (keys (slice_index_or xs j d).key)) q in omega arith) (λ ne. let r = slots_rise keys xs g slots h i d (omega arith) l in omega arith)

  key_few : k.length ≤ 64
  key_few = let l = stored.long in let f = stored.few in omega arith

  takes_upper : takes (copy_at z m' high) g ≡ true
  takes_upper = let a = ap high_number upper_high in let b = middle_above in
      true_both (high_number (rows 0 BOUND_WORDS (m'.high high)) == high_number g.high) (nat_le (low_number g.low) (low_number (rows 0 BOUND_WORDS (m'.low high)))) (eq-eqb (high_number (rows 0 BOUND_WORDS (m'.high high))) (high_number g.high) a) (le-leb (low_number g.low) (low_number (rows 0 BOUND_WORDS (m'.low high))) (omega arith))

  takes_lower : takes (copy_at z m' low) lower_range ≡ true
  takes_lower = let a : high_number (rows 0 BOUND_WORDS (m'.high low)) ≡ high_number (high_from (rows 0 BOUND_WORDS (m'.low high))) = ap high_number (lower_high ∙ sym (ap high_from upper_low)) in let b = ap low_number lower_low in
      true_both (high_number (rows 0 BOUND_WORDS (m'.high low)) == high_number (high_from (rows 0 BOUND_WORDS (m'.low high)))) (nat_le (low_number g.low) (low_number (rows 0 BOUND_WORDS (m'.low low)))) (eq-eqb (high_number (rows 0 BOUND_WORDS (m'.high low))) (high_number (high_from (rows 0 BOUND_WORDS (m'.low high)))) a) (le-leb (low_number g.low) (low_number (rows 0 BOUND_WORDS (m'.low low))) (omega arith))

  -- the lower range is what is left
  pub left_lower : left_of (copy_at z m' high) g ≡ lower_range ∷ []
  left_lower = ap (λ (b : Bool). cond b [] (lower_range ∷ [])) (ne_eqb (low_number (rows 0 BOUND_WORDS (m'.low high))) (low_number g.low) (λ e. let a = middle_above in absurd (omega arith)))

  -- and nothing is left of that
  pub left_none : left_of (copy_at z m' low) lower_range ≡ []
  left_none = ap (λ (b : Bool). cond b [] (record lower_range { high = high_from (rows 0 BOUND_WORDS (m'.low low)); carried = filter (λ c. not (is_upper (copy_at z m' low) c)) lower_range.carried } ∷ [])) (eq-eqb (low_number (rows 0 BOUND_WORDS (m'.low low))) (low_number g.low) (ap low_number lower_low))

  all_upper : filter (is_upper (copy_at z m' low)) lower_range.carried ≡ lower_range.carried
  all_upper = filter_every (is_upper (copy_at z m' low)) lower_range.carried (λ c m. le-leb (low_number (rows 0 BOUND_WORDS (m'.low low))) (carried_key c)
      (let a = within_low (range_span g) (carried_key c) (each_has (λ (x : Carried). within (range_span g) (carried_key x) ≡ 1) g.carried c stands.inside (filter_has (λ (x : Carried). not (nat_le (low_number (rows 0 BOUND_WORDS (m'.low high))) (carried_key x))) g.carried c m)) in let b = ap low_number lower_low in omega arith))

  lower_begun : within (record { low = low_number g.low; high = high_number (high_from (rows 0 BOUND_WORDS (m'.low high))); base = 0 }) (low_number g.low) ≡ 1
  lower_begun = lower_at (record { low = low_number g.low; high = high_number g.high; base = 0 }) (record { low = low_number g.low; high = high_number (high_from (rows 0 BOUND_WORDS (m'.low high))); base = 0 }) (record { low = low_number (rows 0 BOUND_WORDS (m'.low high)); high = high_number g.high; base = 0 })
      (low_number (rows 0 BOUND_WORDS (m'.low high))) refl (high_from-is (rows 0 BOUND_WORDS (m'.low high))) refl refl middle_inside (low_number g.low) stands.begun middle_above

  back_few : length (drop h xs) ≤ z.entries
  back_few = let n = length-drop h xs in omega arith

  front_few : length (take h xs) ≤ z.entries
  front_few = let n = length-take-le h xs (let q : h ≤ length xs = omega arith in q) in omega arith

  -- Among the ranges of the pass it is the first that the rooms take.
  module _ (gs : List MovingRange) (place : ℕ) (there : get_elem? gs place ≡ some g) (first_upper : (j : ℕ) (x : MovingRange) → get_elem? gs j ≡ some x → j < place → takes (copy_at z m' high) x ≡ false) (first_lower : (j : ℕ) (x : MovingRange) → get_elem? gs j ≡ some x → j < place → takes (copy_at z m' low) x ≡ false) where
    -- the upper room may be opened
    pub upper_opens : MayOpenRoom z (copy_at z m' high) gs
    upper_opens = let filled = splits.high_filled in let many = filled_many z m' high (drop h xs) base filled back_few limit in let prefix = filled_prefix z m' high (drop h xs) base filled back_few limit in let fit = bounds.fit in let n = length-drop h xs in record {
      place = place;
      range = g;
      there = there;
      first = first_upper;
      takes_it = takes_upper;
      base = filled.base_is ∙ base_is;
      latch = ap (λ (f : ℕ → ℕ). f high) splits.latch ∙ free;
      few = let b = back_few in omega arith;
      chained = filled_chained z m' high (drop h xs) base filled back_few limit;
      entries = λ f. filled_sum z m' high (drop h xs) base filled back_few limit f
          ∙ (sym (upper_sum keys xs g slots (low_number (rows 0 BOUND_WORDS (m'.low high))) h d (omega arith) below above f) ∙ sym (carried_over keys xs g slots (low_number (rows 0 BOUND_WORDS (m'.low high))) f));
      under = middle_inside;
      key = λ _. some_key;
      bounds = record {
        low_fits = let q = key_few in let e : slice_index (rows 0 BOUND_WORDS (m'.low high)) 0 ≡ k.length = ap (λ (ws : List ℕ). slice_index ws 0) upper_low in omega arith;
        high_fits = let q = fit.high_fits in let e : slice_index (rows 0 BOUND_WORDS (m'.high high)) 0 ≡ slice_index g.high 0 = ap (λ (ws : List ℕ). slice_index ws 0) upper_high in omega arith;
      };
      sorted = λ i j c e lt l ch eh ci ej. filled_rises z m' high (drop h xs) base filled back_few limit keys (rise_back keys xs h (omega arith) slots.rise) i j c e lt (omega arith) (slots.have c ch (slots.valued c ch)) (slots.have e eh (slots.valued e eh)) ci ej;
    }

    -- and then the lower one
    pub lower_opens : MayOpenRoom z (copy_at z m' low) (ranges_left (copy_at z m' high) gs)
    lower_opens = let filled = splits.low_filled in let many = filled_many z m' low (take h xs) base filled front_few limit in let prefix = filled_prefix z m' low (take h xs) base filled front_few limit in let fit = bounds.fit in
        let n = length-take-le h xs (let q : h ≤ length xs = omega arith in q) in let left = left_there (copy_at z m' high) gs place g lower_range there takes_upper first_upper left_lower in record {
          place = place;
          range = lower_range;
          there = left.0;
          first = λ j x e lt. first_lower j x (sym (left.1 j lt) ∙ e) lt;
          takes_it = takes_lower;
          base = filled.base_is ∙ base_is;
          latch = ap (λ (f : ℕ → ℕ). f low) splits.latch ∙ bounds.latch;
          few = let b = front_few in omega arith;
          chained = filled_chained z m' low (take h xs) base filled front_few limit;
          entries = λ f. filled_sum z m' low (take h xs) base filled front_few limit f
              ∙ (sym (lower_sum keys xs g slots (low_number (rows 0 BOUND_WORDS (m'.low high))) h d (omega arith) below above f)
              ∙ (sym (carried_under keys xs g slots (low_number (rows 0 BOUND_WORDS (m'.low high))) f) ∙ ap (sum_carried f) (sym all_upper)));
          under = ap (within (record { low = low_number g.low; high = high_number (high_from (rows 0 BOUND_WORDS (m'.low high))); base = 0 })) (ap low_number lower_low) ∙ lower_begun;
          key = λ other. absurd (other (ap low_number lower_low));
          bounds = record {
            low_fits = let q = fit.low_fits in let e : slice_index (rows 0 BOUND_WORDS (m'.low low)) 0 ≡ slice_index g.low 0 = ap (λ (ws : List ℕ). slice_index ws 0) lower_low in omega arith;
            high_fits = let q = key_few in let e : slice_index (rows 0 BOUND_WORDS (m'.high low)) 0 ≡ k.length + 1 = ap (λ (ws : List ℕ). slice_index ws 0) lower_high in omega arith;
          };
          sorted = λ i j c e lt l ch eh ci ej. let keep : (x : Carried) → Has x lower_range.carried → Has x g.carried = λ x m. filter_has (λ (y : Carried). not (nat_le (low_number (rows 0 BOUND_WORDS (m'.low high))) (carried_key y))) g.carried x m in
              filled_rises z m' low (take h xs) base filled front_few limit keys (rise_front keys xs h (omega arith) slots.rise) i j c e lt (omega arith) (slots.have c (keep c ch) (slots.valued c (keep c ch))) (slots.have e (keep e eh) (slots.valued e (keep e eh))) ci ej;
        }

  -- A range that has no key in common with this one is not taken by the upper room.
  pub upper_takes_none : (x : MovingRange) → ((n : ℕ) → within (range_span g) n + within (range_span x) n ≤ 1) → takes (copy_at z m' high) x ≡ false
  upper_takes_none x apart = takes_none (copy_at z m' high) g x middle_inside
      (let i = middle_inside in let p = past-le (low_number g.low) (low_number (rows 0 BOUND_WORDS (m'.low high))) in let e = ap (λ (ws : List ℕ). past_high (high_number ws) (low_number (rows 0 BOUND_WORDS (m'.low high)))) upper_high in omega arith) apart

  -- nor by the lower one
  pub lower_takes_none : (x : MovingRange) → ((n : ℕ) → within (range_span g) n + within (range_span x) n ≤ 1) → takes (copy_at z m' low) x ≡ false
  lower_takes_none x apart = takes_none (copy_at z m' low) g x (ap (λ (ws : List ℕ). within (range_span g) (low_number ws)) lower_low ∙ stands.begun)
      (let i = lower_begun in let p = past-le (low_number g.low) (low_number g.low) in let e = ap (λ (ws : List ℕ). past_high (high_number ws) (low_number (rows 0 BOUND_WORDS (m'.low low)))) (lower_high ∙ sym (ap high_from upper_low)) in
      let f = ap (λ (ws : List ℕ). past_high (high_number (high_from (rows 0 BOUND_WORDS (m'.low high)))) (low_number ws)) lower_low in omega arith) apart

  -- Where the range is the first of the pass, the others are left once both rooms are opened.
  pub both_opened : (gs : List MovingRange) → ranges_left (copy_at z m' low) (ranges_left (copy_at z m' high) (g ∷ gs)) ≡ gs
  unfolding ranges_left
  both_opened gs = ap (λ (b : Bool). ranges_left (copy_at z m' low) (cond b (left_of (copy_at z m' high) g ++ gs) (g ∷ ranges_left (copy_at z m' high) gs))) takes_upper
      ∙ (ap (λ (l : List MovingRange). ranges_left (copy_at z m' low) (l ++ gs)) left_lower
      ∙ (ap (λ (b : Bool). cond b (left_of (copy_at z m' low) lower_range ++ gs) (lower_range ∷ ranges_left (copy_at z m' low) gs)) takes_lower ∙ ap (λ (l : List MovingRange). l ++ gs) left_none))

  -- Each key of the range is in what is swept with one of the two rooms.
  pub swept_halves : (key : List ℕ) (met one other : ℕ) → InSwept (record { low = low_bytes g.low; high = high_bytes g.high; met = met }) key
      → InSwept (record { low = low_bytes (rows 0 BOUND_WORDS (m'.low low)); high = high_bytes (rows 0 BOUND_WORDS (m'.high low)); met = one }) key ⊎ InSwept (record { low = low_bytes (rows 0 BOUND_WORDS (m'.low high)); high = high_bytes (rows 0 BOUND_WORDS (m'.high high)); met = other }) key
  swept_halves key met one other s = by (key_cmp key (keys (slice_index_or xs h d).key)) refl
    where
      upper : key_cmp key (keys (slice_index_or xs h d).key) ≢ Less → InSwept (record { low = low_bytes (rows 0 BOUND_WORDS (m'.low high)); high = high_bytes (rows 0 BOUND_WORDS (m'.high high)); met = other }) key
      upper ne = record {
        from = subst (λ (b : List ℕ). key_cmp key b ≢ Less) (sym (ap low_bytes upper_low ∙ middle_low_bytes k (keys (slice_index_or xs h d).key) stored)) ne;
        to = subst (λ (ws : List ℕ). IsBelow (high_bytes ws) key) (sym upper_high) s.to;
      }

      by : (o : Ordering) → key_cmp key (keys (slice_index_or xs h d).key) ≡ o
          → InSwept (record { low = low_bytes (rows 0 BOUND_WORDS (m'.low low)); high = high_bytes (rows 0 BOUND_WORDS (m'.high low)); met = one }) key ⊎ InSwept (record { low = low_bytes (rows 0 BOUND_WORDS (m'.low high)); high = high_bytes (rows 0 BOUND_WORDS (m'.high high)); met = other }) key
      by Less e = inl record {
        from = subst (λ (ws : List ℕ). key_cmp key (low_bytes ws) ≢ Less) (sym lower_low) s.from;
        to = subst (λ (b : Option (List ℕ)). IsBelow b key) (sym (ap high_bytes lower_high ∙ middle_high_bytes k (keys (slice_index_or xs h d).key) stored)) e;
      }
      by Equal e = inr (upper (λ q. cc))
      by Greater e = inr (upper (λ q. cc))
