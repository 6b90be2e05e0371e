-- A held room that has the entries of a moving range may be opened over it, and takes all of it.
use Rattle.std.proofs.Common.{◌≡◌, ℕ, ◌-◌, ◌<◌, ◌≤◌, ◌==◌, cond, Bool, true, false, nat_le, List, [], ◌∷◌, ◌++◌, sym, refl, ap, ◌∙◌, subst, arith, eq-eqb, le-leb, Some}
use Rattle.std.specs.Prelude.{filter, not}
use mathlib.Core.Option.{some}
use lib.ListN.{get_elem?}
use Rattle.oak_model.specs.Counts.{total, Each}
use Rattle.oak_model.specs.Limits.{Sizes}
use Rattle.oak_model.proofs.Counting.{true_both}
use Rattle.oak_model.proofs.Lists.{each_map}
use Rattle.oak_model.proofs.MemberLaws.{filter-cases}
use Rattle.chunk_core.specs.declared.holds.Carried.{Carried}
use Rattle.chunk_core.specs.declared.holds.EntryWords.{EntryWords}
use Rattle.chunk_core.specs.declared.holds.MovingRange.{MovingRange}
use Rattle.chunk_core.specs.declared.holds.RoomCopy.{RoomCopy}
use Rattle.chunk_core.specs.ChainedRooms.{IsChained}
use Rattle.chunk_core.specs.KeyWords.{low_number, high_number, high_from}
use Rattle.chunk_core.specs.MayOnRooms.{MayOpenRoom}
use Rattle.chunk_core.specs.MovingRanges.{takes, is_upper, upper_of, left_of, ranges_left, ranges_opened}
use Rattle.chunk_core.specs.Spans.{past_high, within}
use Rattle.chunk_core.proofs.SpanLaws.{past-cases}
use Rattle.rebalance.specs.Copies.{AllLinked}
use Rattle.rebalance.specs.Mirrors.{Mirrors, RangeStands, range_span, carried_key}
use Rattle.rebalance.proofs.LinkedCopies.{linked_are}

-- what all pass a filter keeps
all_pass : (p : Carried → Bool) (xs : List Carried) → Each (λ (c : Carried). p c ≡ true) xs → filter p xs ≡ xs
all_pass p [] h = refl
all_pass p (x ∷ xs) h = filter-cases p x xs (λ l. l ≡ x ∷ xs) (λ _. ap (λ (l : List Carried). x ∷ l) (all_pass p xs h.1)) (λ e. absurd (false-true (sym e ∙ h.0)))
  where
    false-true : false ≡ true → ⊥
    false-true e = cc

-- a key of a range is not below its low bound
not_below : (g : MovingRange) (k : ℕ) → within (range_span g) k ≡ 1 → low_number g.low ≤ k
not_below g k = past-cases (low_number g.low) k (λ (t : ℕ). t - past_high (high_number g.high) k ≡ 1 → low_number g.low ≤ k) (λ l _. l) (λ _ e. absurd (omega arith))

module _ (z : Sizes) (w : RoomCopy) (g : MovingRange) (mirrors : Mirrors z w g) where
  low_same : low_number w.low ≡ low_number g.low
  low_same = ap low_number mirrors.low

  -- the room is one of that range
  pub takes_range : takes w g ≡ true
  takes_range = true_both (high_number w.high == high_number g.high) (nat_le (low_number g.low) (low_number w.low)) (eq-eqb (high_number w.high) (high_number g.high) (ap high_number mirrors.high)) (le-leb (low_number g.low) (low_number w.low) (let e = low_same in omega arith))

  -- nothing of the range is left
  pub none_left : left_of w g ≡ []
  none_left = ap (λ (b : Bool). cond b [] (lower_part ∷ [])) (eq-eqb (low_number w.low) (low_number g.low) low_same)
    where
      lower_part : MovingRange
      lower_part = record g { high = high_from w.low; carried = filter (λ c. not (is_upper w c)) g.carried }

  module _ (stands : RangeStands g) where
    -- all entries of the range are the room's
    pub all_upper : upper_of w g ≡ g.carried
    all_upper = all_pass (is_upper w) g.carried (each_map (λ (c : Carried). within (range_span g) (carried_key c) ≡ 1) (λ (c : Carried). is_upper w c ≡ true) g.carried
        (λ c i. le-leb (low_number w.low) (carried_key c) (let e = low_same in let l = not_below g (carried_key c) i in omega arith)) stands.inside)

    -- It may be opened over the range, where that is the first of the pass's that it is one of.
    pub opens_whole : (gs : List MovingRange) (i : ℕ) → get_elem? gs i ≡ some g → ((j : ℕ) (h : MovingRange) → get_elem? gs j ≡ some h → j < i → takes w h ≡ false) → IsChained z w → AllLinked w → MayOpenRoom z w gs
    opens_whole gs i there first chained all = record {
      place = i;
      range = g;
      there = there;
      first = first;
      takes_it = takes_range;
      base = mirrors.base;
      latch = mirrors.latch;
      few = mirrors.few;
      chained = chained;
      entries = λ f. ap (total (λ (e : EntryWords). f e.word e.value)) (sym (linked_are w all)) ∙ (mirrors.entries f ∙ ap (total (λ (c : Carried). f c.word c.value)) (sym all_upper));
      under = subst (λ (k : ℕ). within (range_span g) k ≡ 1) (sym low_same) stands.begun;
      key = λ other. absurd (other low_same);
      bounds = mirrors.bounds;
      sorted = mirrors.sorted;
    }

-- what is left of ranges of which the room takes the first
pub first_opened : (z : Sizes) (w : RoomCopy) (g : MovingRange) (gs : List MovingRange) → Mirrors z w g → ranges_opened (Some w) (g ∷ gs) ≡ gs
unfolding ranges_left
first_opened z w g gs m = ap (λ (b : Bool). cond b (left_of w g ++ gs) (g ∷ ranges_left w gs)) (takes_range z w g m) ∙ ap (λ (l : List MovingRange). l ++ gs) (none_left z w g m)

-- and of ranges of which it takes a later one
pub later_opened : (w : RoomCopy) (h : MovingRange) (gs : List MovingRange) → takes w h ≡ false → ranges_opened (Some w) (h ∷ gs) ≡ h ∷ ranges_opened (Some w) gs
unfolding ranges_left
later_opened w h gs e = ap (λ (b : Bool). cond b (left_of w h ++ gs) (h ∷ ranges_left w gs)) e
