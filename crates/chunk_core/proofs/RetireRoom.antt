-- A held room is retired, and the range that came with it joins the one just below.
use Rattle.std.proofs.Common.{◌≡◌, ℕ, ◌+◌, ◌-◌, ◌<◌, ◌≤◌, ◌==◌, cond, Bool, List, [], ◌∷◌, map, set, sym, refl, ap, ◌∙◌, subst, inr, arith, Option, Some, None, eq-eqb, ne_eqb, eqb-true, ◌*◌}
use Rattle.std.proofs.lemmas.Option.{none-some, same_Some}
use mathlib.Core.Logic.{dite}
use mathlib.Core.Option.{some}
use native.Mathlib.Decide.{ℕ_discrete}
use lib.ListN.{get_elem?}
use Rattle.chunk_core.specs.declared.states.TheConstants.{FREE, HELD}
use Rattle.chunk_core.specs.declared.holds.Carried.{Carried}
use Rattle.chunk_core.specs.declared.holds.MovingRange.{MovingRange}
use Rattle.chunk_core.specs.declared.holds.RoomHolds.{RoomHolds}
use Rattle.oak_model.specs.Counts.{total, Each, one_if}
use Rattle.oak_model.specs.Limits.{Sizes}
use Rattle.oak_model.proofs.Changes.{stepped}
use Rattle.oak_model.proofs.Counting.{test-cases, total_map}
use Rattle.oak_model.proofs.Lists.{each_append}
use Rattle.oak_model.proofs.PutLaws.{put-here, put-else}
use Rattle.pin_word.specs.PinWord.{state_of, generation_of, count_of}
use Rattle.chunk_core.specs.CoverRule.{CoversPartition}
use Rattle.chunk_core.specs.CoverSums.{weight, each, stray, all_of, keyless, owners_in_rooms, owning}
use Rattle.chunk_core.specs.Covers.{Cover, cover_at, cover_from, moving_of}
use Rattle.chunk_core.specs.KeyWords.{low_number, high_number}
use Rattle.chunk_core.specs.MayOnRooms.{MayRetire}
use Rattle.chunk_core.specs.MovingRanges.{is_below, joined_range, joined_by, joined_to, range_of, ranges_without, ranges_joined}
use Rattle.chunk_core.specs.RoomCopies.{without_room}
use Rattle.chunk_core.specs.RoomRule.{in_room_state, AreTrueRanges, RoomsStand}
use Rattle.chunk_core.specs.RoomStep.{put_room}
use Rattle.chunk_core.specs.Rooms.{RoomMemory, at_room_pin}
use Rattle.chunk_core.specs.Spans.{within}
use Rattle.chunk_core.specs.ValueWord.{names_header}
use Rattle.chunk_core.proofs.CoverLaws.{all_aside, moves_le}
use Rattle.chunk_core.proofs.RangeMoves.{joined_parted, ranges_apart, one_joined}
use Rattle.chunk_core.proofs.Ranges.{Parted, parted_same, parted_covers}
use Rattle.chunk_core.proofs.RoomStates.{given_up}
use Rattle.chunk_core.proofs.SpanLaws.{past-le, ends_behind}
use Rattle.chunk_core.proofs.Weights.{weight_free, weight_held, free_none, is_so}
use Rattle.chunk_core.proofs.RoomOwners.{owners_aside}
use Rattle.std.specs.Prelude.{nat_lt}

-- without a range of the room all ranges stay
none_without : (r : ℕ) (gs : List MovingRange) → range_of r gs ≡ None → ranges_without r gs ≡ gs
unfolding range_of ranges_without
none_without r [] e = refl
none_without r (g ∷ gs) e = dite (ℕ_discrete g.room r) (λ s. absurd (none-some g (sym (sym (ap (λ (b : Bool). cond b (Some g) (range_of r gs)) (eq-eqb g.room r s)) ∙ e))))
    (λ n. ap (λ (b : Bool). cond b (ranges_without r gs) (g ∷ ranges_without r gs)) (ne_eqb g.room r n) ∙ ap (λ (l : List MovingRange). g ∷ l) (none_without r gs (sym (ap (λ (b : Bool). cond b (Some g) (range_of r gs)) (ne_eqb g.room r n)) ∙ e)))

true_without : (content : ℕ → List ℕ) (r : ℕ) (gs : List MovingRange) → AreTrueRanges content gs → AreTrueRanges content (ranges_without r gs)
unfolding ranges_without
true_without content r [] h = h
true_without content r (g ∷ gs) h = test-cases (g.room == r) (λ t. AreTrueRanges content (cond t (ranges_without r gs) (g ∷ ranges_without r gs))) (λ _. true_without content r gs h.1) (λ _. (h.0, true_without content r gs h.1))

true_of : (content : ℕ → List ℕ) (r : ℕ) (gs : List MovingRange) (g : MovingRange) → range_of r gs ≡ Some g → AreTrueRanges content gs → Each (λ (c : Carried). content c.word ≡ c.words) g.carried
unfolding range_of
true_of content r [] g e h = absurd (none-some g e)
true_of content r (x ∷ xs) g e h = dite (ℕ_discrete x.room r) (λ s. subst (λ (t : MovingRange). Each (λ (c : Carried). content c.word ≡ c.words) t.carried) (same_Some x g (sym (ap (λ (b : Bool). cond b (Some x) (range_of r xs)) (eq-eqb x.room r s)) ∙ e)) h.0)
    (λ n. true_of content r xs g (sym (ap (λ (b : Bool). cond b (Some x) (range_of r xs)) (ne_eqb x.room r n)) ∙ e) h.1)

true_joined : (content : ℕ → List ℕ) (g : MovingRange) (gs : List MovingRange) → Each (λ (c : Carried). content c.word ≡ c.words) g.carried → AreTrueRanges content gs → AreTrueRanges content (map (joined_range g) gs)
true_joined content g [] t h = h
true_joined content g (x ∷ xs) t h = (test-cases (is_below g x) (λ b. Each (λ (c : Carried). content c.word ≡ c.words) (cond b (joined_by g x) x).carried) (λ _. each_append (λ (c : Carried). content c.word ≡ c.words) x.carried g.carried h.0 t) (λ _. h.0), true_joined content g xs t h.1)

-- the parts of ranges that a retired room leaves
pub record Retires (gs : List MovingRange) (r : ℕ) : Type 0 where
  pub gone : List Cover
  pub come : List Cover
  pub sums : (F : Cover → ℕ) → total F (map cover_from (ranges_joined r gs)) + total F gone ≡ total F (map cover_from gs) + total F come
  pub parted : Parted gone come
  pub less : (F : Cover → ℕ) → total F gone ≤ total F (map cover_from gs)

has_low : (g : MovingRange) → 1 - within (cover_from g).span (low_number g.low) ≡ 0 → within (cover_from g).span (low_number g.low) ≡ 1
has_low g e = let p = past-le (low_number g.low) (low_number g.low) in omega arith

none_retires : (r : ℕ) (gs : List MovingRange) → range_of r gs ≡ None → Retires gs r
unfolding total
none_retires r gs is = record { gone = []; come = []; sums = λ F. ap (λ (o : Option MovingRange). total F (map cover_from (joined_to o (ranges_without r gs))) + 0) is ∙ ap (λ (l : List MovingRange). total F (map cover_from l) + 0) (none_without r gs is); parted = parted_same []; less = λ F. omega arith }

one_retires : (r : ℕ) (gs : List MovingRange) (g : MovingRange) → range_of r gs ≡ Some g → MayRetire r gs → total (λ (c : Cover). 1 - within c.span c.span.low) (map cover_from gs) ≡ 0 → Retires gs r
unfolding total
one_retires r gs g is may begun = let j = one_joined g (ranges_without r gs) (may.joins g is) in let h = j.0 in let e = eqb-true (high_number h.high) (low_number g.low + 1) j.1 in
    let lows : MovingRange → ℕ = (λ (x : MovingRange). 1 - within (cover_from x).span (low_number x.low)) in
    let all = total_map cover_from (λ (c : Cover). 1 - within c.span c.span.low) gs in let ag = ranges_apart lows r gs g may.one is in let ah = (j.2 lows).0 in
    let wg = has_low g (omega arith) in let wh = has_low h (omega arith) in record {
      gone = cover_from h ∷ cover_from g ∷ [];
      come = cover_from (joined_by g h) ∷ [];
      sums = λ F. let a = ranges_apart (λ (x : MovingRange). F (cover_from x)) r gs g may.one is in let q = (j.2 (λ (x : MovingRange). F (cover_from x))).1 in
          let now : total F (map cover_from (ranges_joined r gs)) ≡ total F (map cover_from (map (joined_range g) (ranges_without r gs))) = ap (λ (o : Option MovingRange). total F (map cover_from (joined_to o (ranges_without r gs)))) is in
          let m1 = total_map cover_from F (map (joined_range g) (ranges_without r gs)) in let m2 = total_map cover_from F gs in omega arith;
      parted = joined_parted g h e (ends_behind (cover_from h).span (low_number g.low) e wh) (let p = past-le (low_number g.low) (low_number g.low) in omega arith);
      less = λ F. let a = ranges_apart (λ (x : MovingRange). F (cover_from x)) r gs g may.one is in let q = (j.2 (λ (x : MovingRange). F (cover_from x))).0 in let m2 = total_map cover_from F gs in omega arith;
    }

pub retires : (r : ℕ) (gs : List MovingRange) → MayRetire r gs → total (λ (c : Cover). 1 - within c.span c.span.low) (map cover_from gs) ≡ 0 → Retires gs r
retires r gs may begun = go (range_of r gs) refl
  where
    go : (o : Option MovingRange) → range_of r gs ≡ o → Retires gs r
    go None is = none_retires r gs is
    go (Some g) is = one_retires r gs g is may begun

true_after : (content : ℕ → List ℕ) (r : ℕ) (gs : List MovingRange) → AreTrueRanges content gs → AreTrueRanges content (ranges_joined r gs)
true_after content r gs h = go (range_of r gs) refl
  where
    go : (o : Option MovingRange) → range_of r gs ≡ o → AreTrueRanges content (joined_to o (ranges_without r gs))
    go None is = true_without content r gs h
    go (Some g) is = true_joined content g (ranges_without r gs) (true_of content r gs g is h) (true_without content r gs h)

module _ (z : Sizes) (m : RoomMemory) (content : ℕ → List ℕ) (is_key_word : ℕ → ℕ) (hs : List RoomHolds) (rule : RoomsStand z m content hs) (parts : CoversPartition z m content is_key_word hs) (seat : ℕ) (a : RoomHolds) (here : get_elem? hs seat ≡ some a)
    (r x : ℕ) (lr : r < z.chunks) (held : 0 < in_room_state r HELD a) (may : MayRetire r a.moving) (now : state_of x ≡ FREE) (count : count_of x ≡ count_of (m.pin r)) (generation : generation_of x ≡ generation_of (m.pin r)) where
  abbrev m' : RoomMemory
  m' = put_room m (at_room_pin r) x

  abbrev hs' : List RoomHolds
  hs' = set hs seat (record a { held = without_room r a.held; moving = ranges_joined r a.moving })

  ranges_le : (F : Cover → ℕ) → total F (moving_of a) ≤ all_of z m content hs F
  ranges_le F = moves_le z.chunks m.pin (cover_at m content) hs F seat a here

  -- the ranges that go, and those that come
  pub left : Retires a.moving r
  left = retires r a.moving may (let l = ranges_le (λ (y : Cover). 1 - within y.span y.span.low) in let g = parts.begun in omega arith)

  was : state_of (m.pin r) ≡ HELD
  was = is_so z m content hs rule seat a here r HELD (inr refl) held

  pub retire_step : (F : Cover → ℕ) → all_of z m' content hs' F + total F left.gone ≡ all_of z m content hs F + total F left.come
  unfolding total
  retire_step F = let s = all_aside z m m' content hs hs' (a ∷ []) (record a { held = without_room r a.held; moving = ranges_joined r a.moving } ∷ []) (stepped hs seat a (record a { held = without_room r a.held; moving = ranges_joined r a.moving }) here) r lr (λ j ne. put-else m.pin r x j ne) (λ j _. refl) (weight_held (m.pin r) was) (ap weight (put-here m.pin r x r refl) ∙ weight_free x now) F in
      let t = left.sums F in omega arith

  -- each block has the owners that it had
  pub retire_owners : (names_it : ℕ → ℕ) → owners_in_rooms z m' content hs' names_it ≡ owners_in_rooms z m content hs names_it
  unfolding total
  retire_owners names_it = let s = owners_aside z m m' content hs hs' (a ∷ []) (record a { held = without_room r a.held; moving = ranges_joined r a.moving } ∷ []) (stepped hs seat a (record a { held = without_room r a.held; moving = ranges_joined r a.moving }) here) r lr (λ j ne. put-else m.pin r x j ne) (λ j _. refl) names_it
      (weight_held (m.pin r) was) (ap weight (put-here m.pin r x r refl) ∙ weight_free x now) in let t = left.sums (each (owning names_it)) in let e = left.parted.entries (λ y. one_if (nat_lt 0 y.word) * names_it y.word) in omega arith

  -- what is nothing over all covers is nothing over the ranges that go
  pub gone_none : (F : Cover → ℕ) → all_of z m content hs F ≡ 0 → total F left.gone ≡ 0
  gone_none F e = let l = left.less F in let k = ranges_le F in omega arith

  pub retire_partition : CoversPartition z m' content is_key_word hs'
  retire_partition = parted_covers z m m' content is_key_word hs hs' left.gone left.come left.parted retire_step (gone_none (λ (y : Cover). 1 - within y.span y.span.low) parts.begun) (gone_none (λ (y : Cover). keyless y.span) parts.keyed) (gone_none (each stray) parts.inside) (gone_none (λ (y : Cover). names_header y.span.base) parts.bases) parts

  pub retire_rooms : RoomsStand z m' content hs'
  retire_rooms = given_up z m content hs rule seat a here r x held count generation (omega arith) (λ s is. free_none x s now is) (ranges_joined r a.moving) (λ weighs. absurd (let n = weight_free x now in omega arith)) (λ i weighs. absurd (let n = weight_free x now in omega arith)) (λ i weighs. absurd (let n = weight_free x now in omega arith)) (true_after content r a.moving (rule.carried seat a here))
