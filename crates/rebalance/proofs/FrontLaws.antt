-- The front room of those that a pass holds: its words, and what is left when it is opened.
use Rattle.std.proofs.Common.{◌≡◌, ◌≢◌, ℕ, ◌+◌, ◌-◌, ◌<◌, ◌≤◌, ◌==◌, cond, List, [], ◌∷◌, ◌++◌, length, get_or, take, drop, length-append, sym, refl, ap, ◌∙◌, subst, arith, Option, Some, None}
use Rattle.std.proofs.lemmas.List.{length-take}
use Rattle.std.specs.Ordering.{is_lt}
use lib.ListN.{get_elem?}
use Rattle.oak_model.specs.declared.limits.TheConstants.{GREATEST_ENTRIES, GREATEST_KEY}
use Rattle.oak_model.specs.Counts.{Each, one_at, rows, total}
use Rattle.oak_model.specs.Key.{AreBytes, IsKey}
use Rattle.oak_model.specs.KeyNumber.{key_number}
use Rattle.oak_model.specs.Limits.{Sizes}
use Rattle.oak_model.specs.WordBytes.{bytes_of}
use Rattle.oak_model.proofs.Counting.{one_at-same, test-cases}
use Rattle.oak_model.proofs.Lists.{begins_length, rows_at, rows_length, same_elements}
use Rattle.chunk_core.specs.declared.layout.TheConstants.{BOUND_WORDS}
use Rattle.chunk_core.specs.declared.holds.HeldRoom.{HeldRoom}
use Rattle.chunk_core.specs.declared.holds.MovingRange.{MovingRange}
use Rattle.chunk_core.specs.declared.holds.RoomCopy.{RoomCopy}
use Rattle.chunk_core.specs.declared.states.TheConstants.{HELD}
use Rattle.chunk_core.specs.ChainedRooms.{IsChained}
use Rattle.chunk_core.specs.Covers.{span_in}
use Rattle.chunk_core.specs.KeyWords.{low_bytes, high_bytes, low_number, high_number}
use Rattle.chunk_core.specs.MayOnRooms.{MayOpenCopy}
use Rattle.chunk_core.specs.MovingRanges.{ranges_opened}
use Rattle.chunk_core.specs.RoomCopies.{copy_of, without_room}
use Rattle.chunk_core.specs.RoomStep.{open_room}
use Rattle.chunk_core.specs.RoomRule.{AreBounds, IsWholeCopy, IsWholeHeld, in_room_state}
use Rattle.chunk_core.specs.Spans.{Span, past_high, within}
use Rattle.chunk_core.proofs.HeldRooms.{room_rows, row_here}
use Rattle.chunk_core.proofs.SpanLaws.{past-cases}
use Rattle.oak_core.specs.declared.states.PassState.{PassState}
use Rattle.oak_core.specs.declared.states.Swept.{Swept}
use Rattle.oak_core.specs.declared.table.Pass.{Pass}
use Rattle.oak_core.specs.CallSteps.{StepOfCall}
use Rattle.oak_core.specs.Lack.{InSwept, IsBelow}
use Rattle.oak_core.specs.Passes.{Stays, slots_of}
use Rattle.oak_core.specs.Scratch.{StaysButSlots}
use Rattle.oak_core.specs.Step.{Told, on_rooms}
use Rattle.oak_core.specs.Sweeping.{sweep, valueless}
use Rattle.chunk_ops.specs.RoomPins.{HadMoment}
use Rattle.chunk_ops.proofs.BoundOrder.{by_numbers, less_is}
use Rattle.chunk_ops.proofs.OrderLaws.{cmp_less}
use Rattle.chunk_ops.proofs.WordParts.{part_small}
use Rattle.rebalance.specs.Copies.{AllLinked, copy_span}
use Rattle.rebalance.specs.Chunks.{HoldsFront, OpensFront, held_row}
use Rattle.rebalance.specs.ListedRows.{SameWords, rows_of}
use Rattle.rebalance.specs.HeldTables.{HoldsAlone, WorksOnRooms, filled}
use Rattle.rebalance.specs.Holding.{Opens}
use Rattle.rebalance.specs.Mirrors.{copy_or, held_memory}
use Rattle.rebalance.proofs.ChunkLaws.{without_first, works_of_sweeps}
use Rattle.rebalance.proofs.HeldAlone.{copy_first}
use Rattle.rebalance.proofs.ListedRows.{first_held, rooms_same, rows_total, stands_once, whole_rows}
use Rattle.rebalance.proofs.HeldSlots.{filled_whole}
use Rattle.rebalance.proofs.JoinedRanges.{within_high}
use Rattle.rebalance.proofs.OpensWhole.{first_opened, opens_whole}
use Rattle.rebalance.proofs.RangesStand.{range_stands}
use Rattle.rebalance.proofs.SweptRooms.{sweep_is}

-- all words of a bound, one by one
bound_read : (ws : List ℕ) → length ws ≡ BOUND_WORDS → rows 0 BOUND_WORDS (λ j. get_or ws j 0) ≡ ws
bound_read ws l = let n = rows_length 0 BOUND_WORDS (λ j. get_or ws j 0) in
    same_elements (rows 0 BOUND_WORDS (λ j. get_or ws j 0)) ws 0 (n ∙ sym l) (λ k lt. rows_at 0 BOUND_WORDS k (λ j. get_or ws j 0) 0 (omega arith) ∙ ap (λ (j : ℕ). get_or ws j 0) (let e : 0 + k ≡ k = omega arith in e))

-- a room that is none of them is held by none
none_held : (r : ℕ) (hs : List HeldRoom) → total (λ (h : HeldRoom). one_at h.room r) hs ≡ 0 → room_rows r HELD hs ≡ 0
none_held r hs e = let t = rows_total r hs in omega arith

-- ---- the words of the front room

module _ (z : Sizes) (r : ℕ) (w : RoomCopy) (g : MovingRange) (hs : List HeldRoom) (gs : List MovingRange) (v : PassState) (f : HoldsFront z r w g hs gs v) where
  -- its copy
  pub front_copy : copy_of r v.rooms.held ≡ Some w
  front_copy = ap (copy_of r) f.held ∙ copy_first r w hs

  -- the pass holds it once
  pub front_held : in_room_state r HELD v.rooms ≡ 1
  unfolding room_rows
  front_held = subst (λ (l : List HeldRoom). room_rows r HELD l ≡ 1) (sym f.held) (let e = row_here r r HELD (held_row r w) hs refl refl in let n = none_held r hs f.apart in let o = one_at-same HELD HELD refl in omega arith)

  -- what calls on held rooms ask
  pub front_alone : HoldsAlone z r v
  front_alone = record { room = record { inside = f.inside; copy = w; is = front_copy; whole = f.whole; held = front_held }; only = f.only; begun = f.moment }

  -- its bounds are no longer than keys
  pub front_bounds : AreBounds (get_or (copy_or (copy_of r v.rooms.held)).low 0 0) (get_or (copy_or (copy_of r v.rooms.held)).high 0 0)
  front_bounds = subst (λ (o : Option RoomCopy). AreBounds (get_or (copy_or o).low 0 0) (get_or (copy_or o).high 0 0)) (sym front_copy) f.mirrors.bounds

  -- its range, by its words
  pub front_span : span_in (held_memory v.rooms.held) r ≡ copy_span w
  front_span = ap (λ (o : Option RoomCopy). record { low = low_number (rows 0 BOUND_WORDS (λ j. get_or (copy_or o).low j 0)); high = high_number (rows 0 BOUND_WORDS (λ j. get_or (copy_or o).high j 0)); base = (copy_or o).base }) front_copy
      ∙ (λ i. record { low = low_number (bound_read w.low f.whole.low i); high = high_number (bound_read w.high f.whole.high i); base = w.base })

  -- it may be opened over all of its range
  pub front_opens : IsChained z w → AllLinked w → MayOpenCopy z (copy_of r v.rooms.held) v.rooms.moving
  front_opens chained all = subst (λ (o : Option RoomCopy). MayOpenCopy z o v.rooms.moving) (sym front_copy) (subst (λ (l : List MovingRange). MayOpenCopy z (Some w) l) (sym f.moving)
      (opens_whole z w g f.mirrors (range_stands z v f.moment 0 g (ap (λ (l : List MovingRange). get_elem? l 0) f.moving)) (g ∷ gs) 0 refl (λ j h at lt. absurd (omega arith)) chained all))

-- ---- a look at its words

-- what a pass has of rooms stays where their words and ranges do
pub looked_rooms : (z : Sizes) (call : ℕ) (v w : PassState) → HadMoment z v → WorksOnRooms z call v w → held_memory w.rooms.held ≡ held_memory v.rooms.held → w.rooms.moving ≡ v.rooms.moving → w.rooms ≡ v.rooms
looked_rooms z call v w h works words ranges = let held = rooms_same z v w h (works.moment h) works.listed words in λ i. record { pin = works.pin i; claim = works.claim i; held = held i; moving = ranges i }

-- The words of the front room may be others: where those of the other rooms stay, the pass has these as it had them.
pub front_kept : (z : Sizes) (r : ℕ) (w : RoomCopy) (g : MovingRange) (hs : List HeldRoom) (gs : List MovingRange) (v u : PassState) → HoldsFront z r w g hs gs v → HadMoment z u → rows_of u.rooms.held ≡ rows_of v.rooms.held
    → ((j : ℕ) → j ≢ r → SameWords (copy_or (copy_of j v.rooms.held)) (copy_or (copy_of j u.rooms.held))) → (x : RoomCopy) × (u.rooms.held ≡ held_row r x ∷ hs) × IsWholeCopy z x
unfolding total
front_kept z r w g hs gs v u f h rows same = first_held z r w hs u.rooms.held (rows ∙ ap rows_of f.held) (subst (Each (λ (x : HeldRoom). IsWholeHeld z x.held_as)) f.held (whole_rows z v f.moment)).1 (whole_rows z u h)
    (λ j. let o = subst (λ (l : List HeldRoom). total (λ (x : HeldRoom). one_at x.room j) l ≤ 1) f.held (stands_once z v f.moment j) in omega arith) f.apart
    (λ j ne. subst (λ (l : List HeldRoom). SameWords (copy_or (copy_of j l)) (copy_or (copy_of j u.rooms.held))) f.held (same j ne))

-- and the pass stays where its slots do
pub slots_stay : (p q : Pass) → StaysButSlots p q → length (slots_of p) ≡ GREATEST_ENTRIES → length (slots_of q) ≡ GREATEST_ENTRIES → filled GREATEST_ENTRIES (slots_of q) ≡ filled GREATEST_ENTRIES (slots_of p) → Stays p q
slots_stay p q s l m e = record { table = s.table; seat = s.seat; call = s.call; scratch = s.scratch; sorting = sym (filled_whole GREATEST_ENTRIES (slots_of q) m) ∙ (e ∙ filled_whole GREATEST_ENTRIES (slots_of p) l) }

-- ---- the keys that are swept with it

-- a key of a range is not below its low bound
not_below : (s : Span) (k : ℕ) → within s k ≡ 1 → s.low ≤ k
not_below s k = past-cases s.low k (λ (t : ℕ). t - past_high s.high k ≡ 1 → s.low ≤ k) (λ l _. l) (λ _ e. absurd (omega arith))

part_few : (n : ℕ) (ws : List ℕ) → n ≤ GREATEST_KEY → length (take n (bytes_of ws)) ≤ GREATEST_KEY
part_few n ws few = let t = length-take n (bytes_of ws) in omega arith

-- each key of the room's range
pub in_swept : (w : RoomCopy) (met : ℕ) (key : List ℕ) → AreBounds (get_or w.low 0 0) (get_or w.high 0 0) → IsKey key → AreBytes key → within (copy_span w) (key_number key) ≡ 1 → InSwept (record { low = low_bytes w.low; high = high_bytes w.high; met = met }) key
unfolding low_number high_number
in_swept w met key fit is bytes inside = record {
  from = λ e. let l = not_below (copy_span w) (key_number key) inside in
      let n = less_is (key_number key) (key_number (low_bytes w.low)) (ap is_lt (sym (by_numbers key (low_bytes w.low) bytes (part_small (get_or w.low 0 0) (drop 1 w.low)) is.1 (part_few (get_or w.low 0 0) (drop 1 w.low) fit.low_fits)) ∙ e)) in absurd (omega arith);
  to = test-cases (get_or w.high 0 0 == 0) (λ t. high_number w.high ≡ cond t 0 (key_number high + 1) → IsBelow (cond t None (Some high)) key) (λ _ _. tt)
      (λ _ e. let lt = within_high (copy_span w) (key_number high) (key_number key) e inside in
      by_numbers key high bytes (part_small (get_or w.high 0 0 - 1) (drop 1 w.high)) is.1 (part_few (get_or w.high 0 0 - 1) (drop 1 w.high) (let b = fit.high_fits in omega arith)) ∙ cmp_less (key_number key) (key_number high) lt)
      refl;
}
  where
    high : List ℕ
    high = take (get_or w.high 0 0 - 1) (bytes_of (drop 1 w.high))

-- ---- the opening

-- it met one step more

pub open_longer : (z : Sizes) (call r : ℕ) (v : PassState) (n : ℕ) (w : PassState) → Told z call (on_rooms (open_room r)) v n w → length w.findings.met ≡ length v.findings.met + 1
open_longer z call r v n w t = ap (λ (y : PassState). length y.findings.met) t.after ∙ length-append v.findings.met (_ ∷ [])

pub opening_longer : (z : Sizes) (call r : ℕ) (v u : PassState) → StepOfCall z call (on_rooms (open_room r)) v u → length v.findings.met < length u.findings.met
opening_longer z call r v u s = let t = open_longer z call r s.from s.number s.to s.told in let b = begins_length v.findings.met s.from.findings.met (s.begun.more, s.begun.met) in let e = begins_length s.to.findings.met u.findings.met (s.ended.more, s.ended.met) in omega arith

-- what is left when it is opened
pub front_opened : (z : Sizes) (call r : ℕ) (w : RoomCopy) (g : MovingRange) (hs : List HeldRoom) (gs : List MovingRange) (v u : PassState) → HoldsFront z r w g hs gs v → Opens z call r v u → OpensFront z call r w hs gs v u
front_opened z call r w g hs gs v u f o = let copy = front_copy z r w g hs gs v f in
    let swept : valueless w ≡ 0 → u.findings.swept ≡ v.findings.swept ++ record { low = low_bytes w.low; high = high_bytes w.high; met = length v.findings.met } ∷ [] =
    (λ none. o.beside.swept ∙ ap (λ (l : List Swept). v.findings.swept ++ l) (ap (λ (c : Option RoomCopy). sweep c (length v.findings.met)) copy ∙ sweep_is w (length v.findings.met) none)) in record {
      opens = record { step = o.step; copy_is = subst (λ (y : PassState). copy_of r y.rooms.held ≡ Some w) (sym o.first) copy };
      beside = works_of_sweeps call r v u o.beside;
      claims = o.beside.claims;
      rooms = o.rooms
          ∙ ((λ i. record v.rooms { held = without_room r (f.held i); moving = ranges_opened (copy i) (f.moving i) })
          ∙ (λ i. record v.rooms { held = without_first r (held_row r w) hs refl f.apart i; moving = first_opened z w g gs f.mirrors i }));
      swept = swept;
      sweeps = λ none key is bytes inside. record {
        more = record { low = low_bytes w.low; high = high_bytes w.high; met = length v.findings.met } ∷ [];
        swept = swept none;
        place = 0;
        range = record { low = low_bytes w.low; high = high_bytes w.high; met = length v.findings.met };
        there = refl;
        from = omega arith;
        to = opening_longer z call r v u o.step;
        inside = in_swept w (length v.findings.met) key f.mirrors.bounds is bytes inside;
      };
      moment = o.ended;
      alone = o.alone w copy;
    }
