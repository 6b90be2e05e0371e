-- The pin word of a room changes, and its count stays, with the rooms and ranges that a pass has: a room is frozen, held, claimed, opened or retired.
use Rattle.std.proofs.Common.{◌≡◌, ◌≢◌, ℕ, ◌+◌, ◌<◌, ◌≤◌, ◌⊎◌, List, set, sym, refl, ap, ◌∙◌, subst, inr, ⊎_elim, arith, Some}
use mathlib.Core.Option.{some}
use lib.ListN.{get_elem?}
use Rattle.pin_word.specs.PinWord.{state_of, generation_of, count_of}
use Rattle.oak_model.specs.Counts.{one_if, one_at, total, Each}
use Rattle.oak_model.specs.Limits.{Sizes}
use Rattle.oak_model.proofs.Counting.{one_at-same, total_at}
use Rattle.oak_model.proofs.PutLaws.{put-cases, put-level, put-same}
use Rattle.chunk_core.specs.declared.states.TheConstants.{FROZEN, HELD}
use Rattle.chunk_core.specs.declared.holds.HeldRoom.{HeldRoom}
use Rattle.chunk_core.specs.declared.holds.MovingRange.{MovingRange}
use Rattle.chunk_core.specs.declared.holds.PinnedRoom.{PinnedRoom}
use Rattle.chunk_core.specs.declared.holds.RoomHolds.{RoomHolds}
use Rattle.chunk_core.specs.CoverSums.{weight}
use Rattle.chunk_core.specs.PinnedRooms.{RoomPinHolds}
use Rattle.chunk_core.specs.RoomHolds.{pins_of}
use Rattle.chunk_core.specs.RoomRule.{room_pins, in_room_state, AreTrueRanges, IsInOrder, IsWholeHeld, RoomsStand}
use Rattle.chunk_core.specs.RoomStep.{put_room}
use Rattle.chunk_core.specs.Rooms.{RoomMemory, at_room_pin}
use Rattle.chunk_core.specs.RoomCopies.{without_room}
use Rattle.chunk_core.proofs.HeldRooms.{room_rows, without_here, without_else, each_without}
use Rattle.chunk_core.proofs.Weights.{weight_held, is_so, rows_are}
use Rattle.chunk_core.proofs.RoomFrames.{good_still, claim_still, rooms_stepped}
use Rattle.chunk_core.proofs.Claims.{unclaimed}
use Rattle.chunk_core.specs.RoomHolds.{claims_on}
use Rattle.chunk_core.specs.LinkedEntries.{linked, entries_in}
use Rattle.std.specs.Prelude.{nat_lt}

module _ (z : Sizes) (m : RoomMemory) (content : ℕ → List ℕ) (hs : List RoomHolds) (rule : RoomsStand z m content hs) (seat : ℕ) (a : RoomHolds) (here : get_elem? hs seat ≡ some a)
    (r x : ℕ) (count : count_of x ≡ count_of (m.pin r)) (generation : generation_of x ≡ generation_of (m.pin r)) (known : state_of x ≤ HELD)
    (held : List HeldRoom) (moving : List MovingRange)
    (rows_here : (s : ℕ) → (s ≡ FROZEN) ⊎ (s ≡ HELD) → room_rows r s held + one_at (state_of (m.pin r)) s ≡ room_rows r s a.held + one_at (state_of x) s)
    (rows_else : (j s : ℕ) → j ≢ r → room_rows j s held ≡ room_rows j s a.held)
    (order : weight x ≡ 1 → IsInOrder z content (m.count r) (m.key r) (m.value r) (linked m r) (m.low r 0) (m.high r 0))
    (eithers : (i : ℕ) → weight x ≡ 1 → total (λ k. one_at k i) (linked m r) + total (claims_on r i) hs ≤ 1)
    (keyeds : (i : ℕ) → weight x ≡ 1 → i < entries_in (m.count r) → one_if (nat_lt 0 (m.key r i)) ≤ total (λ k. one_at k i) (linked m r) + total (claims_on r i) hs)
    (unpinned : weight (m.pin r) ≡ 1 → (weight x ≡ 1) ⊎ (count_of (m.pin r) ≡ 0))
    (true_ranges : AreTrueRanges content moving) (whole : Each (λ (h : HeldRoom). IsWholeHeld z h.held_as) held) where
  abbrev m' : RoomMemory
  m' = put_room m (at_room_pin r) x

  abbrev b : RoomHolds
  b = record a { held = held; moving = moving }

  -- a good pin is on another room, or on one that is a cover still
  pin_stands : (j : ℕ) (u : RoomHolds) (p : PinnedRoom) → get_elem? hs j ≡ some u → pins_of p.room u.pin ≡ 1 → RoomPinHolds z m content p → RoomPinHolds z m' content p
  pin_stands j u p at is h = record { inside = h.inside; cover = put-cases m.pin r x p.room (λ t. weight t ≡ 1) on_it (λ _. h.cover); base = h.base; low = h.low; high = h.high; counted = h.counted; prefix = h.prefix; entries = h.entries; walked = h.walked }
    where
      on_it : p.room ≡ r → weight x ≡ 1
      on_it e = ⊎_elim (λ (w : weight x ≡ 1). w) (λ (n : count_of (m.pin r) ≡ 0). absurd (let t = total_at (room_pins r) hs j u at in let k = rule.counted r in let o = ap (λ (y : ℕ). pins_of y u.pin) e in omega arith)) (unpinned (ap (λ (t : ℕ). weight (m.pin t)) (sym e) ∙ h.cover))

  pinned_once : (p : PinnedRoom) → pins_of p.room (Some p) ≡ 1
  pinned_once p = one_at-same p.room p.room refl

  held_now : (j s : ℕ) → (s ≡ FROZEN) ⊎ (s ≡ HELD) → in_room_state j s b + one_at (state_of (m.pin j)) s ≡ in_room_state j s a + one_at (state_of (m'.pin j)) s
  unfolding room_rows
  held_now j s is = put-level m.pin r x (λ w. one_at (state_of w) s) (λ i. in_room_state i s a) (λ i. in_room_state i s b) (rows_here s is) (λ i ne. rows_else i s ne) j

  pub restated : RoomsStand z (put_room m (at_room_pin r) x) content (set hs seat (record a { held = held; moving = moving }))
  restated = rooms_stepped z m m' content hs seat a b here (record {
    pins = λ j. let e = put-same m.pin r x count_of count j in omega arith;
    held = held_now;
    states = λ j. put-cases m.pin r x j (λ t. state_of t ≤ HELD) (λ _. known) (λ _. rule.states j);
    generations = put-same m.pin r x generation_of generation;
    latches = rule.latches;
    ordered = λ j. put-cases m.pin r x j (λ t. weight t ≡ 1 → IsInOrder z content (m.count j) (m.key j) (m.value j) (linked m j) (m.low j 0) (m.high j 0))
        (λ e w. subst (λ (t : ℕ). IsInOrder z content (m.count t) (m.key t) (m.value t) (linked m t) (m.low t 0) (m.high t 0)) (sym e) (order w)) (λ _. rule.ordered j);
    either = λ j i n w e. let q = put-cases m.pin r x j (λ t. weight t ≡ 1 → total (λ k. one_at k i) (linked m j) + total (claims_on j i) hs ≤ 1)
        (λ s w. subst (λ (t : ℕ). total (λ k. one_at k i) (linked m t) + total (claims_on t i) hs ≤ 1) (sym s) (eithers i w)) (λ _. rule.either j i) w in omega arith;
    keyed = λ j i n w l e. let q = put-cases m.pin r x j (λ t. weight t ≡ 1 → one_if (nat_lt 0 (m.key j i)) ≤ total (λ k. one_at k i) (linked m j) + total (claims_on j i) hs)
        (λ s w. subst (λ (t : ℕ). one_if (nat_lt 0 (m.key t i)) ≤ total (λ k. one_at k i) (linked m t) + total (claims_on t i) hs) (sym s) (keyeds i w (subst (λ (t : ℕ). i < entries_in (m.count t)) s l))) (λ _ w. rule.keyed j i w l) w in omega arith;
    claims = λ j u c ne at is h. record { inside = h.inside; words = h.words };
    own_claim = claim_still m m' content content a.claim (λ c _ h. record { inside = h.inside; words = h.words }) (rule.claimed seat a here);
    others = λ j u p ne at is h. pin_stands j u p at (ap (pins_of p.room) is ∙ pinned_once p) h;
    own = good_still z m m' content content a.pin (λ p is h. pin_stands seat a p here (ap (pins_of p.room) is ∙ pinned_once p) h) (rule.good seat a here);
    carried = true_ranges;
    stands = record { claim = (rule.passes seat a here).claim; whole = whole };
  }) rule

-- A pass gives a room that it holds up: the room comes to a state in which no pass has rooms.
module _ (z : Sizes) (m : RoomMemory) (content : ℕ → List ℕ) (hs : List RoomHolds) (rule : RoomsStand z m content hs) (seat : ℕ) (a : RoomHolds) (here : get_elem? hs seat ≡ some a) (r x : ℕ) (mine : 0 < in_room_state r HELD a)
    (count : count_of x ≡ count_of (m.pin r)) (generation : generation_of x ≡ generation_of (m.pin r)) (known : state_of x ≤ HELD) (none : (s : ℕ) → (s ≡ FROZEN) ⊎ (s ≡ HELD) → one_at (state_of x) s ≡ 0)
    (moving : List MovingRange) (order : weight x ≡ 1 → IsInOrder z content (m.count r) (m.key r) (m.value r) (linked m r) (m.low r 0) (m.high r 0))
    (each_once : (i : ℕ) → weight x ≡ 1 → total (λ k. one_at k i) (linked m r) ≤ 1) (all_linked : (i : ℕ) → weight x ≡ 1 → i < entries_in (m.count r) → one_if (nat_lt 0 (m.key r i)) ≤ total (λ k. one_at k i) (linked m r)) (true_ranges : AreTrueRanges content moving) where
  pub was_held : state_of (m.pin r) ≡ HELD
  was_held = is_so z m content hs rule seat a here r HELD (inr refl) mine

  nobody : (i : ℕ) → total (claims_on r i) hs ≡ 0
  nobody i = unclaimed z m content hs rule r i (λ w. let n = weight_held (m.pin r) was_held in absurd (omega arith))

  pub given_up : RoomsStand z (put_room m (at_room_pin r) x) content (set hs seat (record a { held = without_room r a.held; moving = moving }))
  given_up = restated z m content hs rule seat a here r x count generation known (without_room r a.held) moving
      (λ s is. let n = without_here r s a.held in let o = rows_are z m content hs rule seat a here r HELD (inr refl) mine s is in let e = none s is in omega arith) (λ j s ne. without_else r j s a.held ne) order (λ i w. let n = nobody i in let o = each_once i w in omega arith) (λ i w l. let n = nobody i in let o = all_linked i w l in omega arith)
      (λ weighs. absurd (let n = weight_held (m.pin r) was_held in omega arith)) true_ranges (each_without (λ (h : HeldRoom). IsWholeHeld z h.held_as) r a.held (rule.passes seat a here).whole)
