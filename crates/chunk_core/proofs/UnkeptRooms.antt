-- The words of a room that a pass does not hold, but for those of an entry that it claimed: it keeps none of them.
use mathlib.Core.Logic.{dite}
use native.Mathlib.Decide.{ℕ_discrete}
use Rattle.std.proofs.Common.{false, true, Bool, eq-eqb, ◌≡◌, ◌≢◌, ℕ, suc, ◌*◌, ◌==◌, ◌&&◌, List, [], ◌∷◌, ◌++◌, sym, refl, ap, ◌∙◌, arith, Option, Some, None, ne_eqb}
use Rattle.std.specs.Prelude.{slice_index}
use Rattle.oak_model.specs.Counts.{one_if, one_at, total, rows, Each}
use Rattle.oak_model.specs.Kept.{KeptWord, keeps}
use Rattle.oak_model.proofs.Counting.{one_at-same, total_append}
use Rattle.oak_model.proofs.Lists.{each_append}
use Rattle.oak_model.proofs.RowLaws.{each_rows}
use Rattle.oak_model.proofs.SumLaws.{times-one}
use Rattle.chunk_core.specs.declared.layout.TheConstants.{BOUND_WORDS}
use Rattle.chunk_core.specs.declared.states.TheConstants.{HELD}
use Rattle.chunk_core.specs.declared.holds.Claim.{Claim}
use Rattle.chunk_core.specs.declared.holds.EntryWords.{EntryWords}
use Rattle.chunk_core.specs.declared.holds.HeldRoom.{HeldRoom}
use Rattle.chunk_core.specs.declared.holds.RoomCopy.{RoomCopy}
use Rattle.chunk_core.specs.declared.holds.RoomHeldAs.{RoomHeldAs}
use Rattle.chunk_core.specs.declared.holds.RoomHeldAs.TheVariants.{Frozen, Held}
use Rattle.chunk_core.specs.declared.holds.RoomHolds.{RoomHolds}
use Rattle.chunk_core.specs.KeptRooms.{kept_of_entries, kept_of_claim, kept_of_copy, kept_of_held, kept_of_rooms_held, kept_of_rooms}
use Rattle.chunk_core.specs.RoomHolds.{claims_of, claims_on}
use Rattle.chunk_core.specs.RoomRule.{room_state, in_room_state}
use Rattle.chunk_core.specs.Rooms.{RoomSpot, same_room_spot, room_at, part_at, kind_at, at_room_pin, at_low, at_high}
use Rattle.std.proofs.lemmas.Bool.{and_right}

-- all are words of the room
abbrev pub AreOf : ℕ → List (KeptWord RoomSpot) → Type 0
AreOf r ws = Each (λ (w : KeptWord RoomSpot). room_at w.spot ≡ r) ws

-- a word of another room is none of them
pub of_other : (q : RoomSpot) (r : ℕ) → r ≢ room_at q → (ws : List (KeptWord RoomSpot)) → AreOf r ws → keeps same_room_spot q ws ≡ 0
unfolding total
of_other q r ne [] h = refl
of_other q r ne (w ∷ ws) h = let t = of_other q r ne ws h.1 in let e : one_if (same_room_spot w.spot q) ≡ 0 = ap one_if (and_right (kind_at w.spot == kind_at q) ((part_at w.spot == part_at q) && (room_at w.spot == room_at q)) (and_right (part_at w.spot == part_at q) (room_at w.spot == room_at q) (ne_eqb (room_at w.spot) (room_at q) (λ s. ne (sym h.0 ∙ s))))) in omega arith

-- words of an entry of another number
abbrev AreAt : ℕ → List (KeptWord RoomSpot) → Type 0
AreAt i ws = Each (λ (w : KeptWord RoomSpot). part_at w.spot ≡ i) ws

of_other_part : (q : RoomSpot) (i : ℕ) → i ≢ part_at q → (ws : List (KeptWord RoomSpot)) → AreAt i ws → keeps same_room_spot q ws ≡ 0
unfolding total
of_other_part q i ne [] h = refl
of_other_part q i ne (w ∷ ws) h = let t = of_other_part q i ne ws h.1 in let e : one_if (same_room_spot w.spot q) ≡ 0 = ap one_if (and_right (kind_at w.spot == kind_at q) ((part_at w.spot == part_at q) && (room_at w.spot == room_at q)) (ap (λ (b : Bool). b && (room_at w.spot == room_at q)) (ne_eqb (part_at w.spot) (part_at q) (λ s. ne (sym h.0 ∙ s))))) in omega arith

-- words of another kind
of_other_kind : (q : RoomSpot) (ws : List (KeptWord RoomSpot)) → Each (λ (w : KeptWord RoomSpot). (kind_at w.spot == kind_at q) ≡ false) ws → keeps same_room_spot q ws ≡ 0
unfolding total
of_other_kind q [] h = refl
of_other_kind q (w ∷ ws) h = let t = of_other_kind q ws h.1 in let e : one_if (same_room_spot w.spot q) ≡ 0 = ap (λ (b : Bool). one_if (b && ((part_at w.spot == part_at q) && (room_at w.spot == room_at q)))) h.0 in omega arith

differ : (b : Bool) → b ≡ true → b ≡ false → ⊥
differ b t f = cc

entries_of : (r i : ℕ) (es : List EntryWords) → AreOf r (kept_of_entries r i es)
unfolding kept_of_entries
entries_of r i [] = tt
entries_of r i (e ∷ es) = (refl, (refl, (refl, entries_of r (suc i) es)))

pub copy_of_room : (r : ℕ) (w : RoomCopy) → AreOf r (kept_of_copy r w)
copy_of_room r w = let P : KeptWord RoomSpot → Type 0 = (λ (t : KeptWord RoomSpot). room_at t.spot ≡ r) in
    let lows : List (KeptWord RoomSpot) = rows 0 BOUND_WORDS (λ j. record { spot = at_low r j; number = slice_index w.low j }) in let highs : List (KeptWord RoomSpot) = rows 0 BOUND_WORDS (λ j. record { spot = at_high r j; number = slice_index w.high j }) in (
      refl,
      (
        refl,
        (
          refl,
          (
            refl,
            each_append P lows (highs ++ kept_of_entries r 0 w.entries) (each_rows P 0 BOUND_WORDS (λ j. record { spot = at_low r j; number = slice_index w.low j }) (λ k le lt. refl))
                (each_append P highs (kept_of_entries r 0 w.entries) (each_rows P 0 BOUND_WORDS (λ j. record { spot = at_high r j; number = slice_index w.high j }) (λ k le lt. refl)) (entries_of r 0 w.entries)),
          ),
        ),
      ),
    )

pub claim_none : (q : RoomSpot) (c : Option Claim) → claims_of (room_at q) (part_at q) c ≡ 0 → keeps same_room_spot q (kept_of_claim c) ≡ 0
unfolding total
claim_none q None e = refl
claim_none q (Some c) e = dite (ℕ_discrete c.room (room_at q)) (λ s. of_other_part q c.number (λ d. absurd (let o = one_at-same c.number (part_at q) d in let t = times-one (one_at c.room (room_at q)) (one_at c.number (part_at q)) (one_at-same c.room (room_at q) s) in omega arith)) (kept_of_claim (Some c)) (refl, (refl, (refl, tt))))
    (λ ne. of_other q c.room ne (kept_of_claim (Some c)) (refl, (refl, (refl, tt))))

held_none : (q : RoomSpot) (r : ℕ) (s : RoomHeldAs) → one_at r (room_at q) * one_at (room_state s) HELD ≡ 0 → keeps same_room_spot q (kept_of_held r s) ≡ 0
unfolding total
held_none q r Frozen e = refl
held_none q r (Held w) e = of_other q r (λ s. let o = one_at-same r (room_at q) s in let h = one_at-same HELD HELD refl in let t = times-one (one_at r (room_at q)) (one_at HELD HELD) o in absurd (omega arith)) (kept_of_copy r w) (copy_of_room r w)

rooms_none : (q : RoomSpot) (hs : List HeldRoom) → total (λ (h : HeldRoom). one_at h.room (room_at q) * one_at (room_state h.held_as) HELD) hs ≡ 0 → keeps same_room_spot q (kept_of_rooms_held hs) ≡ 0
unfolding total kept_of_rooms_held
rooms_none q [] e = refl
rooms_none q (h ∷ hs) e = let a = held_none q h.room h.held_as (omega arith) in let t = rooms_none q hs (omega arith) in let s = total_append (λ (w : KeptWord RoomSpot). one_if (same_room_spot w.spot q)) (kept_of_held h.room h.held_as) (kept_of_rooms_held hs) in omega arith

-- with the claim's part
pub none_with : (q : RoomSpot) (a : RoomHolds) → keeps same_room_spot q (kept_of_claim a.claim) ≡ 0 → in_room_state (room_at q) HELD a ≡ 0 → keeps same_room_spot q (kept_of_rooms a) ≡ 0
none_with q a c held = let h = rooms_none q a.held held in let t = total_append (λ (w : KeptWord RoomSpot). one_if (same_room_spot w.spot q)) (kept_of_claim a.claim) (kept_of_rooms_held a.held) in omega arith

-- a word that is of no entry that the pass claimed, and of no room that it holds, is none that it keeps
pub none_kept : (q : RoomSpot) (a : RoomHolds) → claims_on (room_at q) (part_at q) a ≡ 0 → in_room_state (room_at q) HELD a ≡ 0 → keeps same_room_spot q (kept_of_rooms a) ≡ 0
none_kept q a claim held = none_with q a (claim_none q a.claim claim) held

-- nor is one of a kind that a claim does not keep
pub field_kept : (q : RoomSpot) (a : RoomHolds) → (kind_at q == 7) ≡ false → (kind_at q == 8) ≡ false → (kind_at q == 9) ≡ false → in_room_state (room_at q) HELD a ≡ 0 → keeps same_room_spot q (kept_of_rooms a) ≡ 0
unfolding total
field_kept q a k v n held = none_with q a (no_entry a.claim) held
  where
    swap : (i j : ℕ) → (j == i) ≡ false → (i == j) ≡ false
    swap i j e = ne_eqb i j (λ s. absurd (let t = eq-eqb j i (sym s) in differ (j == i) t e))

    no_entry : (c : Option Claim) → keeps same_room_spot q (kept_of_claim c) ≡ 0
    no_entry None = refl
    no_entry (Some c) = of_other_kind q (kept_of_claim (Some c)) (swap 7 (kind_at q) k, (swap 8 (kind_at q) v, (swap 9 (kind_at q) n, tt)))

-- Pin words: no pass keeps one.

abbrev AreNoPins : List (KeptWord RoomSpot) → Type 0
AreNoPins ws = Each (λ (w : KeptWord RoomSpot). (kind_at w.spot == 0) ≡ false) ws

no_pin_kept : (r : ℕ) (ws : List (KeptWord RoomSpot)) → AreNoPins ws → keeps same_room_spot (at_room_pin r) ws ≡ 0
unfolding total
no_pin_kept r [] h = refl
no_pin_kept r (w ∷ ws) h = let t = no_pin_kept r ws h.1 in let e : one_if (same_room_spot w.spot (at_room_pin r)) ≡ 0 = ap (λ b. one_if (b && ((part_at w.spot == 0) && (room_at w.spot == r)))) h.0 in omega arith

entries_no_pins : (r i : ℕ) (es : List EntryWords) → AreNoPins (kept_of_entries r i es)
unfolding kept_of_entries
entries_no_pins r i [] = tt
entries_no_pins r i (e ∷ es) = (refl, (refl, (refl, entries_no_pins r (suc i) es)))

copy_no_pins : (r : ℕ) (w : RoomCopy) → AreNoPins (kept_of_copy r w)
copy_no_pins r w = let P : KeptWord RoomSpot → Type 0 = (λ (t : KeptWord RoomSpot). (kind_at t.spot == 0) ≡ false) in
    let lows : List (KeptWord RoomSpot) = rows 0 BOUND_WORDS (λ j. record { spot = at_low r j; number = slice_index w.low j }) in let highs : List (KeptWord RoomSpot) = rows 0 BOUND_WORDS (λ j. record { spot = at_high r j; number = slice_index w.high j }) in (
      refl,
      (
        refl,
        (
          refl,
          (
            refl,
            each_append P lows (highs ++ kept_of_entries r 0 w.entries) (each_rows P 0 BOUND_WORDS (λ j. record { spot = at_low r j; number = slice_index w.low j }) (λ k le lt. refl))
                (each_append P highs (kept_of_entries r 0 w.entries) (each_rows P 0 BOUND_WORDS (λ j. record { spot = at_high r j; number = slice_index w.high j }) (λ k le lt. refl)) (entries_no_pins r 0 w.entries)),
          ),
        ),
      ),
    )

claim_no_pins : (c : Option Claim) → AreNoPins (kept_of_claim c)
claim_no_pins None = tt
claim_no_pins (Some c) = (refl, (refl, (refl, tt)))

held_no_pins : (r : ℕ) (s : RoomHeldAs) → AreNoPins (kept_of_held r s)
held_no_pins r Frozen = tt
held_no_pins r (Held w) = copy_no_pins r w

rooms_no_pins : (hs : List HeldRoom) → AreNoPins (kept_of_rooms_held hs)
unfolding kept_of_rooms_held
rooms_no_pins [] = tt
rooms_no_pins (h ∷ hs) = each_append (λ (t : KeptWord RoomSpot). (kind_at t.spot == 0) ≡ false) (kept_of_held h.room h.held_as) (kept_of_rooms_held hs) (held_no_pins h.room h.held_as) (rooms_no_pins hs)

pub pin_unkept : (r : ℕ) (a : RoomHolds) → keeps same_room_spot (at_room_pin r) (kept_of_rooms a) ≡ 0
pin_unkept r a = let P : KeptWord RoomSpot → Type 0 = (λ (t : KeptWord RoomSpot). (kind_at t.spot == 0) ≡ false) in
    no_pin_kept r (kept_of_rooms a) (each_append P (kept_of_claim a.claim) (kept_of_rooms_held a.held) (claim_no_pins a.claim) (rooms_no_pins a.held))
