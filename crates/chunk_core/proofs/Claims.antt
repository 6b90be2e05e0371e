-- Claims: the pass that has claimed an entry of a room has a good pin on it, so a room that is no cover, and one without a pin, has no entry that is claimed.
use Rattle.std.proofs.Common.{◌≡◌, ◌≢◌, ℕ, ◌*◌, ◌<◌, ◌≤◌, List, sym, refl, ap, ◌∙◌, subst, arith, Option, Some, None}
use mathlib.Core.Logic.{dite}
use mathlib.Core.Option.{some}
use native.Mathlib.Decide.{ℕ_discrete}
use lib.ListN.{get_elem?}
use Rattle.pin_word.specs.PinWord.{count_of}
use Rattle.oak_model.specs.Counts.{one_at, total}
use Rattle.oak_model.specs.Limits.{Sizes}
use Rattle.oak_model.proofs.Counting.{one_at-same, one_at-other, one_at-le, total_at, total_zero}
use Rattle.oak_model.proofs.SumLaws.{times-one, times-none}
use Rattle.chunk_core.specs.declared.holds.Claim.{Claim}
use Rattle.chunk_core.specs.declared.holds.PinnedRoom.{PinnedRoom}
use Rattle.chunk_core.specs.declared.holds.RoomHolds.{RoomHolds}
use Rattle.chunk_core.specs.CoverSums.{weight}
use Rattle.chunk_core.specs.PinnedRooms.{OnRoomPin, IsGoodRoom, RoomPinHolds}
use Rattle.chunk_core.specs.RoomHolds.{pins_of, claims_of, claims_on}
use Rattle.chunk_core.specs.RoomRule.{ClaimIsPinned, OnClaim, ClaimStands, room_pins, RoomsStand}
use Rattle.chunk_core.specs.Rooms.{RoomMemory}

-- a claim is of its room's entry, and of no other
pub claim_here : (c : Claim) → claims_of c.room c.number (Some c) ≡ 1
claim_here c = let o = one_at-same c.number c.number refl in times-one (one_at c.room c.room) (one_at c.number c.number) (one_at-same c.room c.room refl) ∙ o

pub claim_else : (r i : ℕ) (c : Claim) → c.number ≢ i → claims_of r i (Some c) ≡ 0
claim_else r i c ne = let o = one_at-other c.number i ne in ap (λ (t : ℕ). one_at c.room r * t) o ∙ (let u : one_at c.room r * 0 ≡ 0 = omega arith in u)

pub claim_away : (r i : ℕ) (c : Claim) → c.room ≢ r → claims_of r i (Some c) ≡ 0
claim_away r i c ne = times-none (one_at c.room r) (one_at c.number i) (one_at-other c.room r ne)

pub claim_le : (r i : ℕ) (o : Option Claim) → claims_of r i o ≤ 1
claim_le r i None = omega arith
claim_le r i (Some c) = dite (ℕ_discrete c.room r) (λ e. let q = times-one (one_at c.room r) (one_at c.number i) (one_at-same c.room r e) in let o = one_at-le c.number i in omega arith) (λ ne. let a = claim_away r i c ne in omega arith)

-- a claim that is counted is of that entry
pub claim_is : (r i : ℕ) (c : Claim) → 0 < claims_of r i (Some c) → (c.room ≡ r) × (c.number ≡ i)
claim_is r i c l = dite (ℕ_discrete c.room r) (λ e. dite (ℕ_discrete c.number i) (λ n. (e, n)) (λ ne. absurd (let a = claim_else r i c ne in omega arith))) (λ ne. absurd (let a = claim_away r i c ne in omega arith))

module _ (z : Sizes) (m : RoomMemory) (content : ℕ → List ℕ) (hs : List RoomHolds) (rule : RoomsStand z m content hs) where
  -- it has a good pin on the room
  pub claim_pin : (j : ℕ) (u : RoomHolds) (c : Claim) → get_elem? hs j ≡ some u → u.claim ≡ Some c → (p : PinnedRoom) × (u.pin ≡ Some p) × (p.room ≡ c.room) × IsGoodRoom p
  claim_pin j u c at is = go u.pin refl (subst (ClaimIsPinned u.pin) is (rule.passes j u at).claim)
    where
      go : (o : Option PinnedRoom) → u.pin ≡ o → ClaimIsPinned o (Some c) → (p : PinnedRoom) × (u.pin ≡ Some p) × (p.room ≡ c.room) × IsGoodRoom p
      go None e h = absurd h
      go (Some p) e h = (p, e, h.0, h.1)

  -- so the room is a cover
  pub claim_cover : (j : ℕ) (u : RoomHolds) (c : Claim) → get_elem? hs j ≡ some u → u.claim ≡ Some c → weight (m.pin c.room) ≡ 1
  claim_cover j u c at is = let p = claim_pin j u c at is in let h = subst (OnRoomPin (λ q. IsGoodRoom q → RoomPinHolds z m content q)) p.1 (rule.good j u at) in subst (λ (t : ℕ). weight (m.pin t) ≡ 1) p.2 (h p.3).cover

  pub claim_inside : (j : ℕ) (u : RoomHolds) (c : Claim) → get_elem? hs j ≡ some u → u.claim ≡ Some c → c.room < z.chunks
  claim_inside j u c at is = let p = claim_pin j u c at is in let h = subst (OnRoomPin (λ q. IsGoodRoom q → RoomPinHolds z m content q)) p.1 (rule.good j u at) in subst (λ (t : ℕ). t < z.chunks) p.2 (h p.3).inside

  -- and what it claims stands
  pub claim_stands : (j : ℕ) (u : RoomHolds) (c : Claim) → get_elem? hs j ≡ some u → u.claim ≡ Some c → ClaimStands m content c
  claim_stands j u c at is = subst (OnClaim (ClaimStands m content)) is (rule.claimed j u at)

  none_of : (r i : ℕ) → ((j : ℕ) (u : RoomHolds) (c : Claim) → get_elem? hs j ≡ some u → u.claim ≡ Some c → c.room ≢ r) → total (claims_on r i) hs ≡ 0
  none_of r i apart = total_zero (claims_on r i) hs (λ j u at. go u.claim (λ c e. apart j u c at e))
    where
      go : (o : Option Claim) → ((c : Claim) → o ≡ Some c → c.room ≢ r) → claims_of r i o ≡ 0
      go None h = refl
      go (Some c) h = claim_away r i c (h c refl)

  -- a room that is no cover has no claims
  pub unclaimed : (r i : ℕ) → weight (m.pin r) ≢ 1 → total (claims_on r i) hs ≡ 0
  unclaimed r i none = none_of r i (λ j u c at is e. none (ap (λ (t : ℕ). weight (m.pin t)) (sym e) ∙ claim_cover j u c at is))

  -- nor has one without a pin
  pub unclaimed_free : (r i : ℕ) → count_of (m.pin r) ≡ 0 → total (claims_on r i) hs ≡ 0
  unclaimed_free r i none = none_of r i (λ j u c at is e. let p = claim_pin j u c at is in let k = rule.counted r in let t = total_at (room_pins r) hs j u at in let q = ap (pins_of r) p.1 in
      let o = one_at-same p.0.room r (p.2 ∙ e) in absurd (omega arith))

  -- nor has an entry past the count
  pub unclaimed_past : (r i : ℕ) → ((j : ℕ) (u : RoomHolds) (c : Claim) → get_elem? hs j ≡ some u → u.claim ≡ Some c → c.room ≡ r → c.number ≢ i) → total (claims_on r i) hs ≡ 0
  unclaimed_past r i apart = total_zero (claims_on r i) hs (λ j u at. go u.claim (λ c e. apart j u c at e))
    where
      go : (o : Option Claim) → ((c : Claim) → o ≡ Some c → c.room ≡ r → c.number ≢ i) → claims_of r i o ≡ 0
      go None h = refl
      go (Some c) h = dite (ℕ_discrete c.room r) (λ e. claim_else r i c (h c refl e)) (λ ne. claim_away r i c ne)
