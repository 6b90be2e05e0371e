-- The points on rooms after a change: what a step, a split or a join owes them.
use Rattle.std.proofs.Common.{◌≡◌, ◌≢◌, ℕ, ◌+◌, ◌<◌, ◌≤◌, ◌⊎◌, List, [], ◌∷◌, set, refl, ◌∙◌, arith, Option, Some, None}
use Rattle.std.specs.Prelude.{nat_lt}
use mathlib.Core.Option.{some}
use lib.ListN.{get_elem?}
use Rattle.pin_word.specs.PinWord.{state_of, generation_of, count_of}
use Rattle.oak_model.specs.Counts.{one_if, one_at, total, Each}
use Rattle.oak_model.specs.Limits.{Sizes}
use Rattle.oak_model.proofs.Changes.{Change, stepped}
use Rattle.chunk_core.specs.declared.states.TheConstants.{FROZEN, HELD}
use Rattle.chunk_core.specs.declared.holds.PinnedRoom.{PinnedRoom}
use Rattle.chunk_core.specs.declared.holds.Claim.{Claim}
use Rattle.chunk_core.specs.declared.holds.RoomHolds.{RoomHolds}
use Rattle.chunk_core.specs.CoverSums.{weight}
use Rattle.chunk_core.specs.PinnedRooms.{OnRoomPin, IsGoodRoom, RoomPinHolds}
use Rattle.chunk_core.specs.RoomRule.{room_pins, in_room_state, AreTrueRanges, IsInOrder, OnClaim, ClaimStands, RoomHoldsStand, RoomsStand}
use Rattle.chunk_core.specs.RoomHolds.{claims_on}
use Rattle.chunk_core.specs.LinkedEntries.{linked, entries_in}
use Rattle.chunk_core.specs.Rooms.{RoomMemory}

-- what a good pin says stands after a change, where it does of that pin
pub good_still : (z : Sizes) (m m' : RoomMemory) (content content' : ℕ → List ℕ) (o : Option PinnedRoom) → ((p : PinnedRoom) → o ≡ Some p → RoomPinHolds z m content p → RoomPinHolds z m' content' p)
    → OnRoomPin (λ p. IsGoodRoom p → RoomPinHolds z m content p) o → OnRoomPin (λ p. IsGoodRoom p → RoomPinHolds z m' content' p) o
good_still z m m' content content' None still h = tt
good_still z m m' content content' (Some p) still h = λ good. still p refl (h good)

-- what was claimed stands after a change, where that claim does
pub claim_still : (m m' : RoomMemory) (content content' : ℕ → List ℕ) (o : Option Claim) → ((c : Claim) → o ≡ Some c → ClaimStands m content c → ClaimStands m' content' c) → OnClaim (ClaimStands m content) o → OnClaim (ClaimStands m' content') o
claim_still m m' content content' None still h = tt
claim_still m m' content content' (Some c) still h = still c refl h

-- what is owed where some parts of states go and others come
pub record RoomsChange (z : Sizes) (m m' : RoomMemory) (content : ℕ → List ℕ) (hs : List RoomHolds) (Stays : ℕ → Type 0) (gone fresh : List RoomHolds) : Type 0 where
  pub pins : (j : ℕ) → total (room_pins j) fresh + count_of (m.pin j) ≡ total (room_pins j) gone + count_of (m'.pin j)
  pub held : (j s : ℕ) → (s ≡ FROZEN) ⊎ (s ≡ HELD) → total (in_room_state j s) fresh + one_at (state_of (m.pin j)) s ≡ total (in_room_state j s) gone + one_at (state_of (m'.pin j)) s
  pub states : (j : ℕ) → state_of (m'.pin j) ≤ HELD
  pub generations : (j : ℕ) → generation_of (m'.pin j) ≡ generation_of (m.pin j)
  pub latches : (j : ℕ) → m'.latch j ≡ 0
  pub ordered : (j : ℕ) → weight (m'.pin j) ≡ 1 → IsInOrder z content (m'.count j) (m'.key j) (m'.value j) (linked m' j) (m'.low j 0) (m'.high j 0)
  -- where n are the claims behind the change
  pub either : (j i n : ℕ) → weight (m'.pin j) ≡ 1 → n + total (claims_on j i) gone ≡ total (claims_on j i) hs + total (claims_on j i) fresh → total (λ k. one_at k i) (linked m' j) + n ≤ 1
  pub keyed : (j i n : ℕ) → weight (m'.pin j) ≡ 1 → i < entries_in (m'.count j) → n + total (claims_on j i) gone ≡ total (claims_on j i) hs + total (claims_on j i) fresh → one_if (nat_lt 0 (m'.key j i)) ≤ total (λ k. one_at k i) (linked m' j) + n
  -- a claim of a part that stays
  pub claims : (j : ℕ) (u : RoomHolds) (c : Claim) → Stays j → get_elem? hs j ≡ some u → u.claim ≡ Some c → ClaimStands m content c → ClaimStands m' content c
  pub own_claims : Each (λ (u : RoomHolds). OnClaim (ClaimStands m' content) u.claim) fresh
  -- a pin of a part that stays
  pub others : (j : ℕ) (u : RoomHolds) (p : PinnedRoom) → Stays j → get_elem? hs j ≡ some u → u.pin ≡ Some p → RoomPinHolds z m content p → RoomPinHolds z m' content p
  pub own : Each (λ (u : RoomHolds). OnRoomPin (λ p. IsGoodRoom p → RoomPinHolds z m' content p) u.pin) fresh
  pub carried : Each (λ (u : RoomHolds). AreTrueRanges content u.moving) fresh
  pub stands : Each (RoomHoldsStand z) fresh

pub rooms_changed : (z : Sizes) (m m' : RoomMemory) (content : ℕ → List ℕ) (hs hs' gone fresh : List RoomHolds) (c : Change hs hs' gone fresh) → RoomsChange z m m' content hs c.Stays gone fresh → RoomsStand z m content hs → RoomsStand z m' content hs'
rooms_changed z m m' content hs hs' gone fresh c owes rule = record {
  counted = λ j. let s = c.sums (room_pins j) in let p = owes.pins j in let w = rule.counted j in omega arith;
  held = λ j s is. let t = c.sums (in_room_state j s) in let p = owes.held j s is in let w = rule.held j s is in omega arith;
  states = owes.states;
  generations = λ j. owes.generations j ∙ rule.generations j;
  latches = owes.latches;
  ordered = owes.ordered;
  either = λ j i w. owes.either j i (total (claims_on j i) hs') w (c.sums (claims_on j i));
  keyed = λ j i w l. owes.keyed j i (total (claims_on j i) hs') w l (c.sums (claims_on j i));
  claimed = c.every (λ (u : RoomHolds). OnClaim (ClaimStands m' content) u.claim) owes.own_claims (λ j u stays at. claim_still m m' content content u.claim (λ q. owes.claims j u q stays at) (rule.claimed j u at));
  good = c.every (λ (u : RoomHolds). OnRoomPin (λ p. IsGoodRoom p → RoomPinHolds z m' content p) u.pin) owes.own (λ j u stays at. good_still z m m' content content u.pin (λ p. owes.others j u p stays at) (rule.good j u at));
  carried = c.every (λ (u : RoomHolds). AreTrueRanges content u.moving) owes.carried (λ j u _ at. rule.carried j u at);
  passes = c.every (RoomHoldsStand z) owes.stands (λ j u _ at. rule.passes j u at);
}

-- what a step of one seat owes
pub record RoomsStep (z : Sizes) (m m' : RoomMemory) (content : ℕ → List ℕ) (hs : List RoomHolds) (seat : ℕ) (a b : RoomHolds) : Type 0 where
  pub pins : (j : ℕ) → room_pins j b + count_of (m.pin j) ≡ room_pins j a + count_of (m'.pin j)
  pub held : (j s : ℕ) → (s ≡ FROZEN) ⊎ (s ≡ HELD) → in_room_state j s b + one_at (state_of (m.pin j)) s ≡ in_room_state j s a + one_at (state_of (m'.pin j)) s
  pub states : (j : ℕ) → state_of (m'.pin j) ≤ HELD
  pub generations : (j : ℕ) → generation_of (m'.pin j) ≡ generation_of (m.pin j)
  pub latches : (j : ℕ) → m'.latch j ≡ 0
  pub ordered : (j : ℕ) → weight (m'.pin j) ≡ 1 → IsInOrder z content (m'.count j) (m'.key j) (m'.value j) (linked m' j) (m'.low j 0) (m'.high j 0)
  -- where n are the claims behind the step
  pub either : (j i n : ℕ) → weight (m'.pin j) ≡ 1 → n + claims_on j i a ≡ total (claims_on j i) hs + claims_on j i b → total (λ k. one_at k i) (linked m' j) + n ≤ 1
  pub keyed : (j i n : ℕ) → weight (m'.pin j) ≡ 1 → i < entries_in (m'.count j) → n + claims_on j i a ≡ total (claims_on j i) hs + claims_on j i b → one_if (nat_lt 0 (m'.key j i)) ≤ total (λ k. one_at k i) (linked m' j) + n
  -- a claim of another pass
  pub claims : (j : ℕ) (u : RoomHolds) (c : Claim) → j ≢ seat → get_elem? hs j ≡ some u → u.claim ≡ Some c → ClaimStands m content c → ClaimStands m' content c
  pub own_claim : OnClaim (ClaimStands m' content) b.claim
  -- a pin of another pass
  pub others : (j : ℕ) (u : RoomHolds) (p : PinnedRoom) → j ≢ seat → get_elem? hs j ≡ some u → u.pin ≡ Some p → RoomPinHolds z m content p → RoomPinHolds z m' content p
  pub own : OnRoomPin (λ p. IsGoodRoom p → RoomPinHolds z m' content p) b.pin
  pub carried : AreTrueRanges content b.moving
  pub stands : RoomHoldsStand z b

pub rooms_stepped : (z : Sizes) (m m' : RoomMemory) (content : ℕ → List ℕ) (hs : List RoomHolds) (seat : ℕ) (a b : RoomHolds) → get_elem? hs seat ≡ some a → RoomsStep z m m' content hs seat a b → RoomsStand z m content hs → RoomsStand z m' content (set hs seat b)
unfolding total
rooms_stepped z m m' content hs seat a b here owes rule = rooms_changed z m m' content hs (set hs seat b) (a ∷ []) (b ∷ []) (stepped hs seat a b here) (record {
  pins = λ j. let p = owes.pins j in omega arith;
  held = λ j s is. let p = owes.held j s is in omega arith;
  states = owes.states;
  generations = owes.generations;
  latches = owes.latches;
  ordered = owes.ordered;
  either = λ j i n w e. owes.either j i n w (omega arith);
  keyed = λ j i n w l e. owes.keyed j i n w l (omega arith);
  claims = owes.claims;
  own_claims = (owes.own_claim, tt);
  others = owes.others;
  own = (owes.own, tt);
  carried = (owes.carried, tt);
  stands = (owes.stands, tt);
}) rule
