-- The pin word of a room changes and its state stays, with the pin of a pass: a pin is made, or undone.
use Rattle.std.proofs.Common.{◌≡◌, ℕ, ◌+◌, ◌-◌, ◌*◌, ◌%◌, ◌^◌, ◌<◌, ◌≤◌, List, set, sym, refl, ap, ◌∙◌, subst, arith, Option, Some, None}
use mathlib.Core.Option.{some}
use lib.ListN.{get_elem?}
use Rattle.pin_word.specs.PinWord.{state_of, generation_of, count_of}
use Rattle.pin_word.proofs.StepLaws.{pin_up, pin_down}
use Rattle.chunk_core.specs.declared.states.TheConstants.{OPEN, FROZEN}
use Rattle.chunk_core.specs.declared.holds.PinnedRoom.{PinnedRoom}
use Rattle.chunk_core.specs.declared.holds.RoomHolds.{RoomHolds}
use Rattle.oak_model.specs.Counts.{one_at, put}
use Rattle.oak_model.specs.Limits.{Sizes}
use Rattle.oak_model.proofs.Counting.{one_at-same, one_at-other, one_at-true, one_at-le, total_at}
use Rattle.oak_model.proofs.PutLaws.{put-level, put-same}
use Rattle.chunk_core.specs.CoverRule.{CoversPartition}
use Rattle.chunk_core.specs.CoverSums.{weight, all_of}
use Rattle.chunk_core.specs.Covers.{Cover, cover_at}
use Rattle.chunk_core.specs.PinnedRooms.{OnRoomPin, IsGoodRoom, RoomPinHolds}
use Rattle.chunk_core.specs.RoomHolds.{pins_of}
use Rattle.chunk_core.specs.RoomReads.{pinned_at}
use Rattle.chunk_core.specs.RoomRule.{ClaimIsPinned, room_pins, RoomHoldsStand, RoomsStand}
use Rattle.chunk_core.specs.RoomStep.{put_room}
use Rattle.chunk_core.specs.Rooms.{RoomMemory, at_room_pin}
use Rattle.chunk_core.proofs.CoverFrames.{partition_same}
use Rattle.chunk_core.proofs.RoomFrames.{good_still, claim_still, rooms_stepped}
use Rattle.chunk_core.proofs.CoverLaws.{all_still}

-- a pass has one pin at most
pub room_pins_most : (r : ℕ) (a : RoomHolds) → room_pins r a ≤ 1
room_pins_most r a = most a.pin
  where
    most : (o : Option PinnedRoom) → pins_of r o ≤ 1
    most None = omega arith
    most (Some p) = one_at-le p.room r

module _ (z : Sizes) (m : RoomMemory) (content : ℕ → List ℕ) (hs : List RoomHolds) (rule : RoomsStand z m content hs) (seat : ℕ) (a : RoomHolds) (here : get_elem? hs seat ≡ some a)
    (r x : ℕ) (state : state_of x ≡ state_of (m.pin r)) (generation : generation_of x ≡ generation_of (m.pin r)) (o : Option PinnedRoom)
    (counts : (j : ℕ) → pins_of j o + count_of (m.pin j) ≡ pins_of j a.pin + count_of (put m.pin r x j))
    (good : OnRoomPin (λ p. IsGoodRoom p → RoomPinHolds z m content p) o) (stands : RoomHoldsStand z (record a { pin = o })) where
  abbrev pub m' : RoomMemory
  m' = put_room m (at_room_pin r) x

  abbrev pub b : RoomHolds
  b = record a { pin = o }

  abbrev pub hs' : List RoomHolds
  hs' = set hs seat b

  pub state_still : (j : ℕ) → state_of (m'.pin j) ≡ state_of (m.pin j)
  state_still = put-same m.pin r x state_of state

  pub weight_still : (j : ℕ) → weight (m'.pin j) ≡ weight (m.pin j)
  weight_still j = ap (λ (t : ℕ). one_at t OPEN + one_at t FROZEN) (state_still j)

  still_holds : (p : PinnedRoom) → RoomPinHolds z m content p → RoomPinHolds z m' content p
  still_holds p h = record { inside = h.inside; cover = weight_still p.room ∙ h.cover; base = h.base; low = h.low; high = h.high; counted = h.counted; prefix = h.prefix; entries = h.entries; walked = h.walked }

  pub pins_stand : RoomsStand z m' content hs'
  pins_stand = rooms_stepped z m m' content hs seat a b here (record {
    pins = counts;
    held = λ j s is. let e = ap (λ (t : ℕ). one_at t s) (state_still j) in omega arith;
    states = λ j. let e = state_still j in let l = rule.states j in omega arith;
    generations = put-same m.pin r x generation_of generation;
    latches = rule.latches;
    ordered = λ j w. rule.ordered j (sym (weight_still j) ∙ w);
    either = λ j i n w e. let q = rule.either j i (sym (weight_still j) ∙ w) in omega arith;
    keyed = λ j i n w l e. let q = rule.keyed j i (sym (weight_still j) ∙ w) l in omega arith;
    claims = λ j u c ne at is h. record { inside = h.inside; words = h.words };
    own_claim = claim_still m m' content content a.claim (λ c _ h. record { inside = h.inside; words = h.words }) (rule.claimed seat a here);
    others = λ j u p ne at is h. still_holds p h;
    own = good_still z m m' content content o (λ p _ h. still_holds p h) good;
    carried = rule.carried seat a here;
    stands = stands;
  }) rule

  -- nothing that is added up over the covers changes
  pub pins_covers : (F : Cover → ℕ) → all_of z m' content hs' F ≡ all_of z m content hs F
  pins_covers F = all_still z m m' content content hs seat a b here refl F (λ j _. ap (λ (t : ℕ). t * F (cover_at m content j)) (weight_still j))

  pub pins_partition : (is_key_word : ℕ → ℕ) → CoversPartition z m content is_key_word hs → CoversPartition z m' content is_key_word hs'
  pins_partition is_key_word = partition_same z m m' content content is_key_word hs hs' pins_covers

-- a pin is made
module _ (z : Sizes) (m : RoomMemory) (content : ℕ → List ℕ) (hs : List RoomHolds) (rule : RoomsStand z m content hs) (seat : ℕ) (a : RoomHolds) (here : get_elem? hs seat ≡ some a)
    (r : ℕ) (inside : r < z.chunks) (none : a.pin ≡ None) (few : count_of (m.pin r) + 1 < 2 ^ 28) (small : m.pin r < 2 ^ 64) where
  up_counts : (j : ℕ) → pins_of j (Some (pinned_at m r)) + count_of (m.pin j) ≡ pins_of j a.pin + count_of (put m.pin r ((m.pin r + 1) % 2 ^ 64) j)
  up_counts = let u = pin_up (m.pin r) few small in put-level m.pin r ((m.pin r + 1) % 2 ^ 64) count_of (λ j. pins_of j a.pin) (λ j. one_at r j) (let u0 = u.0 in let n = ap (pins_of r) none in let o = one_at-same r r refl in omega arith)
      (λ j ne. one_at-other r j (λ e. ne (sym e)) ∙ sym (ap (pins_of j) none))

  no_claim : a.claim ≡ None
  no_claim = go a.pin a.claim none (rule.passes seat a here).claim
    where
      go : (o : Option PinnedRoom) (l : Option _) → o ≡ None → ClaimIsPinned o l → l ≡ None
      go None None e h = refl
      go None (Some l) e h = absurd h
      go (Some p) l e h = cc

  pub pin_stands : RoomsStand z (put_room m (at_room_pin r) ((m.pin r + 1) % 2 ^ 64)) content (set hs seat (record a { pin = Some (pinned_at m r) }))
  pin_stands = let u = pin_up (m.pin r) few small in pins_stand z m content hs rule seat a here r ((m.pin r + 1) % 2 ^ 64) u.1 u.2 (Some (pinned_at m r)) up_counts
      (λ (good : state_of (m.pin r) ≡ OPEN). record { inside = inside; cover = opened good; base = refl; low = refl; high = refl; counted = refl; prefix = tt; entries = tt; walked = tt })
      (record { claim = subst (λ l. ClaimIsPinned (Some (pinned_at m r)) l) (sym no_claim) tt; whole = (rule.passes seat a here).whole })
    where
      opened : state_of (m.pin r) ≡ OPEN → weight (m.pin r) ≡ 1
      opened e = let o = one_at-same (state_of (m.pin r)) OPEN e in let q = one_at-other (state_of (m.pin r)) FROZEN (λ f. absurd (let g = e in omega arith)) in omega arith

-- the pass's pin is undone
module _ (z : Sizes) (m : RoomMemory) (content : ℕ → List ℕ) (hs : List RoomHolds) (rule : RoomsStand z m content hs) (seat : ℕ) (a : RoomHolds) (here : get_elem? hs seat ≡ some a)
    (r : ℕ) (mine : room_pins r a ≡ 1) (claim : a.claim ≡ None) (small : m.pin r < 2 ^ 64) where
  some_pin : 0 < count_of (m.pin r)
  some_pin = let t = total_at (room_pins r) hs seat a here in let k = rule.counted r in omega arith

  -- the pin is on this room
  own_pin : (j : ℕ) → pins_of j a.pin ≡ one_at r j
  own_pin j = go a.pin mine
    where
      go : (o : Option PinnedRoom) → pins_of r o ≡ 1 → pins_of j o ≡ one_at r j
      go None e = absurd (omega arith)
      go (Some p) e = ap (λ (t : ℕ). one_at t j) (one_at-true p.room r (omega arith))

  down_counts : (j : ℕ) → pins_of j None + count_of (m.pin j) ≡ pins_of j a.pin + count_of (put m.pin r ((m.pin r + (2 ^ 64 - 1)) % 2 ^ 64) j)
  down_counts = let d = pin_down (m.pin r) some_pin small in put-level m.pin r ((m.pin r + (2 ^ 64 - 1)) % 2 ^ 64) count_of (λ j. pins_of j a.pin) (λ _. 0) (let d0 = d.0 in omega arith) (λ j ne. sym (own_pin j ∙ one_at-other r j (λ e. ne (sym e))))

  pub unpin_stands : RoomsStand z (put_room m (at_room_pin r) ((m.pin r + (2 ^ 64 - 1)) % 2 ^ 64)) content (set hs seat (record a { pin = None }))
  unpin_stands = let d = pin_down (m.pin r) some_pin small in pins_stand z m content hs rule seat a here r ((m.pin r + (2 ^ 64 - 1)) % 2 ^ 64) d.1 d.2 None down_counts tt
      (record { claim = subst (λ l. ClaimIsPinned None l) (sym claim) tt; whole = (rule.passes seat a here).whole })
