-- A load of the count of a pinned room, under a good pin: the pass has found the entries below it.
use Rattle.std.proofs.Common.{◌≡◌, ℕ, zero, suc, ◌+◌, ◌<◌, List, set, sym, refl, ap, ◌∙◌, subst, arith, Option, Some, None}
use mathlib.Core.Option.{some, some-injective, some-ne-none}
use lib.ListN.{get_elem?}
use Rattle.pin_word.specs.PinWord.{state_of}
use Rattle.oak_model.specs.Counts.{rows}
use Rattle.oak_model.specs.Limits.{Sizes}
use Rattle.oak_model.proofs.Lists.{rows_length}
use Rattle.oak_model.proofs.RowLaws.{each_rows}
use Rattle.chunk_core.specs.declared.holds.FoundEntry.{FoundEntry}
use Rattle.chunk_core.specs.declared.holds.Claim.{Claim}
use Rattle.chunk_core.specs.declared.holds.PinnedRoom.{PinnedRoom}
use Rattle.chunk_core.specs.declared.holds.RoomHolds.{RoomHolds}
use Rattle.chunk_core.specs.CoverRule.{CoversPartition}
use Rattle.chunk_core.specs.CoverSums.{all_of}
use Rattle.chunk_core.specs.Covers.{Cover, span_in}
use Rattle.chunk_core.specs.KeyWords.{low_number, high_number}
use Rattle.chunk_core.specs.LinkedEntries.{linked, prefix_in}
use Rattle.chunk_core.specs.PinnedRooms.{OnRoomPin, IsGoodRoom, EntryStands, RoomPinHolds, span_of}
use Rattle.chunk_core.specs.RoomHolds.{pins_of}
use Rattle.chunk_core.specs.RoomReads.{found_at}
use Rattle.chunk_core.specs.RoomRule.{ClaimIsPinned, IsInOrder, RoomsStand}
use Rattle.chunk_core.specs.Rooms.{RoomMemory}
use Rattle.chunk_core.specs.RoomsAfter.{pin_with}
use Rattle.chunk_core.proofs.CoverFrames.{partition_same}
use Rattle.chunk_core.proofs.CoverLaws.{all_still}
use Rattle.chunk_core.proofs.RoomFrames.{rooms_stepped}

-- the parts of rows
pub rows_is : {A : Type 0} (f : ℕ → A) (i n j : ℕ) (x : A) → get_elem? (rows i n f) j ≡ some x → (j < n) × (f (i + j) ≡ x)
unfolding rows
rows_is f i zero j x e = absurd (some-ne-none x (sym e))
rows_is f i (suc n) zero x e = (omega arith, ap f (let q : i + 0 ≡ i = omega arith in q) ∙ some-injective (f i) x e)
rows_is f i (suc n) (suc j) x e = let r = rows_is f (suc i) n j x e in let l = r.0 in (omega arith, ap f (let q : i + suc j ≡ suc i + j = omega arith in q) ∙ r.1)

pub rows_has : {A : Type 0} (f : ℕ → A) (i n j : ℕ) → j < n → get_elem? (rows i n f) j ≡ some (f (i + j))
unfolding rows
rows_has f i zero j l = absurd (omega arith)
rows_has f i (suc n) zero l = ap (λ (t : ℕ). some (f t)) (let q : i ≡ i + 0 = omega arith in q)
rows_has f i (suc n) (suc j) l = rows_has f (suc i) n j (omega arith) ∙ ap (λ (t : ℕ). some (f t)) (let q : suc i + j ≡ i + suc j = omega arith in q)

-- the range of the room is the one found
pub span_same : (z : Sizes) (m : RoomMemory) (content : ℕ → List ℕ) (p : PinnedRoom) → RoomPinHolds z m content p → span_in m p.room ≡ span_of p
span_same z m content p h = λ i. record { low = low_number (h.low i); high = high_number (h.high i); base = h.base i }

-- the pin with the entries of the prefix
pub found_holds : (z : Sizes) (m : RoomMemory) (content : ℕ → List ℕ) (p : PinnedRoom) → RoomPinHolds z m content p → IsInOrder z content (m.count p.room) (m.key p.room) (m.value p.room) (linked m p.room) (m.low p.room 0) (m.high p.room 0) → RoomPinHolds z m content (pin_with m content (m.count p.room) p)
found_holds z m content p h o = record {
  inside = h.inside;
  cover = h.cover;
  base = h.base;
  low = h.low;
  high = h.high;
  counted = (rows_length 0 (prefix_in (m.count p.room)) (found_at m content p.room), (λ j e at. let t = rows_is (found_at m content p.room) 0 (prefix_in (m.count p.room)) j e at in sym (ap (λ (x : FoundEntry). x.number) t.1) ∙ (let q : 0 + j ≡ j = omega arith in q)));
  prefix = refl;
  entries = each_rows (EntryStands (linked m p.room) (m.key p.room) content) 0 (prefix_in (m.count p.room)) (found_at m content p.room) (λ j le lt. record { linked = o.front j (omega arith); word = refl; words = refl });
  walked = h.walked;
}

-- the claim of a pass stays pinned when its pin finds entries
pub claim_on : (p q : PinnedRoom) (l : Option Claim) → q.room ≡ p.room → q.found ≡ p.found → ClaimIsPinned (Some p) l → ClaimIsPinned (Some q) l
claim_on p q None room found h = tt
claim_on p q (Some l) room found h = (room ∙ h.0, ap state_of found ∙ h.1)

module _ (z : Sizes) (m : RoomMemory) (content : ℕ → List ℕ) (is_key_word : ℕ → ℕ) (hs : List RoomHolds) (rule : RoomsStand z m content hs) (parts : CoversPartition z m content is_key_word hs) (seat : ℕ) (a : RoomHolds) (here : get_elem? hs seat ≡ some a)
    (p : PinnedRoom) (is : a.pin ≡ Some p) (good : IsGoodRoom p) where
  abbrev p' : PinnedRoom
  p' = pin_with m content (m.count p.room) p

  pub pin_holds : RoomPinHolds z m content p
  pin_holds = subst (OnRoomPin (λ q. IsGoodRoom q → RoomPinHolds z m content q)) is (rule.good seat a here) good

  pub count_rooms : RoomsStand z m content (set hs seat (record a { pin = Some (pin_with m content (m.count p.room) p) }))
  count_rooms = rooms_stepped z m m content hs seat a (record a { pin = Some p' }) here (record {
    pins = λ j. let e = ap (pins_of j) is in omega arith;
    held = λ j s x. refl;
    states = rule.states;
    generations = λ j. refl;
    latches = rule.latches;
    ordered = rule.ordered;
    either = λ j i n w e. let q = rule.either j i w in omega arith;
    keyed = λ j i n w l e. let q = rule.keyed j i w l in omega arith;
    claims = λ j u c ne at e h. h;
    own_claim = rule.claimed seat a here;
    others = λ j u q ne at x h. h;
    own = λ _. found_holds z m content p pin_holds (rule.ordered p.room pin_holds.cover);
    carried = rule.carried seat a here;
    stands = record { claim = claim_on p p' a.claim refl refl (subst (λ o. ClaimIsPinned o a.claim) is (rule.passes seat a here).claim); whole = (rule.passes seat a here).whole };
  }) rule

  pub count_covers : (F : Cover → ℕ) → all_of z m content (set hs seat (record a { pin = Some (pin_with m content (m.count p.room) p) })) F ≡ all_of z m content hs F
  count_covers F = all_still z m m content content hs seat a (record a { pin = Some p' }) here refl F (λ j _. refl)

  pub count_partition : CoversPartition z m content is_key_word (set hs seat (record a { pin = Some (pin_with m content (m.count p.room) p) }))
  count_partition = partition_same z m m content content is_key_word hs (set hs seat (record a { pin = Some p' })) count_covers parts
