-- An entry is linked: one linked entry more, with the room's base as its floor. Links are words of two kinds, the first one of a room and those of entries; so the laws are over what the new first links and links lead to.
use Rattle.std.proofs.Common.{◌≡◌, ◌≢◌, ℕ, ◌+◌, ◌-◌, ◌<◌, ◌⊎◌, List, ◌∷◌, map, set, sym, refl, ap, ◌∙◌, subst, arith, Option, Some, None}
use mathlib.Core.Logic.{dite}
use mathlib.Core.Option.{some}
use native.Mathlib.Decide.{ℕ_discrete}
use lib.ListN.{get_elem?}
use Rattle.chunk_core.specs.declared.holds.Claim.{Claim}
use Rattle.chunk_core.specs.declared.holds.FoundEntry.{FoundEntry}
use Rattle.chunk_core.specs.declared.holds.PinnedRoom.{PinnedRoom}
use Rattle.chunk_core.specs.declared.holds.RoomHolds.{RoomHolds}
use Rattle.oak_model.specs.Counts.{one_at, total, Each}
use Rattle.oak_model.specs.Limits.{Sizes}
use Rattle.oak_model.proofs.Counting.{one_at-same, one_at-other, total_at}
use Rattle.oak_model.proofs.Lists.{each_map}
use Rattle.oak_model.proofs.SumLaws.{times-one}
use Rattle.chunk_core.specs.CoverSums.{weight}
use Rattle.chunk_core.specs.Covers.{span_in, entry_at, key_at}
use Rattle.chunk_core.specs.LinkWords.{link_spot}
use Rattle.chunk_core.specs.LinkedEntries.{linked, reached, Rises, entries_in}
use Rattle.chunk_core.specs.PinnedRooms.{OnRoomPin, IsGoodRoom, RoomPinHolds, EntryStands}
use Rattle.chunk_core.specs.RoomHolds.{claims_of, claims_on, pins_of}
use Rattle.chunk_core.specs.RoomReads.{found_at}
use Rattle.chunk_core.specs.RoomRule.{IsInOrder, RoomsStand}
use Rattle.chunk_core.specs.RoomStep.{put_room}
use Rattle.chunk_core.specs.Rooms.{RoomMemory}
use Rattle.chunk_core.proofs.ChainLinks.{link_of, IsReachedFrom, IsAbove}
use Rattle.chunk_core.proofs.Claims.{claim_away}
use Rattle.chunk_core.proofs.CoverLaws.{room_total}
use Rattle.chunk_core.proofs.GainedEntries.{GainsEntry}
use Rattle.chunk_core.proofs.LinkStores.{first_with, next_with, behind_apart, behind_more, behind_rise, behind_used, front_apart, front_more, front_rises, front_used}
use Rattle.chunk_core.proofs.RoomFrames.{rooms_stepped}

-- by these first links and links of entries the room r has the entry n linked, beside those that were, in the order of the keys, and no other room another
pub record LinksMore (m : RoomMemory) (content : ℕ → List ℕ) (r n : ℕ) (f : ℕ → ℕ) (g : ℕ → ℕ → ℕ) : Type 0 where
  pub apart : (j : ℕ) → j ≢ r → reached (g j) (f j) ≡ linked m j
  pub more : (h : ℕ → ℕ) → total h (reached (g r) (f r)) ≡ total h (linked m r) + h n
  pub used : Each (λ i. i < entries_in (m.count r)) (reached (g r) (f r))
  pub rises : Rises (λ i. key_at content (m.key r i)) (reached (g r) (f r))

-- the first links, and the links of entries, with x at a link
abbrev pub firsts_with : RoomMemory → ℕ → Option ℕ → ℕ → ℕ → ℕ
firsts_with m r None x = first_with m r x
firsts_with m r (Some q) x = m.first

abbrev pub nexts_with : RoomMemory → ℕ → Option ℕ → ℕ → ℕ → ℕ → ℕ
nexts_with m r None x = m.next
nexts_with m r (Some q) x = next_with m r q x

-- these are the words behind a store to it
pub put_link : (m : RoomMemory) (r : ℕ) (from : Option ℕ) (x : ℕ) → put_room m (link_spot r from) x ≡ record m { first = firsts_with m r from x; next = nexts_with m r from x }
put_link m r None x = refl
put_link m r (Some q) x = refl

-- a link that comes to name an entry, whose own link is what that one was
pub links_more : (m : RoomMemory) (content : ℕ → List ℕ) (r e : ℕ) (o : Each (λ i. i < entries_in (m.count r)) (linked m r)) (rises : Rises (λ i. key_at content (m.key r i)) (linked m r)) (unlinked : total (λ j. one_at j e) (linked m r) ≡ 0) (low : e < entries_in (m.count r))
    (from : Option ℕ) → IsReachedFrom (m.next r) (m.first r) from → m.next r e ≡ link_of (m.next r) (m.first r) from → IsAbove (λ i. key_at content (m.key r i)) from (key_at content (m.key r e))
    → (link_of (m.next r) (m.first r) from ≡ 0) ⊎ (key_at content (m.key r e) < key_at content (m.key r (link_of (m.next r) (m.first r) from - 1))) → LinksMore m content r e (firsts_with m r from (e + 1)) (nexts_with m r from (e + 1))
links_more m content r e o rises unlinked low None there same above before = record {
  apart = λ j ne. front_apart m content r e o rises unlinked low same before j ne;
  more = λ h. front_more m content r e o rises unlinked low same before h;
  used = front_used m content r e o rises unlinked low same before;
  rises = front_rises m content r e o rises unlinked low same before;
}
links_more m content r e o rises unlinked low (Some q) there same above before = record {
  apart = λ j ne. behind_apart m content r e o rises unlinked low q there same above before j ne;
  more = λ h. behind_more m content r e o rises unlinked low q there same above before h;
  used = behind_used m content r e o rises unlinked low q there same above before;
  rises = behind_rise m content r e o rises unlinked low q there same above before;
}

-- the room gains the entry
pub links_gain : (m : RoomMemory) (content : ℕ → List ℕ) (r n : ℕ) (f : ℕ → ℕ) (g : ℕ → ℕ → ℕ) → LinksMore m content r n f g → GainsEntry m (record m { first = f; next = g }) content r n
links_gain m content r n f g l = record {
  pins = λ j. refl;
  span = refl;
  apart = λ j ne. ap (λ (t : List ℕ). record { span = span_in m j; entries = map (entry_at m content j) t }) (l.apart j ne);
  more = λ h. let a = room_total m content r h in let b = room_total (record m { first = f; next = g }) content r h in let d = l.more (λ i. h (span_in m r) (entry_at m content r i)) in omega arith;
}

-- the points on rooms, where the pass has claimed the entry
module _ (z : Sizes) (m : RoomMemory) (content : ℕ → List ℕ) (hs : List RoomHolds) (rule : RoomsStand z m content hs) (seat : ℕ) (a : RoomHolds) (here : get_elem? hs seat ≡ some a)
    (p : PinnedRoom) (is : a.pin ≡ Some p) (good : IsGoodRoom p) (c : Claim) (has : a.claim ≡ Some c) (on_room : c.room ≡ p.room)
    (f : ℕ → ℕ) (g : ℕ → ℕ → ℕ) (links : LinksMore m content p.room c.number f g) where
  abbrev m' : RoomMemory
  m' = record m { first = f; next = g }

  abbrev p' : PinnedRoom
  p' = record p { walked = found_at m content p.room c.number ∷ p.walked }

  abbrev b : RoomHolds
  b = record a { claim = None; pin = Some (record p { walked = found_at m content p.room c.number ∷ p.walked }) }

  holds : RoomPinHolds z m content p
  holds = subst (OnRoomPin (λ q. IsGoodRoom q → RoomPinHolds z m content q)) is (rule.good seat a here) good

  -- the pass's claims
  mine : (j i : ℕ) → claims_on j i a ≡ claims_of j i (Some c)
  mine j i = ap (claims_of j i) has

  mine_here : (i : ℕ) → claims_on p.room i a ≡ one_at c.number i
  mine_here i = mine p.room i ∙ (let o = one_at-same c.room p.room on_room in times-one (one_at c.room p.room) (one_at c.number i) o)

  mine_else : (j i : ℕ) → j ≢ p.room → claims_on j i a ≡ 0
  mine_else j i ne = mine j i ∙ claim_away j i c (λ e. ne (sym e ∙ on_room))

  -- it was not linked
  pub unlinked : total (λ k. one_at k c.number) (linked m p.room) ≡ 0
  unlinked = let e = rule.either p.room c.number holds.cover in let t = total_at (claims_on p.room c.number) hs seat a here in let q = mine_here c.number in let o = one_at-same c.number c.number refl in omega arith

  -- what is linked is linked still
  still_linked : (j i : ℕ) → total (λ k. one_at k i) (linked m j) ≡ 1 → total (λ k. one_at k i) (reached (g j) (f j)) ≡ 1
  still_linked j i l = dite (ℕ_discrete j p.room)
      (λ e. let s = ap (λ (t : ℕ). total (λ k. one_at k i) (linked m t)) e in let w = ap (λ (t : ℕ). total (λ k. one_at k i) (reached (g t) (f t))) e in let q = links.more (λ k. one_at k i) in let u = unlinked in
      let o = one_at-other c.number i (λ d. let v = ap (λ (t : ℕ). total (λ k. one_at k t) (linked m p.room)) d in absurd (omega arith)) in omega arith)
      (λ ne. ap (total (λ k. one_at k i)) (links.apart j ne) ∙ l)

  entry_on : (j : ℕ) (e : FoundEntry) → EntryStands (linked m j) (m.key j) content e → EntryStands (reached (g j) (f j)) (m.key j) content e
  entry_on j e t = record { linked = still_linked j e.number t.linked; word = t.word; words = t.words }

  still_holds : (q : PinnedRoom) → RoomPinHolds z m content q → RoomPinHolds z m' content q
  still_holds q h = record {
    inside = h.inside;
    cover = h.cover;
    base = h.base;
    low = h.low;
    high = h.high;
    counted = h.counted;
    prefix = h.prefix;
    entries = each_map (EntryStands (linked m q.room) (m.key q.room) content) (EntryStands (reached (g q.room) (f q.room)) (m.key q.room) content) q.entries (entry_on q.room) h.entries;
    walked = each_map (EntryStands (linked m q.room) (m.key q.room) content) (EntryStands (reached (g q.room) (f q.room)) (m.key q.room) content) q.walked (entry_on q.room) h.walked;
  }

  own_holds : RoomPinHolds z m' content p'
  own_holds = let h = still_holds p holds in record {
    inside = h.inside;
    cover = h.cover;
    base = h.base;
    low = h.low;
    high = h.high;
    counted = h.counted;
    prefix = h.prefix;
    entries = h.entries;
    walked = (record { linked = (let q = links.more (λ k. one_at k c.number) in let u = unlinked in let o = one_at-same c.number c.number refl in omega arith); word = refl; words = refl }, h.walked);
  }

  -- an entry is linked or claimed as often as before
  same_sum : (j i n : ℕ) → n + claims_on j i a ≡ total (claims_on j i) hs + claims_on j i b → total (λ k. one_at k i) (reached (g j) (f j)) + n ≡ total (λ k. one_at k i) (linked m j) + total (claims_on j i) hs
  same_sum j i n e = dite (ℕ_discrete j p.room)
      (λ d. let s = ap (λ (t : ℕ). total (λ k. one_at k i) (linked m t)) d in let w = ap (λ (t : ℕ). total (λ k. one_at k i) (reached (g t) (f t))) d in let q = links.more (λ k. one_at k i) in let y = ap (λ (t : ℕ). claims_on t i a) d in let v = mine_here i in omega arith)
      (λ ne. let s = ap (total (λ k. one_at k i)) (links.apart j ne) in let y = mine_else j i ne in omega arith)

  pub link_rooms : RoomsStand z (record m { first = f; next = g }) content (set hs seat (record a { claim = None; pin = Some (record p { walked = found_at m content p.room c.number ∷ p.walked }) }))
  link_rooms = rooms_stepped z m m' content hs seat a b here (record {
    pins = λ j. let e = ap (pins_of j) is in omega arith;
    held = λ j s t. refl;
    states = rule.states;
    generations = λ j. refl;
    latches = rule.latches;
    ordered = λ j w. ordered j w (rule.ordered j w);
    either = λ j i n w e. let q = rule.either j i w in let s = same_sum j i n e in omega arith;
    keyed = λ j i n w l e. let q = rule.keyed j i w l in let s = same_sum j i n e in omega arith;
    claims = λ j u d ne at e h. record { inside = h.inside; words = h.words };
    own_claim = tt;
    others = λ j u q ne at t h. still_holds q h;
    own = λ _. own_holds;
    carried = rule.carried seat a here;
    stands = record { claim = tt; whole = (rule.passes seat a here).whole };
  }) rule
    where
      here_order : IsInOrder z content (m.count p.room) (m.key p.room) (m.value p.room) (linked m p.room) (m.low p.room 0) (m.high p.room 0) → IsInOrder z content (m.count p.room) (m.key p.room) (m.value p.room) (reached (g p.room) (f p.room)) (m.low p.room 0) (m.high p.room 0)
      here_order o = record { few = o.few; prefix = o.prefix; sorted = o.sorted; used = links.used; rises = links.rises; front = λ i l. still_linked p.room i (o.front i l); zeros = o.zeros; bounds = o.bounds }

      ordered : (j : ℕ) → weight (m.pin j) ≡ 1 → IsInOrder z content (m.count j) (m.key j) (m.value j) (linked m j) (m.low j 0) (m.high j 0) → IsInOrder z content (m.count j) (m.key j) (m.value j) (reached (g j) (f j)) (m.low j 0) (m.high j 0)
      ordered j w o = dite (ℕ_discrete j p.room)
          (λ e. subst (λ (t : ℕ). IsInOrder z content (m.count t) (m.key t) (m.value t) (reached (g t) (f t)) (m.low t 0) (m.high t 0)) (sym e) (here_order (rule.ordered p.room holds.cover)))
          (λ ne. subst (λ (t : List ℕ). IsInOrder z content (m.count j) (m.key j) (m.value j) t (m.low j 0) (m.high j 0)) (sym (links.apart j ne)) o)
