-- A load of a link of a pinned room that leads on from what was found, under a good pin: the pass has found the entry that the link names, and no entry has a key between the two.
use Rattle.std.proofs.Common.{◌≡◌, ◌≢◌, ℕ, ◌+◌, ◌-◌, ◌<◌, ◌⊎◌, cond, Bool, true, false, List, [], ◌∷◌, sym, refl, ap, ◌∙◌, subst, inl, inr, ⊎_elim, arith, Option, Some, None, eq-eqb, ne_eqb}
use Rattle.std.specs.Prelude.{is_some, set}
use mathlib.Core.Logic.{dite}
use mathlib.Core.Option.{some}
use lib.ListN.{get_elem?}
use native.Mathlib.Decide.{ℕ_discrete}
use Rattle.oak_model.specs.Counts.{one_at, total, Each, Has}
use Rattle.oak_model.specs.Limits.{Sizes}
use Rattle.oak_model.proofs.Counting.{decided}
use Rattle.chunk_core.specs.declared.holds.FoundEntry.{FoundEntry}
use Rattle.chunk_core.specs.declared.holds.PinnedRoom.{PinnedRoom}
use Rattle.chunk_core.specs.declared.holds.RoomHolds.{RoomHolds}
use Rattle.chunk_core.specs.CoverRule.{CoversPartition}
use Rattle.chunk_core.specs.CoverSums.{all_of, has_key, word_of, base_of}
use Rattle.chunk_core.specs.Covers.{Cover, key_at}
use Rattle.chunk_core.specs.FoundLinks.{entry_numbered, leads, found_from, found_by, IsAboveFound, IsBelowFound, LiesBetween}
use Rattle.chunk_core.specs.LinkedEntries.{entries_in, linked}
use Rattle.chunk_core.specs.LinkWords.{link_word}
use Rattle.chunk_core.specs.PinnedRooms.{OnRoomPin, IsGoodRoom, EntryStands, RoomPinHolds, found_in}
use Rattle.chunk_core.specs.RoomReads.{found_at, found_more}
use Rattle.chunk_core.specs.RoomHolds.{pins_of}
use Rattle.chunk_core.specs.RoomRule.{ClaimIsPinned, IsInOrder, RoomsStand}
use Rattle.chunk_core.specs.RoomsAfter.{pin_walked}
use Rattle.chunk_core.specs.Rooms.{RoomMemory}
use Rattle.chunk_core.specs.Spans.{Span, within}
use Rattle.chunk_core.proofs.ChainLinks.{link_of, IsReachedFrom, IsAbove, named_reached, none_between}
use Rattle.chunk_core.proofs.CountLoads.{claim_on, span_same}
use Rattle.chunk_core.proofs.CoverLaws.{all_still, room_total}
use Rattle.chunk_core.proofs.EntryNumbers.{few_entries}
use Rattle.chunk_core.proofs.RoomFrames.{rooms_stepped}
use Rattle.chunk_core.proofs.Lookups.{no_word}
use Rattle.chunk_core.proofs.RangeLaws.{count_of_room, base_of_room, none_there}
use Rattle.chunk_core.proofs.RoomLinks.{found_stands, found_key_is}

-- an entry that is found by its number is one of them
pub numbered : (i : ℕ) (es : List FoundEntry) → is_some (entry_numbered i es) ≡ true → (e : FoundEntry) × (entry_numbered i es ≡ Some e) × Has e es × (e.number ≡ i)
unfolding entry_numbered
numbered i [] h = absurd (never h)
  where
    never : false ≡ true → ⊥
    never e = cc
numbered i (x ∷ xs) h = dite (ℕ_discrete x.number i)
    (λ e. (x, ap (λ (b : Bool). cond b (Some x) (entry_numbered i xs)) (eq-eqb x.number i e), inl refl, e))
    (λ ne. let s = ap (λ (b : Bool). cond b (Some x) (entry_numbered i xs)) (ne_eqb x.number i ne) in let t = numbered i xs (sym (ap is_some s) ∙ h) in (t.0, s ∙ t.1, inr t.2, t.3))

-- one that is there is found by its number
pub is_numbered : (e : FoundEntry) (es : List FoundEntry) → Has e es → is_some (entry_numbered e.number es) ≡ true
unfolding entry_numbered
is_numbered e [] h = absurd h
is_numbered e (x ∷ xs) h = dite (ℕ_discrete x.number e.number)
    (λ s. ap (λ (b : Bool). is_some (cond b (Some x) (entry_numbered e.number xs))) (eq-eqb x.number e.number s))
    (λ ne. ap (λ (b : Bool). is_some (cond b (Some x) (entry_numbered e.number xs))) (ne_eqb x.number e.number ne) ∙ is_numbered e xs (⊎_elim (λ (s : e ≡ x). absurd (ne (ap (λ (y : FoundEntry). y.number) (sym s)))) (λ (t : Has e xs). t) h))

-- what a link says, by the room's links
pub link_read : (m : RoomMemory) (r : ℕ) (from : Option ℕ) → link_word m r from ≡ link_of (m.next r) (m.first r) from
link_read m r None = refl
link_read m r (Some q) = refl

module _ (z : Sizes) (m : RoomMemory) (content : ℕ → List ℕ) (p : PinnedRoom) (h : RoomPinHolds z m content p) (o : IsInOrder z content (m.count p.room) (m.key p.room) (m.value p.room) (linked m p.room) (m.low p.room 0) (m.high p.room 0)) (from : Option ℕ) (lead : leads from p ≡ true) where
  abbrev key : ℕ → ℕ
  key i = key_at content (m.key p.room i)

  -- a link that leads on is the first, or of an entry that is reached
  pub leads_reached : IsReachedFrom (m.next p.room) (m.first p.room) from
  leads_reached = go from lead
    where
      go : (o : Option ℕ) → leads o p ≡ true → IsReachedFrom (m.next p.room) (m.first p.room) o
      go None e = tt
      go (Some q) e = let n = numbered q (found_in p) e in subst (λ (t : ℕ). total (λ j. one_at j t) (linked m p.room) ≡ 1) n.3 (found_stands z m content p h n.0 n.2).linked

  -- what it names stands, as it is found
  pub named_stands : (y : ℕ) → link_word m p.room from ≡ y + 1 → EntryStands (linked m p.room) (m.key p.room) content (found_at m content p.room y)
  named_stands y e = record {
    linked = named_reached (entries_in (m.count p.room)) (few_entries (m.count p.room)) key (m.next p.room) (m.first p.room) o.used o.rises from y leads_reached (sym (link_read m p.room from) ∙ e);
    word = refl;
    words = refl;
  }

  -- no linked entry has a key between
  pub between_none : (k : ℕ) → LiesBetween p (found_from from p) (found_by m content p.room (link_word m p.room from)) k → (x : ℕ) → 0 < total (λ j. one_at j x) (linked m p.room) → key_at content (m.key p.room x) ≢ k
  between_none k b x there = none_between (entries_in (m.count p.room)) (few_entries (m.count p.room)) key (m.next p.room) (m.first p.room) o.used o.rises from k leads_reached (above from lead b.above) (ends b.below) x there
    where
      above : (o : Option ℕ) → leads o p ≡ true → IsAboveFound (found_from o p) k → IsAbove key o k
      above None e t = tt
      above (Some q) e t = let n = numbered q (found_in p) e in subst (λ (y : ℕ). y < k) (found_key_is z m content p h n.0 n.2 ∙ ap key n.3) (subst (λ (o : Option FoundEntry). IsAboveFound o k) n.1 t)

      ends : IsBelowFound (found_by m content p.room (link_word m p.room from)) k → (link_of (m.next p.room) (m.first p.room) from ≡ 0) ⊎ (k < key (link_of (m.next p.room) (m.first p.room) from - 1))
      ends t = dite (ℕ_discrete (link_word m p.room from) 0) (λ e. inl (sym (link_read m p.room from) ∙ e))
          (λ ne. inr (subst (λ (y : ℕ). k < key (y - 1)) (link_read m p.room from)
          (subst (λ (b : Bool). IsBelowFound (cond b None (Some (found_at m content p.room (link_word m p.room from - 1)))) k) (ne_eqb (link_word m p.room from) 0 ne) t)))

  -- so it has no entry, and its cover has the base that the pin found
  pub between_word : (is_key_word : ℕ → ℕ) (hs : List RoomHolds) → CoversPartition z m content is_key_word hs → (k : ℕ) → LiesBetween p (found_from from p) (found_by m content p.room (link_word m p.room from)) k → (word_of z m content hs k ≡ 0) × (base_of z m content hs k ≡ p.base)
  between_word is_key_word hs parts k b = let inside = ap (λ (s : Span). within s k) (span_same z m content p h) ∙ b.inside in (
    no_word z m content hs k (count_of_room z m content hs is_key_word parts p.room k h.inside h.cover inside ∙ (room_total m content p.room (has_key k) ∙ none_there m content p.room k (linked m p.room) (between_none k b))),
    base_of_room z m content hs is_key_word parts p.room k h.inside h.cover inside ∙ h.base,
  )

  -- the pin with what it names
  pub walked_holds : RoomPinHolds z m content (pin_walked m content (link_word m p.room from) p)
  walked_holds = record { inside = h.inside; cover = h.cover; base = h.base; low = h.low; high = h.high; counted = h.counted; prefix = h.prefix; entries = h.entries; walked = more }
    where
      more : Each (EntryStands (linked m p.room) (m.key p.room) content) (found_more (found_by m content p.room (link_word m p.room from)) p.walked)
      more = decided (link_word m p.room from) 0 (λ b. Each (EntryStands (linked m p.room) (m.key p.room) content) (found_more (cond b None (Some (found_at m content p.room (link_word m p.room from - 1)))) p.walked))
          (λ e. h.walked) (λ ne. (named_stands (link_word m p.room from - 1) (omega arith), h.walked))

module _ (z : Sizes) (m : RoomMemory) (content : ℕ → List ℕ) (hs : List RoomHolds) (rule : RoomsStand z m content hs) (seat : ℕ) (a : RoomHolds) (here : get_elem? hs seat ≡ some a)
    (p : PinnedRoom) (is : a.pin ≡ Some p) (good : IsGoodRoom p) (from : Option ℕ) (lead : leads from p ≡ true) where
  abbrev p' : PinnedRoom
  p' = pin_walked m content (link_word m p.room from) p

  pin_holds : RoomPinHolds z m content p
  pin_holds = subst (OnRoomPin (λ q. IsGoodRoom q → RoomPinHolds z m content q)) is (rule.good seat a here) good

  pub link_load_rooms : RoomsStand z m content (set hs seat (record a { pin = Some (pin_walked m content (link_word m p.room from) p) }))
  link_load_rooms = rooms_stepped z m m content hs seat a (record a { pin = Some p' }) here (record {
    pins = λ j. let e = ap (pins_of j) is in omega arith;
    held = λ j s x. refl;
    states = rule.states;
    generations = λ j. refl;
    latches = rule.latches;
    ordered = rule.ordered;
    either = λ j i n w e. let q = rule.either j i w in omega arith;
    keyed = λ j i n w l e. let q = rule.keyed j i w l in omega arith;
    claims = λ j u c ne at e h. h;
    own_claim = rule.claimed seat a here;
    others = λ j u q ne at x h. h;
    own = λ _. walked_holds z m content p pin_holds (rule.ordered p.room pin_holds.cover) from lead;
    carried = rule.carried seat a here;
    stands = record { claim = claim_on p p' a.claim refl refl (subst (λ o. ClaimIsPinned o a.claim) is (rule.passes seat a here).claim); whole = (rule.passes seat a here).whole };
  }) rule

  pub link_load_covers : (F : Cover → ℕ) → all_of z m content (set hs seat (record a { pin = Some (pin_walked m content (link_word m p.room from) p) })) F ≡ all_of z m content hs F
  link_load_covers F = all_still z m m content content hs seat a (record a { pin = Some p' }) here refl F (λ j _. refl)
