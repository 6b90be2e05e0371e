-- The link to a claimed entry: what it asks, by what was found under the pin, and what it leaves.
use Rattle.std.proofs.Common.{◌≡◌, ◌≢◌, ℕ, ◌-◌, ◌<◌, List, ◌∷◌, map, sym, refl, ap, ◌∙◌, subst, arith, inl, inr, ⊎_elim, Option, Some, None}
use mathlib.Core.Logic.{dite}
use native.Mathlib.Decide.{ℕ_discrete}
use Rattle.oak_model.specs.Counts.{Has}
use Rattle.oak_model.specs.Key.{AreBytes, IsKeyBefore}
use Rattle.oak_model.specs.KeyNumber.{key_number}
use Rattle.oak_model.specs.Limits.{Sizes}
use Rattle.oak_model.proofs.Lists.{at_map}
use Rattle.oak_model.proofs.MemberLaws.{each_has}
use Rattle.oak_model.proofs.NumberLaws.{key_number_rises}
use Rattle.arena_core.specs.Place.{content}
use Rattle.chunk_core.specs.declared.holds.Claim.{Claim}
use Rattle.chunk_core.specs.declared.holds.FoundEntry.{FoundEntry}
use Rattle.chunk_core.specs.declared.holds.PinnedRoom.{PinnedRoom}
use Rattle.chunk_core.specs.declared.holds.RoomHolds.{RoomHolds}
use Rattle.chunk_core.specs.KeyWords.{key_bytes, key_in, key_length}
use Rattle.chunk_core.specs.LinkWords.{link_spot}
use Rattle.chunk_core.specs.MayOnRooms.{ComesFrom, GoesTo}
use Rattle.chunk_core.specs.PinnedRooms.{found_in, found_key, span_of}
use Rattle.chunk_core.specs.RoomReads.{found_at}
use Rattle.chunk_core.specs.RoomRule.{ClaimStands}
use Rattle.chunk_core.specs.RoomStep.{link_entry}
use Rattle.chunk_core.specs.Rooms.{IsInRooms}
use Rattle.chunk_core.specs.RoomsAfter.{linked_pin}
use Rattle.chunk_core.specs.Spans.{within}
use Rattle.chunk_core.proofs.Claims.{claim_stands}
use Rattle.link_search.specs.Linked.{IsAboveFrom, IsBelowTo, IsFound, Later}
use Rattle.oak_core.specs.declared.states.PassState.{PassState}
use Rattle.oak_core.specs.EntryOwners.{is_key_word}
use Rattle.oak_core.specs.Memory.{Memory, memory}
use Rattle.oak_core.specs.PassState.{rooms_held}
use Rattle.oak_core.specs.RoomCalls.{LinksEntry}
use Rattle.oak_core.specs.Step.{MayOnRooms, on_rooms}
use Rattle.oak_core.proofs.covers.ClaimedEntries.{claimed_key}
use Rattle.oak_core.proofs.known.PinsKnown.{has_first, has_later}
use Rattle.chunk_ops.specs.LinkedTable.{ClaimsIn, PointsIn}
use Rattle.chunk_ops.specs.PinRecords.{HasRoomPin, IsFoundWell, PinStays, RoomPinned, pin_or, room_pin}
use Rattle.chunk_ops.specs.RoomLoads.{key_found, linked_in}
use Rattle.chunk_ops.proofs.ClaimSteps.{link_lost, link_made}
use Rattle.chunk_ops.proofs.EntryKeys.{key_in-is}
use Rattle.chunk_ops.specs.FoundNumbers.{FoundNumbered, entry_is, found_numbered, has_counted}
use Rattle.chunk_ops.proofs.FoundViews.{view_later}
use Rattle.chunk_ops.proofs.KeyClaims.{key_named, some_place, view_same}
use Rattle.chunk_ops.proofs.Members.{has_parts}
use Rattle.chunk_ops.proofs.PinnedMoments.{step_pinned}
use Rattle.chunk_ops.proofs.WordParts.{part_small}

-- a pass has claimed one entry
pub one_claim : (a : RoomHolds) (c d : Claim) → a.claim ≡ Some c → a.claim ≡ Some d → c ≡ d
one_claim a c d e f = let g : Some c ≡ Some d = sym e ∙ f in cc

-- ---- what a link leaves that was made

module _ (z : Sizes) (call r : ℕ) (from : Option ℕ) (i old : ℕ) (v : PassState) (n : ℕ) (w : PassState) (p : HasRoomPin z r v) (t : LinksEntry z call r from i old v n w) (same : n ≡ old) where
  abbrev m : Memory
  m = memory z t.table.words

  abbrev bytes : ℕ → List ℕ
  bytes = content m.arena.bytes

  abbrev new : FoundEntry
  new = found_at m.rooms bytes r i

  abbrev q' : PinnedRoom
  q' = record (room_pin v) { walked = new ∷ (room_pin v).walked }

  pub link_rooms : w.rooms ≡ record v.rooms { claim = None; pin = Some (record (room_pin v) { walked = found_at (memory z t.table.words).rooms (content (memory z t.table.words).arena.bytes) r i ∷ (room_pin v).walked }) }
  link_rooms = link_made z call r from i old v n w t same ∙ ap (λ (o : Option PinnedRoom). record v.rooms { claim = None; pin = linked_pin m.rooms bytes r i o }) p.pin.is

  pin_now : room_pin w ≡ q'
  pin_now = ap (λ (a : RoomHolds). pin_or a.pin) link_rooms

  pub link_pin : w.rooms.pin ≡ Some (room_pin w)
  link_pin = ap (λ (a : RoomHolds). a.pin) link_rooms ∙ ap (λ (x : PinnedRoom). Some x) (sym pin_now)

  pub link_frees : w.rooms.claim ≡ None
  link_frees = ap (λ (a : RoomHolds). a.claim) link_rooms

  pub link_stays : PinStays (room_pin v) (room_pin w)
  link_stays = subst (PinStays (room_pin v)) (sym pin_now) (record {
    room = refl;
    found = refl;
    base = refl;
    low = refl;
    high = refl;
    entries = λ e has. ⊎_elim (λ (l : Has e (room_pin v).entries). has_first (room_pin v).entries (new ∷ (room_pin v).walked) e l) (λ (l : Has e (room_pin v).walked). has_later (room_pin v).entries (new ∷ (room_pin v).walked) e (inr l)) (has_parts (room_pin v).entries (room_pin v).walked e has);
  })

  pub link_pinned : HasRoomPin z r w
  link_pinned = step_pinned z call r (on_rooms (link_entry r from i old)) v n w t p link_pin link_stays

  pub link_later : Later (linked_in (room_pin v)) (linked_in (room_pin w))
  link_later = view_later (room_pin v) (room_pin w) link_stays link_pinned.alike (ap (λ (x : PinnedRoom). x.count) pin_now)

  has_new : Has new (found_in (room_pin w))
  has_new = subst (λ (x : PinnedRoom). Has new (found_in x)) (sym pin_now) (has_later (room_pin v).entries (new ∷ (room_pin v).walked) new (inl refl))

  -- the entry is found
  pub link_found : IsFound (linked_in (room_pin w)) i
  link_found = has_counted i (found_in (room_pin w)) new has_new refl

  -- and has its key
  module _ (base place : ℕ) (k : List ℕ) (h : ClaimsIn z r i base place k v.rooms) where
    word_there : m.rooms.key r i ≡ place
    word_there = (λ j. m.rooms.key (sym h.has.room j) (sym h.has.number j)) ∙ (claimed_key z t.table t.rule t.seat v.rooms h.claim (at_map rooms_held t.table.states t.seat v t.here) h.has.is ∙ h.word)

    stands : ClaimStands m.rooms bytes h.claim
    stands = claim_stands z m.rooms bytes (map rooms_held t.table.states) t.rule.rooms t.seat v.rooms h.claim (at_map rooms_held t.table.states t.seat v t.here) h.has.is

    words_there : bytes (m.rooms.key r i) ≡ h.claim.words
    words_there = ap bytes (word_there ∙ sym h.word) ∙ stands.words (let s = some_place z place k h.names in let e = h.word in omega arith)

    pub link_key : (linked_in (room_pin w)).key i ≡ k
    link_key = ap key_found (entry_is i (found_in (room_pin w)) new link_pinned.alike has_new refl) ∙ ((λ j. key_bytes (word_there j) (words_there j)) ∙ h.key)

-- ---- whether it was made or not

module _ (z : Sizes) (call r : ℕ) (from : Option ℕ) (i old : ℕ) (v : PassState) (n : ℕ) (w : PassState) (p : HasRoomPin z r v) (t : LinksEntry z call r from i old v n w) where
  pub tried_pinned : HasRoomPin z r w
  tried_pinned = dite (ℕ_discrete n old) (link_pinned z call r from i old v n w p t) (λ ne. subst (RoomPinned z r) (sym (link_lost z call r from i old v n w t ne)) p)

  pub tried_later : Later (linked_in (room_pin v)) (linked_in (room_pin w))
  tried_later = dite (ℕ_discrete n old) (link_later z call r from i old v n w p t) (λ ne. view_same (room_pin v) (room_pin w) (ap (λ (a : RoomHolds). pin_or a.pin) (link_lost z call r from i old v n w t ne)))

  -- where it was not, the claim stands
  pub claims_lost : (base place : ℕ) (k : List ℕ) → n ≢ old → ClaimsIn z r i base place k v.rooms → ClaimsIn z r i base place k w.rooms
  claims_lost base place k ne h = subst (ClaimsIn z r i base place k) (sym (link_lost z call r from i old v n w t ne)) h

-- ---- what it asks

module _ (z : Sizes) (r i base place : ℕ) (k : List ℕ) (v : PassState) (p : HasRoomPin z r v) (h : ClaimsIn z r i base place k v.rooms) where
  abbrev q : PinnedRoom
  q = room_pin v

  abbrev key : ℕ
  key = key_in h.claim.entry.word h.claim.words

  small_key : AreBytes k
  small_key = subst AreBytes h.key (part_small (key_length place) h.claim.words)

  key_is : key_in h.claim.entry.word h.claim.words ≡ key_number k
  key_is = ap (λ (y : ℕ). key_in y h.claim.words) h.word ∙ key_in-is place h.claim.words k h.key

  -- an entry that was found
  module _ (j : ℕ) (found : IsFound (linked_in (room_pin v)) j) where
    abbrev there : FoundNumbered j (found_in q)
    there = found_numbered j (found_in q) found

    well : IsFoundWell z there.entry
    well = each_has (IsFoundWell z) (found_in q) there.entry p.found there.has

    small_there : AreBytes (key_bytes there.entry.word there.entry.words)
    small_there = part_small (key_length there.entry.word) there.entry.words

    pub found_few : j < z.entries
    found_few = let w = well.number in let n = there.number in omega arith

    below : IsKeyBefore ((linked_in (room_pin v)).key j) k → found_key there.entry < key
    below b = subst (λ (t : ℕ × ℕ). t.0 < t.1) (λ n. (sym well.same n, sym key_is n))
        (key_number_rises (key_bytes there.entry.word there.entry.words) k small_there small_key h.names.is_key (subst (λ (o : Option FoundEntry). IsKeyBefore (key_found o) k) there.is b))

    above : IsKeyBefore k ((linked_in (room_pin v)).key j) → key < found_key there.entry
    above b = subst (λ (t : ℕ × ℕ). t.0 < t.1) (λ n. (sym key_is n, sym well.same n))
        (key_number_rises k (key_bytes there.entry.word there.entry.words) small_key small_there well.key (subst (λ (o : Option FoundEntry). IsKeyBefore k (key_found o)) there.is b))

  behind : (from : Option ℕ) → IsAboveFrom (linked_in (room_pin v)) from k → ComesFrom from key q
  behind None a = tt
  behind (Some j) a = ((there j a.0).entry, (there j a.0).has, (there j a.0).number, below j a.0 a.1)

  before : (old : ℕ) → IsBelowTo (linked_in (room_pin v)) old k → GoesTo old key q
  before old b = dite (ℕ_discrete old 0) (λ e. inl e) (λ ne. let a = b ne in let f = there (old - 1) a.0 in inr (f.entry, f.has, (let n = f.number in omega arith), above (old - 1) a.0 a.1))

  pub above_inside : (from : Option ℕ) → IsAboveFrom (linked_in (room_pin v)) from k → IsInRooms z (link_spot r from)
  above_inside None a = (p.inside, omega arith)
  above_inside (Some j) a = (p.inside, found_few j a.0)

  pub may_link : (call : ℕ) (from : Option ℕ) (old : ℕ) → PointsIn old v.rooms → IsAboveFrom (linked_in (room_pin v)) from k → IsBelowTo (linked_in (room_pin v)) old k → MayOnRooms z call (link_entry r from i old) v
  may_link call from old l a b = record {
    inside = above_inside from a;
    rooms = record {
      pinned = q;
      claim = h.claim;
      has = h.has;
      is_key = ap is_key_word h.word ∙ key_named z place k h.names;
      some_key = let s = some_place z place k h.names in let e = h.word in omega arith;
      floor = h.value ∙ h.base;
      goes_on = ap (λ (c : Claim). c.entry.next) (one_claim v.rooms h.claim l.claim h.has.is l.is) ∙ l.link;
      inside = ap (within (span_of q)) key_is ∙ h.covers;
      behind = behind from a;
      before = before old b;
    };
  }
