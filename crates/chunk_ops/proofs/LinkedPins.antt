-- What the load of a link of a pinned room leaves, where the link leads on from what was found: the pin has found what it names, whose key is greater, and no key lies between that was found or of the range not absent.
use Rattle.std.proofs.Common.{◌≡◌, ◌≢◌, ℕ, suc, ◌+◌, ◌-◌, ◌^◌, ◌<◌, ◌≤◌, cond, Bool, true, List, ◌∷◌, ◌++◌, sym, refl, ap, ◌∙◌, subst, inl, inr, arith, Option, Some, None, MatchOption, ne_eqb}
use mathlib.Core.Logic.{dite}
use native.Mathlib.Decide.{ℕ_discrete}
use Rattle.oak_model.specs.Counts.{Has}
use Rattle.oak_model.specs.Key.{IsKeyBefore}
use Rattle.oak_model.specs.KeyNumber.{key_number}
use Rattle.oak_model.specs.Limits.{Sizes}
use Rattle.oak_model.proofs.Counting.{decided}
use Rattle.arena_core.specs.Place.{content}
use Rattle.chunk_core.specs.declared.holds.FoundEntry.{FoundEntry}
use Rattle.chunk_core.specs.declared.holds.PinnedRoom.{PinnedRoom}
use Rattle.chunk_core.specs.declared.holds.RoomHolds.{RoomHolds}
use Rattle.chunk_core.specs.Covers.{key_at}
use Rattle.chunk_core.specs.FoundLinks.{IsAboveFound, IsBelowFound, LiesBetween, found_by, found_from, leads}
use Rattle.chunk_core.specs.LinkWords.{link_spot, link_word}
use Rattle.chunk_core.specs.LinkedEntries.{entries_in, farthest, linked}
use Rattle.chunk_core.specs.PinnedRooms.{RoomPinHolds, found_in, found_key, span_of}
use Rattle.chunk_core.specs.RoomReads.{found_at, found_more}
use Rattle.chunk_core.specs.RoomRule.{IsInOrder}
use Rattle.chunk_core.specs.Rooms.{IsInRooms}
use Rattle.chunk_core.specs.RoomsAfter.{pin_walked}
use Rattle.chunk_core.specs.Spans.{within}
use Rattle.chunk_core.proofs.ChainLinks.{IsAbove, link_of, reached_least}
use Rattle.chunk_core.proofs.EntryNumbers.{few_entries}
use Rattle.chunk_core.proofs.LinkLoads.{leads_reached, link_read, numbered, walked_holds}
use Rattle.chunk_core.proofs.RoomLinks.{found_key_is, found_stands, links_end}
use Rattle.link_search.specs.Linked.{IsAboveFrom, IsFound, SkipsNone}
use Rattle.oak_core.specs.declared.states.PassState.{PassState}
use Rattle.oak_core.specs.Memory.{Memory, in_rooms, memory}
use Rattle.oak_core.specs.Step.{load, Told}
use Rattle.oak_core.proofs.known.PinsKnown.{has_later}
use Rattle.oak_core.proofs.told.LinkTold.{link_found, link_learns, link_told_absent, link_told_ends, pin_walks}
use Rattle.chunk_ops.specs.Finds.{FoundAbsent}
use Rattle.chunk_ops.specs.PinRecords.{HasRoomPin, IsFoundWell, PinStays, UnderPin, pin_or, room_pin, with_room_pin}
use Rattle.chunk_ops.specs.RoomLoads.{linked_in}
use Rattle.chunk_ops.specs.FoundNumbers.{counted_some, found_numbered, has_counted, there, well_there}
use Rattle.chunk_ops.proofs.FoundViews.{before_found, found_before, keys_before, view_key}
use Rattle.chunk_ops.proofs.FoundWell.{entry_well, found_alike}
use Rattle.chunk_ops.proofs.LinkOrder.{next_above}
use Rattle.chunk_ops.proofs.PinnedMoments.{step_pinned}
use Rattle.chunk_ops.proofs.PinsGrow as grown
use Rattle.chunk_ops.proofs.WordLoads.{pin_holds}

-- the number above the key of an entry that was found, or that of none
abbrev pub IsAboveAt : PinnedRoom → Option ℕ → ℕ → Type 0
IsAboveAt p None k = Unit {0}
IsAboveAt p (Some i) k = key_number ((linked_in p).key i) < k

-- the number below the key of the entry that the link names, or it names none
abbrev pub IsBelowAt : PinnedRoom → ℕ → ℕ → Type 0
IsBelowAt p link k = link ≢ 0 → k < key_number ((linked_in p).key (link - 1))

-- the words of the table stood so at the load
pub record LinksNow (z : Sizes) (call r : ℕ) (from : Option ℕ) (n : ℕ) (words : List ℕ) (v w : PassState) : Type 0 where
  pub link : link_word (memory z words).rooms r from ≡ n
  pub under : UnderPin z call r v w
  pub count : (room_pin w).count ≡ (room_pin v).count
  pub named : n ≢ 0 → IsFound (linked_in (room_pin w)) (n - 1)
  pub above : n ≢ 0 → IsAboveFrom (linked_in (room_pin w)) from ((linked_in (room_pin w)).key (n - 1))
  pub none : SkipsNone (linked_in (room_pin w)) from n
  pub absent : (k : ℕ) → within (span_of (room_pin v)) k ≡ 1 → IsAboveAt (room_pin w) from k → IsBelowAt (room_pin w) n k → FoundAbsent call k (room_pin v).base v w

module _ (z : Sizes) (call : ℕ) (v : PassState) (n : ℕ) (w : PassState) (p : HasRoomPin z (room_pin v).room v) (from : Option ℕ) (lead : leads from (room_pin v) ≡ true) (t : Told z call (load (in_rooms (link_spot (room_pin v).room from))) v n w) where
  abbrev m : Memory
  m = memory z t.table.words

  abbrev q : PinnedRoom
  q = room_pin v

  abbrev bytes : ℕ → List ℕ
  bytes = content m.arena.bytes

  -- the pin behind the load
  abbrev q' : PinnedRoom
  q' = pin_walked m.rooms bytes n q

  abbrev key : ℕ → ℕ
  key i = key_at bytes (m.rooms.key q.room i)

  held : RoomPinHolds z m.rooms bytes q
  held = pin_holds z call q.room (load (in_rooms (link_spot q.room from))) v n w p t

  rooms_are : w.rooms ≡ record v.rooms { pin = Some q' }
  rooms_are = pin_walks z call v n w q p.pin.is p.pin.good from lead t

  pin_is : room_pin w ≡ q'
  pin_is = ap (λ (a : RoomHolds). pin_or a.pin) rooms_are

  link_is : link_word m.rooms q.room from ≡ n
  link_is = link_found z call v n w q p.pin.is p.pin.good from lead t

  names : link_of (m.rooms.next q.room) (m.rooms.first q.room) from ≡ n
  names = sym (link_read m.rooms q.room from) ∙ link_is

  order : IsInOrder z bytes (m.rooms.count q.room) (m.rooms.key q.room) (m.rooms.value q.room) (linked m.rooms q.room) (m.rooms.low q.room 0) (m.rooms.high q.room 0)
  order = t.rule.rooms.ordered q.room held.cover

  holds : RoomPinHolds z m.rooms bytes q'
  holds = subst (λ (l : ℕ). RoomPinHolds z m.rooms bytes (pin_walked m.rooms bytes l q)) link_is (walked_holds z m.rooms bytes q held order from lead)

  -- ---- what was found

  stays : PinStays q q'
  stays = grown.pin_walks m.rooms bytes n q

  under : UnderPin z call q.room v w
  under = record {
    learns = link_learns z call v n w q p.pin.is p.pin.good from lead t;
    blocks = ap (λ (y : PassState). y.blocks) t.after;
    headers = ap (λ (y : PassState). y.headers) t.after;
    pin = record {
      has = step_pinned z call q.room (load (in_rooms (link_spot q.room from))) v n w t p (ap (λ (a : RoomHolds). a.pin) rooms_are ∙ ap (λ (x : PinnedRoom). Some x) (sym pin_is)) (subst (PinStays q) (sym pin_is) stays);
      stays = subst (PinStays q) (sym pin_is) stays;
      rooms = rooms_are ∙ ap (λ (x : PinnedRoom). with_room_pin (Some x) v.rooms) (sym pin_is);
    };
  }

  alike : (e f : FoundEntry) → Has e (found_in q') → Has f (found_in q') → e.number ≡ f.number → e ≡ f
  alike = found_alike z t.table t.rule q' holds

  well : (e : FoundEntry) → Has e (found_in q') → IsFoundWell z e
  well = entry_well z t.table t.rule q' holds

  -- an entry that was found, with its key in the table
  key_of : (i : ℕ) (e : FoundEntry) → Has e (found_in q') → e.number ≡ i → found_key e ≡ key i
  key_of i e has is = found_key_is z m.rooms bytes q' holds e has ∙ ap key is

  number_of : (i : ℕ) (e : FoundEntry) → Has e (found_in q') → e.number ≡ i → key_number ((linked_in q').key i) ≡ found_key e
  number_of i e has is = ap key_number (view_key q' alike i e has is) ∙ sym (well e has).same

  before_is : (i j : ℕ) → IsFound (linked_in q') i → IsFound (linked_in q') j → IsKeyBefore ((linked_in q').key i) ((linked_in q').key j) → key i < key j
  before_is i j fi fj l = let a = found_numbered i (found_in q') fi in let b = found_numbered j (found_in q') fj in
      let less = before_found z a.entry b.entry (well a.entry a.has) (well b.entry b.has) (keys_before _ _ _ _ (view_key q' alike i a.entry a.has a.number) (view_key q' alike j b.entry b.has b.number) l) in
      let ka = key_of i a.entry a.has a.number in let kb = key_of j b.entry b.has b.number in omega arith

  -- ---- what the link names

  abbrev named : FoundEntry
  named = found_at m.rooms bytes q.room (n - 1)

  has_named : n ≢ 0 → Has named (found_in q')
  has_named ne = subst (λ (b : Bool). Has named (q.entries ++ found_more (cond b None (Some named)) q.walked)) (sym (ne_eqb n 0 ne)) (has_later q.entries (named ∷ q.walked) named (inl refl))

  above_here : n ≢ 0 → IsAboveFrom (linked_in q') from ((linked_in q').key (n - 1))
  above_here ne = go from lead names
    where
      go : (o : Option ℕ) → leads o q ≡ true → link_of (m.rooms.next q.room) (m.rooms.first q.room) o ≡ n → IsAboveFrom (linked_in q') o ((linked_in q').key (n - 1))
      go None l e = tt
      go (Some i) l e = let f = numbered i (found_in q) l in let has = stays.entries f.0 f.2 in let s = found_stands z m.rooms bytes q held f.0 f.2 in (
        has_counted i (found_in q') f.0 has f.3,
        keys_before _ _ _ _ (sym (view_key q' alike i f.0 has f.3)) (sym (view_key q' alike (n - 1) named (has_named ne) refl)) (found_before z f.0 named (well f.0 has) (well named (has_named ne))
            (let a = key_of i f.0 has f.3 in
            let b = next_above key farthest (m.rooms.next q.room) f.0.number (n - 1) (m.rooms.first q.room) order.rises (ap (m.rooms.next q.room) f.3 ∙ (e ∙ (let u : n ≡ n - 1 + 1 = omega arith in u))) (let k = s.linked in omega arith) (links_end z m.rooms bytes q.room order) in
            subst (λ (x : ℕ). x < key (n - 1)) (sym a) (subst (λ (x : ℕ). x < key (n - 1)) (ap key f.3) b))),
      )

  none_here : SkipsNone (linked_in q') from n
  none_here j there a b = let f = found_numbered j (found_in q') there in let s = found_stands z m.rooms bytes q' holds f.entry f.has in
      let least = reached_least (entries_in (m.rooms.count q.room)) (few_entries (m.rooms.count q.room)) key (m.rooms.next q.room) (m.rooms.first q.room) order.used order.rises from (suc (key j)) (leads_reached z m.rooms bytes q held order from lead)
      (dite (ℕ_discrete n 0) (λ e. inl (names ∙ e)) (λ ne. inr (subst (λ (l : ℕ). suc (key j) ≤ key (l - 1)) (sym names) (let k = before_is j (n - 1) there (b ne).0 (b ne).1 in omega arith))))
      f.entry.number (let k = s.linked in omega arith) (go from a) in
      let same = ap key f.number in absurd (omega arith)
    where
      go : (o : Option ℕ) → IsAboveFrom (linked_in q') o ((linked_in q').key j) → IsAbove key o (key (found_numbered j (found_in q') there).entry.number)
      go None h = tt
      go (Some i) h = subst (λ (k : ℕ). key i < key k) (sym (found_numbered j (found_in q') there).number) (before_is i j h.0 there h.1)

  -- ---- a key between

  module _ (k : ℕ) (inside : within (span_of q) k ≡ 1) (over : IsAboveAt q' from k) (below : IsBelowAt q' n k) where
    lies : LiesBetween q (found_from from q) (found_by m.rooms bytes q.room (link_word m.rooms q.room from)) k
    lies = record {
      good = p.pin.good;
      inside = inside;
      above = go from lead over;
      below = subst (λ (l : ℕ). IsBelowFound (found_by m.rooms bytes q.room l) k) (sym link_is)
          (decided n 0 (λ (b : Bool). IsBelowFound (cond b None (Some named)) k) (λ _. tt) (λ ne. subst (λ (x : ℕ). k < x) (number_of (n - 1) named (has_named ne) refl) (below ne)));
    }
      where
        go : (o : Option ℕ) → leads o q ≡ true → IsAboveAt q' o k → IsAboveFound (found_from o q) k
        go None l h = tt
        go (Some i) l h = let f = numbered i (found_in q) l in subst (λ (x : Option FoundEntry). IsAboveFound x k) (sym f.1) (subst (λ (x : ℕ). x < k) (number_of i f.0 (stays.entries f.0 f.2) f.3) h)

    absent_here : FoundAbsent call k q.base v w
    absent_here = record {
      absent = link_told_absent z call v n w q p.pin.is p.pin.good from lead t k lies;
      ends = link_told_ends z call v n w q p.pin.is p.pin.good from lead t k lies;
    }

  pub linked_here : LinksNow z call (room_pin v).room from n t.table.words v w
  linked_here = record {
    link = link_is;
    under = under;
    count = ap (λ (x : PinnedRoom). x.count) pin_is;
    named = λ ne. subst (λ (x : PinnedRoom). IsFound (linked_in x) (n - 1)) (sym pin_is) (has_counted (n - 1) (found_in q') named (has_named ne) refl);
    above = λ ne. subst (λ (x : PinnedRoom). IsAboveFrom (linked_in x) from ((linked_in x).key (n - 1))) (sym pin_is) (above_here ne);
    none = subst (λ (x : PinnedRoom). SkipsNone (linked_in x) from n) (sym pin_is) none_here;
    absent = λ k inside over below. absent_here k inside (subst (λ (x : PinnedRoom). IsAboveAt x from k) pin_is over) (subst (λ (x : PinnedRoom). IsBelowAt x n k) pin_is below);
  }

-- of the room that is pinned
pub links_now : (z : Sizes) (call r : ℕ) (v : PassState) (n : ℕ) (w : PassState) → HasRoomPin z r v → (from : Option ℕ) → leads from (room_pin v) ≡ true → (t : Told z call (load (in_rooms (link_spot r from))) v n w) → LinksNow z call r from n t.table.words v w
links_now z call r v n w p from lead = subst (λ (k : ℕ). HasRoomPin z k v → (t : Told z call (load (in_rooms (link_spot k from))) v n w) → LinksNow z call k from n t.table.words v w) p.pin.room (λ h. linked_here z call v n w h from lead) p

-- a link that a search may follow

pub leads_found : (p : PinnedRoom) (from : Option ℕ) → MatchOption from (Unit {0}) (λ i. IsFound (linked_in p) i) → leads from p ≡ true
leads_found p None h = refl
leads_found p (Some i) h = counted_some i (found_in p) h

pub link_inside : (z : Sizes) (r : ℕ) (from : Option ℕ) (v : PassState) → HasRoomPin z r v → MatchOption from (Unit {0}) (λ i. IsFound (linked_in (room_pin v)) i) → IsInRooms z (link_spot r from)
link_inside z r None v p h = (p.inside, omega arith)
link_inside z r (Some i) v p h = let w = well_there z r v p i h in let f = there z r v p i h in let a = w.number in let b = f.number in (p.inside, omega arith)

-- it names none, or an entry of the room
pub link_small : (z : Sizes) (r n : ℕ) (v : PassState) → HasRoomPin z r v → (n ≢ 0 → IsFound (linked_in (room_pin v)) (n - 1)) → n < 2 ^ 32
link_small z r n v p named = dite (ℕ_discrete n 0) (λ e. omega arith) (λ ne. let w = well_there z r v p (n - 1) (named ne) in let f = there z r v p (n - 1) (named ne) in let a = w.number in let b = f.number in let few = p.few in omega arith)
