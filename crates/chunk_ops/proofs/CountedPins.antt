-- What the load of the count of a pinned room leaves: the pin has found the entries of the prefix, which rise, and all that it found are below the count.
use Rattle.std.proofs.Common.{◌≡◌, ℕ, suc, ◌+◌, ◌<◌, ◌≤◌, List, [], ◌∷◌, ◌++◌, length, sym, refl, ap, ◌∙◌, subst, arith, Option, Some, None}
use mathlib.Core.Option.{some}
use lib.ListN.{get_elem?}
use Rattle.oak_model.specs.Counts.{Has, one_at, rows, total}
use Rattle.oak_model.specs.Limits.{Sizes}
use Rattle.arena_core.specs.Place.{content}
use Rattle.chunk_core.specs.declared.holds.FoundEntry.{FoundEntry}
use Rattle.chunk_core.specs.declared.holds.PinnedRoom.{PinnedRoom}
use Rattle.chunk_core.specs.declared.holds.RoomHolds.{RoomHolds}
use Rattle.chunk_core.specs.FoundLinks.{entry_numbered}
use Rattle.chunk_core.specs.LinkedEntries.{entries_in, linked, prefix_in}
use Rattle.chunk_core.specs.PinnedRooms.{AreCounted, EntryStands, IsPrefixStill, RoomPinHolds, found_in}
use Rattle.chunk_core.specs.RoomReads.{found_at}
use Rattle.chunk_core.specs.RoomRule.{IsInOrder}
use Rattle.chunk_core.specs.Rooms.{at_count}
use Rattle.chunk_core.specs.RoomsAfter.{pin_with}
use Rattle.chunk_core.proofs.CountLoads.{found_holds, rows_has}
use Rattle.chunk_core.proofs.RoomLinks.{found_place, found_stands, linked_below}
use Rattle.link_search.specs.Linked.{IsCounted, IsFound, IsFront}
use Rattle.oak_core.specs.declared.states.PassState.{PassState}
use Rattle.oak_core.specs.Memory.{Memory, in_rooms, memory}
use Rattle.oak_core.specs.Step.{load, Told}
use Rattle.oak_core.proofs.known.PinsKnown.{has_first}
use Rattle.oak_core.proofs.memory.MetLists.{each_at}
use Rattle.oak_core.proofs.told.CountTold.{count_found, count_learns, pin_counted}
use Rattle.chunk_ops.specs.PinRecords.{HasRoomPin, PinStays, UnderPin, pin_or, room_pin, with_room_pin}
use Rattle.chunk_ops.specs.RoomLoads.{counts_told, key_found, linked_in, prefix_told}
use Rattle.chunk_ops.specs.FoundNumbers.{found_numbered, has_counted}
use Rattle.chunk_ops.proofs.FoundViews.{found_before, keys_before, view_key}
use Rattle.chunk_ops.proofs.FoundWell.{entry_well, found_alike}
use Rattle.chunk_ops.proofs.PinnedMoments.{step_pinned}
use Rattle.chunk_ops.proofs.PinsGrow.{pin_grows}
use Rattle.chunk_ops.proofs.WordLoads.{pin_holds}

-- rows that are the elements of a list
rows_again : {A : Type 0} (f : ℕ → A) (i : ℕ) (xs : List A) → ((j : ℕ) (x : A) → get_elem? xs j ≡ some x → f (i + j) ≡ x) → rows i (length xs) f ≡ xs
unfolding rows
rows_again f i [] h = refl
rows_again f i (x ∷ xs) h = let a : f i ≡ x = ap f (let e : i ≡ i + 0 = omega arith in e) ∙ h 0 x refl in
    let t = rows_again f (suc i) xs (λ j y at. ap f (let e : suc i + j ≡ i + suc j = omega arith in e) ∙ h (suc j) y at) in λ k. a k ∷ t k

-- the words of the table stood so at the load
pub record CountsNow (z : Sizes) (call r n : ℕ) (words : List ℕ) (v w : PassState) : Type 0 where
  pub count : (memory z words).rooms.count r ≡ n
  pub under : UnderPin z call r v w
  pub number : (room_pin w).count ≡ Some n
  -- where it was loaded before, nothing more is found
  pub same : (c : ℕ) → (room_pin v).count ≡ Some c → linked_in (room_pin w) ≡ linked_in (room_pin v)
  pub front : IsFront (linked_in (room_pin w))
  pub within : (i : ℕ) → IsFound (linked_in (room_pin w)) i → i < entries_in n
  pub few : entries_in n ≤ z.entries
  pub prefix : prefix_in n ≤ entries_in n

module _ (z : Sizes) (call : ℕ) (v : PassState) (n : ℕ) (w : PassState) (p : HasRoomPin z (room_pin v).room v) (t : Told z call (load (in_rooms (at_count (room_pin v).room))) v n w) where
  abbrev m : Memory
  m = memory z t.table.words

  abbrev q : PinnedRoom
  q = room_pin v

  abbrev bytes : ℕ → List ℕ
  bytes = content m.arena.bytes

  -- the pin behind the load
  abbrev q' : PinnedRoom
  q' = pin_with m.rooms bytes n q

  held : RoomPinHolds z m.rooms bytes q
  held = pin_holds z call q.room (load (in_rooms (at_count q.room))) v n w p t

  rooms_are : w.rooms ≡ record v.rooms { pin = Some q' }
  rooms_are = pin_counted z call v n w q p.pin.is p.pin.good t

  pin_is : room_pin w ≡ q'
  pin_is = ap (λ (a : RoomHolds). pin_or a.pin) rooms_are

  count_is : m.rooms.count q.room ≡ n
  count_is = count_found z call v n w q p.pin.is p.pin.good t

  order : IsInOrder z bytes (m.rooms.count q.room) (m.rooms.key q.room) (m.rooms.value q.room) (linked m.rooms q.room) (m.rooms.low q.room 0) (m.rooms.high q.room 0)
  order = t.rule.rooms.ordered q.room held.cover

  holds : RoomPinHolds z m.rooms bytes q'
  holds = subst (λ (c : ℕ). RoomPinHolds z m.rooms bytes (pin_with m.rooms bytes c q)) count_is (found_holds z m.rooms bytes q held order)

  -- ---- what was found before stands

  module _ (c : ℕ) (told : q.count ≡ Some c) where
    still : prefix_in n ≡ prefix_in c
    still = ap prefix_in (sym count_is) ∙ subst (IsPrefixStill (m.rooms.count q.room)) told held.prefix

    counted : AreCounted (Some c) q.entries
    counted = subst (λ (o : Option ℕ). AreCounted o q.entries) told held.counted

    again : q'.entries ≡ q.entries
    again = ap (λ (k : ℕ). rows 0 k (found_at m.rooms bytes q.room)) (still ∙ sym counted.0) ∙ rows_again (found_at m.rooms bytes q.room) 0 q.entries
        (λ j e at. let s = each_at (EntryStands (linked m.rooms q.room) (m.rooms.key q.room) bytes) q.entries held.entries j e at in
        let number : j ≡ e.number = sym (counted.1 j e at) in let word : m.rooms.key q.room j ≡ e.word = ap (m.rooms.key q.room) number ∙ s.word in
        ap (found_at m.rooms bytes q.room) (let z0 : 0 + j ≡ j = omega arith in z0) ∙ (λ i. record { number = number i; word = word i; words = (ap bytes word ∙ s.words) i }))

    again_found : found_in q' ≡ found_in q
    again_found = ap (λ (es : List FoundEntry). es ++ q.walked) again

    same_view : linked_in q' ≡ linked_in q
    same_view = let s = still ∙ ap prefix_told (sym told) in let one : 1 ≡ counts_told q.count = ap counts_told (sym told) in
        λ i. record { counted = one i; prefix = s i; found = λ k. total (λ (e : FoundEntry). one_at e.number k) (again_found i); key = λ k. key_found (entry_numbered k (again_found i)) }

  stays : PinStays q q'
  stays = subst (λ (c : ℕ). PinStays q (pin_with m.rooms bytes c q)) count_is (pin_grows z m.rooms bytes q held)

  under : UnderPin z call q.room v w
  under = record {
    learns = count_learns z call v n w q p.pin.is p.pin.good t;
    blocks = ap (λ (y : PassState). y.blocks) t.after;
    headers = ap (λ (y : PassState). y.headers) t.after;
    pin = record {
      has = step_pinned z call q.room (load (in_rooms (at_count q.room))) v n w t p (ap (λ (a : RoomHolds). a.pin) rooms_are ∙ ap (λ (x : PinnedRoom). Some x) (sym pin_is)) (subst (PinStays q) (sym pin_is) stays);
      stays = subst (PinStays q) (sym pin_is) stays;
      rooms = rooms_are ∙ ap (λ (x : PinnedRoom). with_room_pin (Some x) v.rooms) (sym pin_is);
    };
  }

  -- ---- the prefix

  abbrev at : ℕ → FoundEntry
  at i = found_at m.rooms bytes q.room i

  alike : (e f : FoundEntry) → Has e (found_in q') → Has f (found_in q') → e.number ≡ f.number → e ≡ f
  alike = found_alike z t.table t.rule q' holds

  has_front : (i : ℕ) → i < prefix_in n → Has (at i) (found_in q')
  has_front i lt = has_first q'.entries q.walked (at i) (found_place (Some n) q'.entries i (at i) holds.counted (rows_has (found_at m.rooms bytes q.room) 0 (prefix_in n) i lt ∙ ap (λ (j : ℕ). some (found_at m.rooms bytes q.room j)) (let e : 0 + i ≡ i = omega arith in e))).0

  front_here : IsFront (linked_in q')
  front_here = record {
    found = λ i lt. has_counted i (found_in q') (at i) (has_front i lt) refl;
    rises = λ i j lt l. let hi = has_front i (omega arith) in let hj = has_front j l in
        keys_before _ _ _ _ (sym (view_key q' alike i (at i) hi refl)) (sym (view_key q' alike j (at j) hj refl)) (found_before z (at i) (at j) (entry_well z t.table t.rule q' holds (at i) hi) (entry_well z t.table t.rule q' holds (at j) hj)
        (order.sorted i j lt (subst (λ (c : ℕ). j < prefix_in c) (sym count_is) l)));
  }

  within_here : (i : ℕ) → IsFound (linked_in q') i → i < entries_in n
  within_here i l = let f = found_numbered i (found_in q') l in let s = found_stands z m.rooms bytes q' holds f.entry f.has in
      subst (λ (c : ℕ). i < entries_in c) count_is (subst (λ (k : ℕ). k < entries_in (m.rooms.count q.room)) f.number (linked_below z m.rooms bytes q.room order f.entry.number (let k = s.linked in omega arith)))

  pub counted_here : CountsNow z call (room_pin v).room n t.table.words v w
  counted_here = record {
    count = count_is;
    under = under;
    number = ap (λ (x : PinnedRoom). x.count) pin_is;
    same = λ c told. ap linked_in pin_is ∙ same_view c told;
    front = subst (λ (x : PinnedRoom). IsFront (linked_in x)) (sym pin_is) front_here;
    within = subst (λ (x : PinnedRoom). (i : ℕ) → IsFound (linked_in x) i → i < entries_in n) (sym pin_is) within_here;
    few = subst (λ (c : ℕ). entries_in c ≤ z.entries) count_is order.few;
    prefix = subst (λ (c : ℕ). prefix_in c ≤ entries_in c) count_is order.prefix;
  }

-- of the room that is pinned
pub counts_now : (z : Sizes) (call r : ℕ) (v : PassState) (n : ℕ) (w : PassState) → HasRoomPin z r v → (t : Told z call (load (in_rooms (at_count r))) v n w) → CountsNow z call r n t.table.words v w
counts_now z call r v n w p = subst (λ (k : ℕ). HasRoomPin z k v → (t : Told z call (load (in_rooms (at_count k))) v n w) → CountsNow z call k n t.table.words v w) p.pin.room (counted_here z call v n w) p

-- where it was counted before, what searches see stays
pub same_counted : (z : Sizes) (call r n : ℕ) (words : List ℕ) (v w : PassState) → CountsNow z call r n words v w → IsCounted (linked_in (room_pin v)) → linked_in (room_pin w) ≡ linked_in (room_pin v)
same_counted z call r n words v w k counted = go (room_pin v).count refl counted
  where
    go : (o : Option ℕ) → (room_pin v).count ≡ o → 0 < counts_told o → linked_in (room_pin w) ≡ linked_in (room_pin v)
    go None e l = absurd (omega arith)
    go (Some c) e l = k.same c e
