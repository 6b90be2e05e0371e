-- What the load of a link leaves of a call that goes on along the links of a pinned room.
use Rattle.std.proofs.Common.{◌≡◌, ◌≢◌, ℕ, ◌+◌, ◌-◌, ◌<◌, ◌≤◌, true, List, get_or, sym, refl, ap, ◌∙◌, subst, arith, Option, Some, None, MatchOption}
use Rattle.std.specs.Prelude.{IsSomeAnd, SomeIff}
use mathlib.Core.Logic.{dite}
use native.Mathlib.Decide.{dec_le}
use Rattle.oak_model.specs.Counts.{Has}
use Rattle.oak_model.specs.KeyNumber.{key_number}
use Rattle.oak_model.specs.Limits.{Sizes}
use Rattle.oak_model.proofs.MemberLaws.{each_has}
use Rattle.chunk_core.specs.declared.holds.FoundEntry.{FoundEntry}
use Rattle.chunk_core.specs.FoundLinks.{IsAboveFound, IsBelowFound, entry_numbered, found_from, leads}
use Rattle.chunk_core.specs.LinkWords.{link_spot}
use Rattle.chunk_core.specs.PinnedRooms.{found_in, found_key}
use Rattle.chunk_core.specs.Rooms.{IsInRooms}
use Rattle.link_search.specs.Linked.{IsAboveFrom}
use Rattle.oak_core.specs.declared.states.PassState.{PassState}
use Rattle.oak_core.specs.AloneWords.{Runs}
use Rattle.oak_core.specs.Memory.{in_rooms, index}
use Rattle.oak_core.specs.Step.{Told, load}
use Rattle.oak_core.proofs.memory.Words.{memory_read}
use Rattle.oak_core.proofs.seats.AloneRuns.{load_runs, runs_as}
use Rattle.chunk_ops.specs.declared.entries.EntryNo.{EntryNo}
use Rattle.chunk_ops.specs.FoundNumbers.{FoundNumbered, counted_some, entry_is, found_numbered, has_counted}
use Rattle.chunk_ops.specs.Listing.{IsEntryOrNone, Rise, StepsIn, StepsTo, link_to, number_of}
use Rattle.chunk_ops.specs.PinRecords.{HasEntry, HasRoomPin, IsFoundWell, room_pin}
use Rattle.chunk_ops.specs.RoomLoads.{linked_in}
use Rattle.chunk_ops.proofs.FoundViews.{before_found, keys_before, view_key}
use Rattle.chunk_ops.proofs.LinkedPins.{IsAboveAt, IsBelowAt, LinksNow, links_now}
use Rattle.chunk_ops.proofs.PinLoads.{link_under}

-- what the call answers names what the link does
pub link_is : (o : Option ℕ) (next : Option EntryNo) (n : ℕ) → SomeIff o (1 ≤ n) (n - 1) → MatchOption o (next ≡ None) (λ i. IsSomeAnd next (λ (j : EntryNo). j.0 ≡ i)) → n ≡ link_to next
link_is None next n h e = let none : n ≡ 0 = dite (dec_le 1 n) (λ l. absurd (h l)) (λ l. omega arith) in none ∙ ap link_to (sym e)
link_is (Some i) None n h e = absurd e
link_is (Some i) (Some j) n h e = let l = h.0 in let d = h.1 in let s : j.0 ≡ i = e in omega arith

-- the entry that a call goes on from was found
abbrev pub StartsAt : ℕ → Option EntryNo → PassState → Type 0
StartsAt r from v = MatchOption from (Unit {0}) (λ i. (k : List ℕ) × HasEntry r i.0 k v)

-- so its link leads on
pub starts_lead : (r : ℕ) (from : Option EntryNo) (v : PassState) → StartsAt r from v → leads (number_of from) (room_pin v) ≡ true
starts_lead r None v s = refl
starts_lead r (Some i) v s = let f = s.1.finds in counted_some i.0 (found_in (room_pin v)) (has_counted i.0 (found_in (room_pin v)) s.1.entry f.there f.number)

-- and is one of the table's words
pub starts_inside : (z : Sizes) (r : ℕ) (from : Option EntryNo) (v : PassState) → HasRoomPin z r v → StartsAt r from v → IsInRooms z (link_spot r (number_of from))
starts_inside z r None v p s = (p.inside, omega arith)
starts_inside z r (Some i) v p s = (p.inside, (let w = each_has (IsFoundWell z) (found_in (room_pin v)) s.1.entry p.found s.1.finds.there in let a = w.number in let b = s.1.finds.number in omega arith))

module _ (z : Sizes) (call r : ℕ) (from next : Option EntryNo) (n : ℕ) (v w : PassState) (p : HasRoomPin z r v) (s : StartsAt r from v) (t : Told z call (load (in_rooms (link_spot r (number_of from)))) v n w) (is : n ≡ link_to next) where
  abbrev now : LinksNow z call r (number_of from) n t.table.words v w
  now = links_now z call r v n w p (number_of from) (starts_lead r from v s) t

  abbrev has : HasRoomPin z r w
  has = now.under.pin.has

  -- ---- the entry that the link is of

  abbrev before : Option FoundEntry
  before = found_from (number_of from) (room_pin v)

  was : IsEntryOrNone r from v before
  was = go from s
    where
      go : (o : Option EntryNo) → StartsAt r o v → IsEntryOrNone r o v (found_from (number_of o) (room_pin v))
      go None h = refl
      go (Some i) h = let f = h.1.finds in (h.1.entry, f, entry_is i.0 (found_in (room_pin v)) h.1.entry p.alike f.there f.number)

  -- behind the load it is still found
  from_key : (i : EntryNo) (e : FoundEntry) → Has e (found_in (room_pin v)) → e.number ≡ i.0 → key_number ((linked_in (room_pin w)).key i.0) ≡ found_key e
  from_key i e there number = let h = now.under.pin.stays.entries e there in ap key_number (view_key (room_pin w) has.alike i.0 e h number) ∙ sym (each_has (IsFoundWell z) (found_in (room_pin w)) e has.found h).same

  over : (k : ℕ) → IsAboveFound before k → IsAboveAt (room_pin w) (number_of from) k
  over k a = go from s a
    where
      go : (o : Option EntryNo) → StartsAt r o v → IsAboveFound (found_from (number_of o) (room_pin v)) k → IsAboveAt (room_pin w) (number_of o) k
      go None h x = tt
      go (Some i) h x = let f = h.1.finds in subst (λ (m : ℕ). m < k) (sym (from_key i h.1.entry f.there f.number))
          (subst (λ (o : Option FoundEntry). IsAboveFound o k) (entry_is i.0 (found_in (room_pin v)) h.1.entry p.alike f.there f.number) x)

  -- ---- the one that it names

  named : (i : EntryNo) → next ≡ Some i → FoundNumbered i.0 (found_in (room_pin w))
  named i e = let q : n ≡ i.0 + 1 = is ∙ ap link_to e in subst (λ (k : ℕ). FoundNumbered k (found_in (room_pin w))) (let u : n - 1 ≡ i.0 = omega arith in u) (found_numbered (n - 1) (found_in (room_pin w)) (now.named (λ o. absurd (omega arith))))

  abbrev behind : Option FoundEntry
  behind = found_from (number_of next) (room_pin w)

  names : IsEntryOrNone r next w behind
  names = go next refl
    where
      go : (o : Option EntryNo) → next ≡ o → IsEntryOrNone r o w (found_from (number_of o) (room_pin w))
      go None e = refl
      go (Some i) e = let f = named i e in (f.entry, record { pin = has.pin; there = f.has; number = f.number }, f.is)

  below : (k : ℕ) → IsBelowFound behind k → IsBelowAt (room_pin w) n k
  below k a = go next refl a
    where
      go : (o : Option EntryNo) → next ≡ o → IsBelowFound (found_from (number_of o) (room_pin w)) k → IsBelowAt (room_pin w) n k
      go None e x ne = absurd (ne (is ∙ ap link_to e))
      go (Some i) e x ne = let f = named i e in let q : n ≡ i.0 + 1 = is ∙ ap link_to e in let u : i.0 ≡ n - 1 = omega arith in
          subst (λ (m : ℕ). k < m) (sym (ap (λ (j : ℕ). key_number ((linked_in (room_pin w)).key j)) (sym u) ∙ (ap key_number (view_key (room_pin w) has.alike i.0 f.entry f.has f.number) ∙ sym (each_has (IsFoundWell z) (found_in (room_pin w)) f.entry has.found f.has).same)))
          (subst (λ (o : Option FoundEntry). IsBelowFound o k) f.is x)

  -- ---- both

  rises : Rise before behind
  rises = go from next s refl (λ ne. now.above ne)
    where
      go : (a b : Option EntryNo) → StartsAt r a v → next ≡ b → (n ≢ 0 → IsAboveFrom (linked_in (room_pin w)) (number_of a) ((linked_in (room_pin w)).key (n - 1))) → Rise (found_from (number_of a) (room_pin v)) (found_from (number_of b) (room_pin w))
      go None b h e x = tt
      go (Some i) None h e x = subst (λ (o : Option FoundEntry). Rise o None) (sym (entry_is i.0 (found_in (room_pin v)) h.1.entry p.alike h.1.finds.there h.1.finds.number)) tt
      go (Some i) (Some j) h e x = let f = named j e in let g = h.1.finds in let q : n ≡ j.0 + 1 = is ∙ ap link_to e in let u : n - 1 ≡ j.0 = omega arith in let still = now.under.pin.stays.entries h.1.entry g.there in
          subst (λ (o : Option FoundEntry). Rise o (entry_numbered j.0 (found_in (room_pin w)))) (sym (entry_is i.0 (found_in (room_pin v)) h.1.entry p.alike g.there g.number))
          (subst (λ (o : Option FoundEntry). Rise (Some h.1.entry) o) (sym f.is)
          (before_found z h.1.entry f.entry (each_has (IsFoundWell z) (found_in (room_pin w)) h.1.entry has.found still) (each_has (IsFoundWell z) (found_in (room_pin w)) f.entry has.found f.has)
          (keys_before _ _ _ _ (view_key (room_pin w) has.alike i.0 h.1.entry still g.number) (ap (λ (k : ℕ). (linked_in (room_pin w)).key k) u ∙ view_key (room_pin w) has.alike j.0 f.entry f.has f.number) (x (λ o. absurd (omega arith))).1)))

  alone : Runs (StepsIn z r from next) v w
  alone = runs_as (λ a b. (n ≡ get_or a (index z (in_rooms (link_spot r (number_of from)))) 0) × (b ≡ a)) (StepsIn z r from next) v w
      (λ a b d. (d.1, memory_read z a (in_rooms (link_spot r (number_of from))) t.may ∙ (sym d.0 ∙ is))) (load_runs z call (in_rooms (link_spot r (number_of from))) v n w t)

  pub steps_along : StepsTo z call r from next v w
  steps_along = let l = link_under z call r v n w p (number_of from) t in record {
    told = subst (λ (k : ℕ). Told z call (load (in_rooms (link_spot r (number_of from)))) v k w) is t;
    before = before;
    was = was;
    behind = behind;
    is = names;
    rises = rises;
    absent = λ k inside a b. now.absent k inside (over k a) (below k b);
    under = l.under;
    quiet = l.quiet;
    alone = alone;
  }
