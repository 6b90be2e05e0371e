-- What a good pin found stands in the words of the table at a moment: each entry is linked there, with its key, and no linked entry has a key that a link steps over.
use Rattle.std.proofs.Common.{◌≡◌, ◌≢◌, ℕ, ◌-◌, ◌<◌, ◌⊎◌, List, sym, refl, ap, ◌∙◌, subst, inl, inr, arith, Option, Some, None}
use lib.Seq.{set-get_or}
use mathlib.Core.Logic.{dite}
use native.Mathlib.Decide.{ℕ_discrete}
use Rattle.oak_model.specs.Counts.{Has}
use Rattle.oak_model.specs.KeyNumber.{key_number}
use Rattle.oak_model.specs.Limits.{Sizes}
use Rattle.arena_core.specs.Place.{content}
use Rattle.chunk_core.specs.declared.holds.FoundEntry.{FoundEntry}
use Rattle.chunk_core.specs.Covers.{key_at}
use Rattle.chunk_core.specs.KeyWords.{key_bytes, key_in}
use Rattle.chunk_core.specs.LinkedEntries.{entries_in, linked}
use Rattle.chunk_core.specs.LinkWords.{link_word}
use Rattle.chunk_core.specs.PinnedRooms.{EntryStands, RoomPinHolds, found_in}
use Rattle.chunk_core.specs.RoomRule.{IsInOrder}
use Rattle.chunk_core.specs.CoverSums.{weight}
use Rattle.chunk_core.proofs.ChainLinks.{IsAbove, IsReachedFrom, link_of, none_between}
use Rattle.chunk_core.proofs.EntryNumbers.{few_entries}
use Rattle.chunk_core.proofs.LinkLoads.{link_read}
use Rattle.chunk_core.proofs.RoomLinks.{found_stands}
use Rattle.link_search.specs.Linked.{IsFound}
use Rattle.oak_core.specs.declared.states.PassState.{PassState}
use Rattle.oak_core.specs.AloneWords.{Moment}
use Rattle.oak_core.specs.Memory.{Memory, Spot, index, memory}
use Rattle.oak_core.specs.Step.{load, Told}
use Rattle.oak_core.proofs.seats.AloneRuns.{moment_after}
use Rattle.chunk_ops.specs.FindsAlone.{IsLinked, linked_key}
use Rattle.chunk_ops.specs.FoundNumbers.{found_numbered}
use Rattle.chunk_ops.specs.ClaimLaws.{pin_stands}
use Rattle.chunk_ops.specs.PinRecords.{HasRoomPin, room_pin}
use Rattle.chunk_ops.specs.RoomLoads.{key_found, linked_in}
use Rattle.chunk_ops.proofs.LinkedPins.{IsAboveAt, IsBelowAt}

-- behind a load the rule holds, at the words that it found
pub load_moment : (z : Sizes) (call : ℕ) (p : Spot) (v : PassState) (n : ℕ) (w : PassState) → (t : Told z call (load p) v n w) → Moment z t.table.words w
load_moment z call p v n w t = subst (λ (ws : List ℕ). Moment z ws w) (set-get_or t.table.words (index z p) 0) (moment_after z call (load p) v n w t)

-- entry i of the room stands, with that key
abbrev pub StandsAt : Memory → ℕ → ℕ → List ℕ → Type 0
StandsAt m r i k = IsLinked m r i × (linked_key m r i ≡ k)

module _ (z : Sizes) (r : ℕ) (words : List ℕ) (v : PassState) (t : Moment z words v) (p : HasRoomPin z r v) where
  abbrev m : Memory
  m = memory z words

  abbrev bytes : ℕ → List ℕ
  bytes = content m.arena.bytes

  held : RoomPinHolds z m.rooms bytes (room_pin v)
  held = pin_stands z r words v t p.pin

  entry_stands : (e : FoundEntry) → Has e (found_in (room_pin v)) → EntryStands (linked m.rooms r) (m.rooms.key r) bytes e
  entry_stands e has = subst (λ (j : ℕ). EntryStands (linked m.rooms j) (m.rooms.key j) bytes e) p.pin.room (found_stands z m.rooms bytes (room_pin v) held e has)

  pub found_stands_at : (i : ℕ) → IsFound (linked_in (room_pin v)) i → StandsAt (memory z words) r i ((linked_in (room_pin v)).key i)
  found_stands_at i found = let f = found_numbered i (found_in (room_pin v)) found in let s = entry_stands f.entry f.has in
      let word : m.rooms.key r i ≡ f.entry.word = ap (m.rooms.key r) (sym f.number) ∙ s.word in
      (subst (λ (j : ℕ). IsLinked m r j) f.number s.linked, (λ h. key_bytes (word h) ((ap bytes word ∙ s.words) h)) ∙ ap key_found (sym f.is))

  weighs : weight (m.rooms.pin r) ≡ 1
  weighs = subst (λ (j : ℕ). weight (m.rooms.pin j) ≡ 1) p.pin.room held.cover

  order : IsInOrder z bytes (m.rooms.count r) (m.rooms.key r) (m.rooms.value r) (linked m.rooms r) (m.rooms.low r 0) (m.rooms.high r 0)
  order = t.rule.rooms.ordered r weighs

  -- a link that is first, or of an entry that was found, and names one that was found, or none
  module _ (from : Option ℕ) (n : ℕ) (link : link_word m.rooms r from ≡ n) (leads : (i : ℕ) → from ≡ Some i → IsFound (linked_in (room_pin v)) i) (named : n ≢ 0 → IsFound (linked_in (room_pin v)) (n - 1)) where
    abbrev key : ℕ → ℕ
    key i = key_at bytes (m.rooms.key r i)

    names : n ≡ link_of (m.rooms.next r) (m.rooms.first r) from
    names = sym link ∙ link_read m.rooms r from

    key_of : (i : ℕ) → IsFound (linked_in (room_pin v)) i → key_number ((linked_in (room_pin v)).key i) ≡ key i
    unfolding key_in
    key_of i found = ap key_number (sym (found_stands_at i found).1)

    reached_there : (o : Option ℕ) → ((i : ℕ) → o ≡ Some i → IsFound (linked_in (room_pin v)) i) → IsReachedFrom (m.rooms.next r) (m.rooms.first r) o
    reached_there None f = tt
    reached_there (Some i) f = (found_stands_at i (f i refl)).0

    above_there : (o : Option ℕ) → ((i : ℕ) → o ≡ Some i → IsFound (linked_in (room_pin v)) i) → (k : ℕ) → IsAboveAt (room_pin v) o k → IsAbove key o k
    above_there None f k a = tt
    above_there (Some i) f k a = subst (λ (j : ℕ). j < k) (key_of i (f i refl)) a

    below_there : (k : ℕ) → IsBelowAt (room_pin v) n k → (link_of (m.rooms.next r) (m.rooms.first r) from ≡ 0) ⊎ (k < key (link_of (m.rooms.next r) (m.rooms.first r) from - 1))
    below_there k b = dite (ℕ_discrete n 0) (λ e. inl (sym names ∙ e)) (λ ne. inr (subst (λ (l : ℕ). k < key (l - 1)) names (subst (λ (j : ℕ). k < j) (key_of (n - 1) (named ne)) (b ne))))

    -- no linked entry has a key between
    pub none_stands : (k : ℕ) → IsAboveAt (room_pin v) from k → IsBelowAt (room_pin v) n k → (i : ℕ) → IsLinked (memory z words) r i → key_number (linked_key (memory z words) r i) ≢ k
    unfolding key_in
    none_stands k above below i l = none_between (entries_in (m.rooms.count r)) (few_entries (m.rooms.count r)) key (m.rooms.next r) (m.rooms.first r) order.used order.rises from k (reached_there from leads) (above_there from leads k above) (below_there k below) i (omega arith)
