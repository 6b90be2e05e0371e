-- The linked entries of a room that is a cover: each is there once, and in use, each entry of the prefix is there, and what a pin found of them stands.
use Rattle.std.proofs.Common.{◌≡◌, ℕ, zero, suc, ◌<◌, ◌≤◌, List, [], ◌∷◌, sym, ap, ◌∙◌, inl, inr, arith, Option, Some, None}
use Rattle.std.specs.Prelude.{length}
use mathlib.Core.Logic.{dite}
use mathlib.Core.Option.{some, some-injective, some-ne-none}
use native.Mathlib.Decide.{ℕ_discrete}
use lib.ListN.{get_elem?}
use Rattle.oak_model.specs.Counts.{one_at, total, Has}
use Rattle.oak_model.specs.Limits.{Sizes}
use Rattle.oak_model.proofs.Lists.{each_append}
use Rattle.oak_model.proofs.MemberLaws.{each_has}
use Rattle.chunk_core.specs.declared.holds.FoundEntry.{FoundEntry}
use Rattle.chunk_core.specs.declared.holds.PinnedRoom.{PinnedRoom}
use Rattle.chunk_core.specs.Covers.{key_at}
use Rattle.chunk_core.specs.KeyWords.{key_in}
use Rattle.chunk_core.specs.LinkedEntries.{linked, reached, farthest, entries_in}
use Rattle.chunk_core.specs.PinnedRooms.{AreCounted, RoomPinHolds, EntryStands, found_in, found_key}
use Rattle.chunk_core.specs.RoomRule.{IsInOrder}
use Rattle.chunk_core.specs.Rooms.{RoomMemory}
use Rattle.chunk_core.proofs.ChainLinks.{reached_few}
use Rattle.chunk_core.proofs.Chains.{rises_once}
use Rattle.chunk_core.proofs.EntryNumbers.{each_at, few_entries}

-- an entry is linked
abbrev pub IsLinked : RoomMemory → ℕ → ℕ → Type 0
IsLinked m r i = 0 < total (λ j. one_at j i) (linked m r)

-- where links are the same, so are the linked ones
pub linked_same : (m m' : RoomMemory) (r : ℕ) → m'.first r ≡ m.first r → m'.next r ≡ m.next r → linked m' r ≡ linked m r
linked_same m m' r first next = λ i. reached (next i) (first i)

module _ (z : Sizes) (m : RoomMemory) (content : ℕ → List ℕ) (r : ℕ) (o : IsInOrder z content (m.count r) (m.key r) (m.value r) (linked m r) (m.low r 0) (m.high r 0)) where
  -- links end
  pub links_end : length (linked m r) < farthest
  links_end = reached_few (entries_in (m.count r)) (few_entries (m.count r)) (λ i. key_at content (m.key r i)) (m.next r) (m.first r) o.used o.rises

  -- a linked entry is below the count
  pub linked_below : (i : ℕ) → IsLinked m r i → i < entries_in (m.count r)
  linked_below i l = each_at (λ k. k < entries_in (m.count r)) (linked m r) i o.used l

  -- so none past it is linked
  pub past_unlinked : (i : ℕ) → entries_in (m.count r) ≤ i → total (λ j. one_at j i) (linked m r) ≡ 0
  past_unlinked i l = dite (ℕ_discrete (total (λ j. one_at j i) (linked m r)) 0) (λ e. e) (λ ne. absurd (let q = linked_below i (omega arith) in omega arith))

  -- none is linked twice
  pub links_once : (i : ℕ) → total (λ j. one_at j i) (linked m r) ≤ 1
  links_once = rises_once (λ i. key_at content (m.key r i)) (linked m r) o.rises

-- an entry at a place among those counted has the place as its number
pub found_place : (count : Option ℕ) (es : List FoundEntry) (i : ℕ) (e : FoundEntry) → AreCounted count es → get_elem? es i ≡ some e → Has e es × (e.number ≡ i)
found_place None es i e counted at = absurd (some-ne-none e (sym (ap (λ (xs : List FoundEntry). get_elem? xs i) (sym counted) ∙ at)))
found_place (Some n) es i e counted at = (has_at es i at, counted.1 i e at)
  where
    has_at : (xs : List FoundEntry) (j : ℕ) → get_elem? xs j ≡ some e → Has e xs
    has_at [] j h = absurd (some-ne-none e (sym h))
    has_at (x ∷ xs) zero h = inl (sym (some-injective x e h))
    has_at (x ∷ xs) (suc j) h = inr (has_at xs j h)

-- what a pin found stands
module _ (z : Sizes) (m : RoomMemory) (content : ℕ → List ℕ) (p : PinnedRoom) (h : RoomPinHolds z m content p) where
  pub found_stands : (e : FoundEntry) → Has e (found_in p) → EntryStands (linked m p.room) (m.key p.room) content e
  found_stands e has = each_has (EntryStands (linked m p.room) (m.key p.room) content) (found_in p) e (each_append (EntryStands (linked m p.room) (m.key p.room) content) p.entries p.walked h.entries h.walked) has

  -- the key that it had is the entry's
  pub found_key_is : (e : FoundEntry) → Has e (found_in p) → found_key e ≡ key_at content (m.key p.room e.number)
  found_key_is e has = let s = found_stands e has in ap (key_in e.word) (sym s.words) ∙ ap (λ (t : ℕ). key_at content t) (sym s.word)
