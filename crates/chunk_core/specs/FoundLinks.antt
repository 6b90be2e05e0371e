-- The links of a room that a pass has pinned: which of them lead on from what it found, what they name, and which keys they step over.
use Rattle.std.specs.Prelude.{◌≡◌, ℕ, ◌-◌, ◌<◌, ◌==◌, cond, Bool, true, List, [], ◌∷◌, Option, Some, None, is_some}
use Rattle.chunk_core.specs.declared.holds.FoundEntry.{FoundEntry}
use Rattle.chunk_core.specs.declared.holds.PinnedRoom.{PinnedRoom}
use Rattle.chunk_core.specs.PinnedRooms.{IsGoodRoom, span_of, found_key, found_in}
use Rattle.chunk_core.specs.RoomReads.{found_at}
use Rattle.chunk_core.specs.Rooms.{RoomMemory}
use Rattle.chunk_core.specs.Spans.{within}

-- the first of the entries that has the number
unfoldable pub entry_numbered : ℕ → List FoundEntry → Option FoundEntry
entry_numbered i [] = None
entry_numbered i (e ∷ es) = cond (e.number == i) (Some e) (entry_numbered i es)

-- whether a link leads on from what was found: it is the first, or that of an entry that was found
abbrev pub leads : Option ℕ → PinnedRoom → Bool
leads None p = true
leads (Some i) p = is_some (entry_numbered i (found_in p))

-- the entry that a link is of, where it is not the first
abbrev pub found_from : Option ℕ → PinnedRoom → Option FoundEntry
found_from None p = None
found_from (Some i) p = entry_numbered i (found_in p)

-- the entry that a link names, where it names one
abbrev pub found_by : RoomMemory → (ℕ → List ℕ) → ℕ → ℕ → Option FoundEntry
found_by m content r link = cond (link == 0) None (Some (found_at m content r (link - 1)))

-- the number is above the key of an entry, or there is none
abbrev pub IsAboveFound : Option FoundEntry → ℕ → Type 0
IsAboveFound None k = Unit {0}
IsAboveFound (Some e) k = found_key e < k

-- the number is below the key of an entry, or there is none
abbrev pub IsBelowFound : Option FoundEntry → ℕ → Type 0
IsBelowFound None k = Unit {0}
IsBelowFound (Some e) k = k < found_key e

-- a key of the range that a good pin found, between the entry that a link is of and the one that it names
pub record LiesBetween (p : PinnedRoom) (from to : Option FoundEntry) (k : ℕ) : Type 0 where
  pub good : IsGoodRoom p
  pub inside : within (span_of p) k ≡ 1
  pub above : IsAboveFound from k
  pub below : IsBelowFound to k
