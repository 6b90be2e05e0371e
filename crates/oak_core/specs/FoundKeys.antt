-- The key of an entry that a pass found under a good pin.
use Rattle.std.specs.Prelude.{ℕ, ◌==◌, cond, List, [], ◌∷◌, Option, Some, None}
use Rattle.chunk_core.specs.declared.holds.FoundEntry.{FoundEntry}
use Rattle.chunk_core.specs.declared.holds.PinnedRoom.{PinnedRoom}
use Rattle.chunk_core.specs.KeyWords.{key_bytes}
use Rattle.chunk_core.specs.PinnedRooms.{found_in}
use Rattle.oak_core.specs.LinkTeaching.{is_pinned}

-- the key of the entry with the number
unfoldable pub entry_key : ℕ → List FoundEntry → Option (List ℕ)
entry_key i [] = None
entry_key i (e ∷ es) = cond (e.number == i) (Some (key_bytes e.word e.words)) (entry_key i es)

-- of an entry of the room, where the pin is a good one of it
abbrev pub pinned_key : ℕ → ℕ → Option PinnedRoom → Option (List ℕ)
pinned_key r i None = None
pinned_key r i (Some p) = cond (is_pinned r p) (entry_key i (found_in p)) None
