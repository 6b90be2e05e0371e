-- The batches in which a scan loads the entries of a room.
use Rattle.std.specs.Prelude.{◌≡◌, ℕ, ◌<◌, ◌≤◌, true, List, Option, Some, None}
use Rattle.oak_model.specs.Key.{is_key}
use Rattle.oak_model.specs.KeyNumber.{key_number}
use Rattle.oak_model.specs.Limits.{Sizes}
use Rattle.chunk_core.specs.declared.holds.FoundEntry.{FoundEntry}
use Rattle.chunk_core.specs.FoundLinks.{IsBelowFound}
use Rattle.chunk_core.specs.PinnedRooms.{found_key}
use Rattle.oak_core.specs.declared.states.PassState.{PassState}
use Rattle.oak_core.specs.AloneWords.{Runs}
use Rattle.oak_core.specs.QuietSteps.{Quiet}
use Rattle.chunk_ops.specs.declared.entries.EntryNo.{EntryNo}
use Rattle.chunk_ops.specs.Listing.{IsEntryOrNone}
use Rattle.chunk_ops.specs.PinRecords.{UnderPin, WordsStay}
use Rattle.scan_cursor.specs.declared.ways.Way.{Way}
use Rattle.scan_cursor.specs.declared.ways.Way.TheVariants.{Up, Down}
use Rattle.scan_cursor.specs.Holding.{Covers, IsRoom, Room, ahead_from, ahead_past, bound_in, cut_room, high_end, low_end, room_at}
use Rattle.scan_cursor.specs.Views.{ReadsKey, view_of}

-- the entry's key is one of the room's, if there is an entry
abbrev pub IsInRoom : Room → Option FoundEntry → Type 0
IsInRoom a None = Unit {0}
IsInRoom a (Some f) = (low_end a.low ≤ found_key f) × (found_key f < high_end a.high)

-- a batch up begins without a bound of its own
abbrev pub IsOpen : Way → Option (List ℕ) → Type 0
IsOpen Up near = near ≡ None
IsOpen Down near = Unit {0}

-- the bound of a batch up lies ahead by as many pairs as it wants at least, if it is its own
abbrev pub IsFull : Way → (many : ℕ) → Option (List ℕ) → (filled : ℕ) → Type 0
IsFull Up many None filled = Unit {0}
IsFull Up many (Some b) filled = many ≤ filled
IsFull Down many near filled = Unit {0}

-- the bound of a batch that ends before an entry of the key q
abbrev pub end_bound : Way → List ℕ → Option (List ℕ) → Option (List ℕ)
end_bound Up q near = Some q
end_bound Down q near = near

-- Under its pin the call comes, by loads alone, to an entry of the room up to the bound, or to none; of the keys ahead each that lies before it was read absent.
pub record Starts (z : Sizes) (call r : ℕ) (way : Way) (k : List ℕ) (near : Option (List ℕ)) (next : Option EntryNo) (v w : PassState) : Type 0 where
  pub under : UnderPin z call r v w
  pub quiet : Quiet v w
  pub still : Runs WordsStay v w
  pub real : IsRoom (cut_room way (room_at v) near)
  pub covers : Covers way true k (cut_room way (room_at v) near)
  pub wide : low_end (room_at v).low ≤ low_end (cut_room way (room_at v) near).low
  pub high : high_end (cut_room way (room_at v) near).high ≡ high_end (room_at v).high
  pub up : IsOpen way near
  pub behind : Option FoundEntry
  pub is : IsEntryOrNone r next w behind
  pub inside : IsInRoom (cut_room way (room_at v) near) behind
  pub absent : (q : List ℕ) → is_key q ≡ true → ahead_from way k (bound_in way (cut_room way (room_at v) near)) ≤ key_number q → key_number q < ahead_past way k (bound_in way (cut_room way (room_at v) near)) → IsBelowFound behind (key_number q)
      → (at : ℕ) × ReadsKey (view_of z call v) (view_of z call w) q at None
