-- What is gathered from the cursor of a scan.
use Rattle.std.specs.Prelude.{◌≡◌, List}
use Rattle.oak_model.specs.declared.replies.Pair.{Pair}
use Rattle.oak_core.specs.Scratch.{StaysButSlots}
use Rattle.scan_cursor.specs.declared.cursor.Cursor.{Cursor}
use Rattle.scan_cursor.specs.Cursors.{HasGiven, IsCursor, key_of, under, view_under}
use Rattle.scan_cursor.specs.Views.{Later, View}
use Rattle.scan_cursor.specs.Walks.{pair_of}

-- the later cursor is that of the same scan, in the same call
pub record GoesOn (c d : Cursor) : Type 0 where
  pub table : d.table ≡ c.table
  pub low : d.low ≡ c.low
  pub high : d.high ≡ c.high
  pub way : d.way ≡ c.way
  pub own : StaysButSlots c.pass.now d.pass.now
  pub cursor : IsCursor d
  pub later : Later (view_under c) (view_under d)

-- whatever the scan has given by the first cursor, it has given the second list by the later one, if the first list by the first
abbrev pub GivesOn : Cursor → Cursor → List Pair → List Pair → Type 0
GivesOn c d had has = (before : View) → HasGiven c before had → HasGiven d before has

-- it has given nothing more
pub record KeepsPair (c d : Cursor) : Type 0 where
  pub on : GoesOn c d
  pub gives : (pairs : List Pair) → GivesOn c d pairs pairs

-- the pair at which the cursor is
abbrev pub present : Cursor → Pair
present c = pair_of (key_of c) (under c)
