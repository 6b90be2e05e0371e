-- How far a scan has come.
use Rattle.std.specs.Prelude.{◌≡◌, ℕ, suc, ◌<◌, ◌≤◌, Bool, true, false, List, MatchBool, Option, Some}
use Rattle.oak_model.specs.declared.replies.Pair.{Pair}
use Rattle.oak_model.specs.Key.{is_key}
use Rattle.oak_model.specs.KeyNumber.{key_number}
use Rattle.scan_cursor.specs.declared.marks.Mark.{Mark}
use Rattle.scan_cursor.specs.declared.ways.Way.{Way}
use Rattle.scan_cursor.specs.declared.ways.Way.TheVariants.{Up, Down}
use Rattle.scan_cursor.specs.Holding.{high_end, low_end}
use Rattle.scan_cursor.specs.Scanned.{IsInOrder, Scanned}
use Rattle.scan_cursor.specs.Views.{Later, View}

-- The numbers of the keys that are read, from this one on and below that one, where the scan has come to the key k: which is read too where it is past it, and all are where it has ended.

abbrev pub read_from : Way → ℕ → Bool → Bool → List ℕ → ℕ
read_from Up low past ended k = low
read_from Down low past true k = low
read_from Down low true false k = key_number k
read_from Down low false false k = suc (key_number k)

abbrev pub read_past : Way → ℕ → Bool → Bool → List ℕ → ℕ
read_past Down high past ended k = suc high
read_past Up high past true k = suc high
read_past Up high true false k = suc (key_number k)
read_past Up high false false k = key_number k

-- the pairs so far are those of the keys that are read, in order
pub record Come (way : Way) (low high : ℕ) (past ended : Bool) (k : List ℕ) (before now : View) (pairs : List Pair) : Type 0 where
  pub later : Later before now
  pub scanned : Scanned before now (read_from way low past ended k) (read_past way high past ended k) pairs
  pub ordered : IsInOrder way pairs

abbrev pub HasCome : Way → ℕ → ℕ → Mark → View → View → List Pair → Type 0
HasCome way low high m before now pairs = Come way low high m.past m.ended m.key before now pairs

-- it is a key between the bounds
pub record InBounds (low high : ℕ) (k : List ℕ) : Type 0 where
  pub key : is_key k ≡ true
  pub above : low ≤ key_number k
  pub below : key_number k ≤ high

-- the key is behind the bound to which the scan goes
abbrev pub IsBeyond : Way → ℕ → ℕ → List ℕ → Type 0
IsBeyond Up low high k = high < key_number k
IsBeyond Down low high k = key_number k < low

-- no key of a batch with this bound is
abbrev pub IsWithin : Way → ℕ → ℕ → Option (List ℕ) → Type 0
IsWithin Up low high bound = high_end bound ≤ suc high
IsWithin Down low high bound = low ≤ low_end bound

-- The scan leaves a room in which no key is left, and that has this bound in its direction: it ends, since the room reaches beyond its own bound, or goes on at the room's.

abbrev pub Ends : Way → ℕ → ℕ → Option (List ℕ) → Type 0
Ends Up low high bound = high < high_end bound
Ends Down low high bound = low_end bound ≤ low

abbrev pub GoesToBound : Way → ℕ → ℕ → Option (List ℕ) → Mark → Type 0
GoesToBound Up low high bound m = (bound ≡ Some m.key) × (m.past ≡ false) × (key_number m.key ≤ high)
GoesToBound Down low high bound m = (bound ≡ Some m.key) × (m.past ≡ true) × (low < key_number m.key)

abbrev pub Leaves : Way → ℕ → ℕ → Option (List ℕ) → Mark → Type 0
Leaves way low high bound m = MatchBool m.ended (Ends way low high bound) (GoesToBound way low high bound m)
