-- What the scans of a caller promise: v is the view of the pass at the call, w the one at its end.
use Rattle.std.specs.Prelude.{◌≡◌, ℕ, ◌-◌, ◌^◌, ◌≤◌, Bool, true, false, List, [], ◌∷◌, ◌++◌, length, min, take, Option, Some, None}
use Rattle.std.specs.Fn.{CalledAtTwo, Mut}
use Rattle.std.specs.List.{FoldsTo}
use Rattle.std.specs.Borrow.{Bor}
use Rattle.oak_model.specs.declared.replies.Pair.{Pair}
use Rattle.oak_model.specs.Key.{IsKey}
use Rattle.oak_core.specs.Scratch.{StaysButSlots}
use Rattle.scan_cursor.specs.declared.cursor.Cursor.{Cursor}
use Rattle.scan_cursor.specs.declared.ways.Way.{Way}
use Rattle.scan_cursor.specs.declared.ways.Way.TheVariants.{Up, Down}
use Rattle.scan_cursor.specs.Cursors.{HasGiven, IsCursor, key_of, under, view_under}
use Rattle.scan_cursor.specs.Scanned.{HasScanned}
use Rattle.scan_cursor.specs.Views.{Later, View}
use Rattle.scan_cursor.specs.Walks.{pair_of, view_at}
use Rattle.oak_map.specs.Maps.{pass_of}
use Rattle.oak_caller.specs.Callers.{Called, sizes_of}

-- the view of a caller's pass
abbrev pub view_of : Called → View
view_of c = view_at (sizes_of c) (pass_of c.pass)

-- ---- what a cursor goes through

-- the later cursor is that of the same scan, in the same call
pub record GoesOn (c d : Cursor) : Type 0 where
  pub table : d.table ≡ c.table
  pub low : d.low ≡ c.low
  pub high : d.high ≡ c.high
  pub way : d.way ≡ c.way
  pub own : StaysButSlots c.pass.now d.pass.now
  pub cursor : IsCursor d
  pub later : Later (view_under c) (view_under d)

-- whatever the scan has given by the first cursor, it has given the second list by the later one, if the first list by the first
abbrev pub GivesOn : Cursor → Cursor → List Pair → List Pair → Type 0
GivesOn c d had has = (before : View) → HasGiven c before had → HasGiven d before has

-- it has given nothing more
pub record KeepsPair (c d : Cursor) : Type 0 where
  pub on : GoesOn c d
  pub gives : (pairs : List Pair) → GivesOn c d pairs pairs

-- the pair at which the cursor is
abbrev pub present : Cursor → Pair
present c = pair_of (key_of c) (under c)

-- ---- what a scan has read

-- The scan has read its range up to the key, in its direction: each key of that once, and the pairs are those of the present ones, in order.
abbrev pub ScannedTo : Way → (low high : Option (List ℕ)) → List ℕ → View → View → List Pair → Type 0
ScannedTo Up low high key v w pairs = HasScanned Up low (Some key) v w pairs
ScannedTo Down low high key v w pairs = HasScanned Down (Some key) high v w pairs

-- ---- what a closure gets

-- as many of the first bytes as there are, or are wanted
abbrev pub front : Option ℕ → List ℕ → List ℕ
front None bytes = bytes
front (Some most) bytes = take most bytes

-- It was called at the pairs, of each value so many of the first bytes, at each pair once and in order, said to go on each time, and came from f to last by these calls.
abbrev pub GoesOver : {F : Type 0} → Option ℕ → Mut F (Bor (List ℕ) × (Bor (List ℕ) × Unit {0})) Bool → F → List Pair → F → Type 0
GoesOver most g f pairs last = FoldsTo (λ p x q. CalledAtTwo g p x.key (front most x.value) true q) f pairs last

-- It got all pairs of the range.
pub record GoesOverAll {F : Type 0} (most : Option ℕ) (g : Mut F (Bor (List ℕ) × (Bor (List ℕ) × Unit {0})) Bool) (f : F) (way : Way) (low high : Option (List ℕ)) (v w : View) : Type 0 where
  pub pairs : List Pair
  pub last : F
  pub goes : GoesOver most g f pairs last
  pub scanned : HasScanned way low high v w pairs

-- It got the pairs of the range up to one at which it said to stop.
pub record StopsAt {F : Type 0} (most : Option ℕ) (g : Mut F (Bor (List ℕ) × (Bor (List ℕ) × Unit {0})) Bool) (f : F) (way : Way) (low high : Option (List ℕ)) (v w : View) : Type 0 where
  pub pairs : List Pair
  pub at : F
  pub goes : GoesOver most g f pairs at
  pub pair : Pair
  pub last : F
  pub stops : CalledAtTwo g at pair.key (front most pair.value) false last
  pub scanned : ScannedTo way low high pair.key v w (pairs ++ pair ∷ [])

-- by whether the scan came to the end of its range
abbrev pub GaveFits : {F : Type 0} → Option ℕ → Bool → Mut F (Bor (List ℕ) × (Bor (List ℕ) × Unit {0})) Bool → F → Way → (low high : Option (List ℕ)) → View → View → Type 0
GaveFits most true g f way low high v w = GoesOverAll most g f way low high v w
GaveFits most false g f way low high v w = StopsAt most g f way low high v w

-- ---- what a count comes to

-- so many pairs were read, as far as a number of 64 bits tells
pub record Counts (n : ℕ) (low high : Option (List ℕ)) (v w : View) : Type 0 where
  pub pairs : List Pair
  pub scanned : HasScanned Up low high v w pairs
  pub count : n ≡ min (length pairs) (2 ^ 64 - 1)

-- ---- what the next pair of a scan is

-- the first pair from the bound on, in the direction of the scan, lies in these two places, its key in as many bytes of the first and its value in as many of the second
pub record FindsNext (n : ℕ × ℕ) (key value : List ℕ) (way : Way) (low high : Option (List ℕ)) (v w : View) : Type 0 where
  pub pair : Pair
  pub is_key : IsKey pair.key
  pub within_key : n.0 ≤ length key
  pub within_value : n.1 ≤ length value
  pub key_is : take n.0 key ≡ pair.key
  pub value_is : take n.1 value ≡ pair.value
  pub scanned : ScannedTo way low high pair.key v w (pair ∷ [])

-- whether no key is present
abbrev pub EmptyFits : Bool → View → View → Type 0
EmptyFits true v w = HasScanned Up None None v w []
EmptyFits false v w = (x : Pair) × ScannedTo Up None None x.key v w (x ∷ [])
