-- What keys a scan adds to a list, which had those of `had` before, and has those of `has` then: v is the view of the pass at the call, w the one at its end.
use Rattle.std.specs.Prelude.{◌≡◌, ℕ, ◌≤◌, ◌⊎◌, List, [], ◌∷◌, ◌++◌, Option, length}
use Rattle.oak_model.specs.declared.replies.Pair.{Pair}
use Rattle.oak_model.specs.Scan.{pair_keys}
use Rattle.scan_cursor.specs.declared.ways.Way.TheVariants.{Up}
use Rattle.scan_cursor.specs.Scanned.{HasScanned}
use Rattle.scan_cursor.specs.Views.{View}
use Rattle.oak_caller.specs.Scans.{ScannedTo}

-- those of the range, in order
pub record AddsAll (low high : Option (List ℕ)) (v w : View) (had has : List (List ℕ)) : Type 0 where
  pub pairs : List Pair
  pub scanned : HasScanned Up low high v w pairs
  pub keys : has ≡ had ++ pair_keys pairs

-- those of the range before one of it
pub record AddsBefore (low high : Option (List ℕ)) (v w : View) (had has : List (List ℕ)) : Type 0 where
  pub pairs : List Pair
  pub pair : Pair
  pub scanned : ScannedTo Up low high pair.key v w (pairs ++ pair ∷ [])
  pub keys : has ≡ had ++ pair_keys pairs

-- those of the range up to one of it, which is the last
pub record AddsTo (low high : Option (List ℕ)) (v w : View) (had has : List (List ℕ)) : Type 0 where
  pub pairs : List Pair
  pub pair : Pair
  pub scanned : ScannedTo Up low high pair.key v w (pairs ++ pair ∷ [])
  pub keys : has ≡ had ++ pair_keys (pairs ++ pair ∷ [])

-- none or these, with which there are enough
pub record AddsEnough (most : ℕ) (low high : Option (List ℕ)) (v w : View) (had has : List (List ℕ)) : Type 0 where
  pub many : most ≤ length has
  pub adds : (has ≡ had) ⊎ AddsTo low high v w had has
