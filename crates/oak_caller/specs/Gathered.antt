-- What keys of a cursor were added to a list, which had those of `had` before, and has those of `has` then.
use Rattle.std.specs.Prelude.{◌≡◌, ℕ, ◌≤◌, ◌⊎◌, Bool, true, false, List, [], ◌∷◌, ◌++◌, IsSome, length}
use Rattle.oak_model.specs.declared.replies.Pair.{Pair}
use Rattle.oak_model.specs.Scan.{pair_keys}
use Rattle.scan_cursor.specs.declared.cursor.Cursor.{Cursor}
use Rattle.scan_cursor.specs.Cursors.{key_of}
use Rattle.oak_caller.specs.Given.{FindsEnd, FindsPair}
use Rattle.oak_caller.specs.Scans.{GivesOn, present}

-- the key of a next pair, or none, since no pair was left
abbrev pub AddsNext : Bool → Cursor → Cursor → (had has : List (List ℕ)) → Type 0
AddsNext true c d had has = FindsPair c d × (has ≡ had ++ key_of d ∷ [])
AddsNext false c d had has = FindsEnd c d × (has ≡ had)

-- those of all pairs
pub record GathersAll (c d : Cursor) (had has : List (List ℕ)) : Type 0 where
  pub pairs : List Pair
  pub keys : has ≡ had ++ pair_keys pairs
  pub ended : d.walk.mark.ended ≡ true
  pub gives : GivesOn c d [] pairs

-- those of the pairs before the one at which the later cursor is
pub record GathersUntil (c d : Cursor) (had has : List (List ℕ)) : Type 0 where
  pub pairs : List Pair
  pub keys : has ≡ had ++ pair_keys pairs
  pub value : IsSome d.value
  pub gives : GivesOn c d [] (pairs ++ present d ∷ [])

-- and with that one
pub record GathersTo (c d : Cursor) (had has : List (List ℕ)) : Type 0 where
  pub pairs : List Pair
  pub keys : has ≡ had ++ pair_keys (pairs ++ present d ∷ [])
  pub value : IsSome d.value
  pub gives : GivesOn c d [] (pairs ++ present d ∷ [])

-- those of some pairs, the last of which is that at which the later cursor is
abbrev pub Gathers : Cursor → Cursor → (had has : List (List ℕ)) → Type 0
Gathers c d had has = ((has ≡ had) × GivesOn c d [] []) ⊎ GathersTo c d had has

-- with which there are enough
pub record GathersEnough (most : ℕ) (c d : Cursor) (had has : List (List ℕ)) : Type 0 where
  pub many : most ≤ length has
  pub gathers : Gathers c d had has
