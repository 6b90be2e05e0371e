-- What the pairs of a cursor are given to.
use Rattle.std.specs.Prelude.{◌≡◌, ℕ, Bool, true, false, List, [], ◌∷◌, ◌++◌, IsSome, Option}
use Rattle.std.specs.Fn.{CalledAtTwo, Mut}
use Rattle.std.specs.Borrow.{Bor}
use Rattle.oak_model.specs.declared.replies.Pair.{Pair}
use Rattle.scan_cursor.specs.declared.cursor.Cursor.{Cursor}
use Rattle.scan_cursor.specs.Cursors.{key_of, value_of}
use Rattle.oak_caller.specs.Scans.{GivesOn, GoesOver, front, present}

-- the cursor went to a next pair
pub record FindsPair (c d : Cursor) : Type 0 where
  pub value : IsSome d.value
  pub goes : (pairs : List Pair) → GivesOn c d pairs (pairs ++ present d ∷ [])

-- or no key of its range was left
pub record FindsEnd (c d : Cursor) : Type 0 where
  pub ended : d.walk.mark.ended ≡ true
  pub goes : (pairs : List Pair) → GivesOn c d pairs pairs

-- the closure got all pairs from the one cursor to the other, which has ended
pub record GivesAll {F : Type 0} (most : Option ℕ) (g : Mut F (Bor (List ℕ) × (Bor (List ℕ) × Unit {0})) Bool) (f : F) (c d : Cursor) : Type 0 where
  pub pairs : List Pair
  pub last : F
  pub goes : GoesOver most g f pairs last
  pub ended : d.walk.mark.ended ≡ true
  pub gives : GivesOn c d [] pairs

-- or those up to the one at which the later cursor is, where it said to stop
pub record GivesUntil {F : Type 0} (most : Option ℕ) (g : Mut F (Bor (List ℕ) × (Bor (List ℕ) × Unit {0})) Bool) (f : F) (c d : Cursor) : Type 0 where
  pub pairs : List Pair
  pub at : F
  pub goes : GoesOver most g f pairs at
  pub last : F
  pub stops : CalledAtTwo g at (key_of d) (front most (value_of d)) false last
  pub value : IsSome d.value
  pub gives : GivesOn c d [] (pairs ++ present d ∷ [])
