-- The nearest entry on one side of a key.
use Rattle.std.specs.Prelude.{ℕ, ◌+◌, List, Option, Some, None}
use Rattle.oak_model.specs.Key.{AreBytes, IsKeyBefore}
use Rattle.link_search.specs.declared.ties.Tie.{Tie}
use Rattle.link_search.specs.declared.ties.Tie.TheVariants.{Passed, Reached}
use Rattle.link_search.specs.Linked.{Linked, IsFound}

-- the bytes of a bound are bytes, as its type says
abbrev pub AreBoundBytes : Option (List ℕ) → Type 0
AreBoundBytes None = Unit {0}
AreBoundBytes (Some b) = AreBytes b

-- k is above the bound, or at it where a tie is reached; without a bound each is
abbrev pub IsAbove : Tie → Option (List ℕ) → List ℕ → Type 0
IsAbove tie None k = Unit {0}
IsAbove Passed (Some b) k = IsKeyBefore b k
IsAbove Reached (Some b) k = IsKeyBefore k b → ⊥

-- k is below the bound; without a bound each is
abbrev pub IsBelow : Option (List ℕ) → List ℕ → Type 0
IsBelow None k = Unit {0}
IsBelow (Some b) k = IsKeyBefore k b

-- of the entries found it is the one of the least key above, or there is none
abbrev pub IsLeastAbove : Linked → Tie → Option (List ℕ) → Option ℕ → Type 0
IsLeastAbove r tie bound None = (j : ℕ) → IsFound r j → IsAbove tie bound (r.key j) → ⊥
IsLeastAbove r tie bound (Some i) = IsFound r i × IsAbove tie bound (r.key i) × ((j : ℕ) → IsFound r j → IsAbove tie bound (r.key j) → IsKeyBefore (r.key j) (r.key i) → ⊥)

-- of the entries found it is the one of the greatest key below, or there is none
abbrev pub IsGreatestBelow : Linked → Option (List ℕ) → Option ℕ → Type 0
IsGreatestBelow r bound None = (j : ℕ) → IsFound r j → IsBelow bound (r.key j) → ⊥
IsGreatestBelow r bound (Some i) = IsFound r i × IsBelow bound (r.key i) × ((j : ℕ) → IsFound r j → IsBelow bound (r.key j) → IsKeyBefore (r.key i) (r.key j) → ⊥)

-- the link that names an entry, or none
abbrev pub link_to : Option ℕ → ℕ
link_to None = 0
link_to (Some i) = i + 1
