-- Part two of a run that fits: along one thread the places of a key never fall.
use Rattle.std.specs.Prelude.{◌≡◌, ℕ, ◌<◌, ◌≤◌, List, [], ◌∷◌, Some, ⊤}
use Rattle.std.specs.Bool.{OnTrue}
use Rattle.std.specs.List.{AllByRecursion}
use Rattle.oak_run.specs.Told.{makes_write}
use Rattle.oak_run.specs.Turn.{Turn}

-- the later reply's place of a key is not before the earlier one's floor, and behind it where the later is a write
abbrev pub Follows : Turn → Turn → Type 0
Follows earlier later =
    (q : List ℕ) (r s : ℕ) → earlier.floors q ≡ Some r → later.places q ≡ Some s
    → (r ≤ s) × OnTrue (makes_write later.reply) (r < s)

abbrev pub Ordered : List Turn → Type 0
Ordered [] = ⊤
Ordered (t ∷ ts) = AllByRecursion (Follows t) ts × Ordered ts
