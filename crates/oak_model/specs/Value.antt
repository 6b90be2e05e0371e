-- Which bytes are values.
use Rattle.std.specs.Prelude.{ℕ, ◌≤◌, List, length}
use Rattle.oak_model.specs.declared.limits.TheConstants.{GREATEST_VALUE}

abbrev pub IsValue : List ℕ → Type 0
IsValue bytes = length bytes ≤ GREATEST_VALUE
