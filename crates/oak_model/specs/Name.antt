-- Which bytes are names.
use Rattle.std.specs.Prelude.{ℕ, ◌<◌, ◌≤◌, List, length}
use Rattle.oak_model.specs.declared.limits.TheConstants.{GREATEST_NAME}

abbrev pub IsName : List ℕ → Type 0
IsName bytes = (0 < length bytes) × (length bytes ≤ GREATEST_NAME)
