-- What a key holds.
use Rattle.std.specs.Prelude.{ℕ, List, Option}

-- absent, or the bytes that it holds
abbrev pub State : Type 0
State = Option (List ℕ)
