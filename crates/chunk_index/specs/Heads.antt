-- The first bytes of a key as one number.
use Rattle.std.specs.Prelude.{ℕ, List}
use Rattle.std.specs.Int.{from_be_bytes, w64}

-- the first eight bytes, the first one the highest; what a shorter key has not counts as 0
abbrev pub key_head : List ℕ → ℕ
key_head k = from_be_bytes w64 k
