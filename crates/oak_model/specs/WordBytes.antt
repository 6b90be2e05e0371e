-- The bytes that stand in words of 64 bits.
use Rattle.std.specs.Prelude.{ℕ, List}
use Rattle.std.specs.Int.{w64, to_be_bytes}
use Rattle.std.specs.List.{flat_map}

-- the eight bytes of a word, the highest first
abbrev pub word_bytes : ℕ → List ℕ
word_bytes n = to_be_bytes w64 n

-- the bytes of words, one behind the other
unfoldable pub bytes_of : List ℕ → List ℕ
bytes_of ns = flat_map word_bytes ns
