-- Bytes as they stand in words: eight in each, the first of them highest.
use Rattle.std.specs.Prelude.{ℕ, ◌+◌, ◌-◌, ◌*◌, ◌/◌, List, ◌++◌, length, take, drop, replicate}
use Rattle.std.specs.Int.{w64, from_be_bytes}
use Rattle.oak_model.specs.Counts.{rows}

-- the bytes of xs from 8 * i on, at most 8
abbrev pub bytes_in : ℕ → List ℕ → List ℕ
bytes_in i xs = take 8 (drop (8 * i) xs)

-- at most eight bytes, and behind them zeros, so that there are eight
abbrev pub filled_up : List ℕ → List ℕ
filled_up xs = xs ++ replicate (8 - length xs) 0

-- the word of at most eight bytes, zeros behind the last
unfoldable pub word_of : List ℕ → ℕ
word_of xs = from_be_bytes w64 (filled_up xs)

-- the word in which the bytes from 8 * i on stand
abbrev pub word_at : List ℕ → ℕ → ℕ
word_at bytes i = word_of (bytes_in i bytes)

-- the words in which the bytes stand, eight in each; behind the bytes the last word has zeros
unfoldable pub words_of : List ℕ → List ℕ
words_of bytes = rows 0 ((length bytes + 7) / 8) (word_at bytes)
