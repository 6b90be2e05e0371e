-- Keys and bounds as they stand in words.
use Rattle.std.specs.Prelude.{ℕ, ◌+◌, ◌-◌, ◌%◌, ◌^◌, ◌==◌, cond, List, [], ◌∷◌, take, drop, slice_index, Option, Some, None}
use Rattle.oak_model.specs.KeyNumber.{key_number}
use Rattle.oak_model.specs.WordBytes.{bytes_of}

-- the length that a key word names
unfoldable pub key_length : ℕ → ℕ
key_length word = word % 2 ^ 16

-- the key whose word this is, where the words are those of its block
abbrev pub key_bytes : ℕ → List ℕ → List ℕ
key_bytes word words = take (key_length word) (bytes_of words)

-- the number of that key
unfoldable pub key_in : ℕ → List ℕ → ℕ
key_in word words = key_number (key_bytes word words)

-- the number of the least key, the one byte 0
abbrev pub least_number : ℕ
least_number = key_number (0 ∷ [])

-- A bound: its first word is the length for a low bound, and for a high bound the length plus one, or 0 where there is none. The words of the bytes follow.

-- the bytes of a low bound
abbrev pub low_bytes : List ℕ → List ℕ
low_bytes ws = take (slice_index ws 0) (bytes_of (drop 1 ws))

-- the bytes of a high bound, where there is one
abbrev pub high_bytes : List ℕ → Option (List ℕ)
high_bytes ws = cond (slice_index ws 0 == 0) None (Some (take (slice_index ws 0 - 1) (bytes_of (drop 1 ws))))

-- the number of a low bound
unfoldable pub low_number : List ℕ → ℕ
low_number ws = key_number (low_bytes ws)

-- 0 where there is no high bound, and else the number of its key plus one
unfoldable pub high_number : List ℕ → ℕ
high_number ws = cond (slice_index ws 0 == 0) 0 (key_number (take (slice_index ws 0 - 1) (bytes_of (drop 1 ws))) + 1)

-- the words of a high bound at the key that begins another range
abbrev pub high_from : List ℕ → List ℕ
high_from low = (slice_index low 0 + 1) ∷ drop 1 low
