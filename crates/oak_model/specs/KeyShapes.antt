-- The sizes of a table for so many keys.
use Rattle.std.specs.Prelude.{ℕ, ◌+◌, ◌-◌, ◌*◌, ◌/◌, nat_le, nat_lt, [], ◌∷◌, if◌then◌else◌}
use Rattle.oak_model.specs.declared.limits.TheConstants.{DEFAULT_ENTRIES, GREATEST_ENTRIES}
use Rattle.oak_model.specs.declared.key_shapes.TheConstants.{FEW_KEYS}
use Rattle.oak_model.specs.Limits.{Sizes}

abbrev pub entries_for : ℕ → ℕ
entries_for count = if nat_le count FEW_KEYS then DEFAULT_ENTRIES else GREATEST_ENTRIES

-- one where all keys fit one chunk; else so many that if each was in use, any two neighbours with more than half as many entries as a chunk has, there would be more keys
abbrev pub chunks_for : ℕ → ℕ
chunks_for count = if nat_le count (entries_for count) then 1 else 2 * (count - 1) / (entries_for count / 2 + 1) + 2

-- so many where a key or a value of at most `longest` bytes may have more than `bytes`
abbrev pub if_longer : (bytes longest count : ℕ) → ℕ
if_longer bytes longest count = if nat_lt bytes longest then count else 0

abbrev pub sizes_for_keys : (count key_bytes value_bytes passes : ℕ) → Sizes
sizes_for_keys count key_bytes value_bytes passes = record {
  passes = passes;
  chunks = chunks_for count;
  entries = entries_for count;
  headers = count;
  blocks = (2 * count) ∷ (if_longer 16 key_bytes count + if_longer 16 value_bytes count) ∷ if_longer 64 value_bytes count ∷ if_longer 256 value_bytes count ∷ [];
}
