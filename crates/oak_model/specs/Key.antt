-- Which bytes are keys, and their order.
use Rattle.std.specs.Prelude.{◌≡◌, ℕ, ◌<◌, ◌≤◌, ◌&&◌, nat_le, nat_lt, Bool, true, List, [], ◌∷◌, length, slice_index}
use Rattle.std.specs.Ordering.{nat_cmp, is_eq}
use Rattle.std.specs.declared.cmp.Ordering.{Ordering}
use Rattle.std.specs.declared.cmp.Ordering.TheVariants.{Less}
use Rattle.std.specs.Cmp.Lexicographic.{slice_cmp}
use Rattle.oak_model.specs.declared.limits.TheConstants.{GREATEST_KEY}

-- a list of bytes that is neither empty nor too long
abbrev pub IsKey : List ℕ → Type 0
IsKey bytes = (0 < length bytes) × (length bytes ≤ GREATEST_KEY)

abbrev pub AreBytes : List ℕ → Type 0
AreBytes b = (i : ℕ) → slice_index b i < 256

abbrev pub are_bytes : List ℕ → Bool
are_bytes [] = true
are_bytes (x ∷ xs) = nat_lt x 256 && are_bytes xs

-- whether a list of numbers is a key: `IsKey`, and each number is a byte. Only of such lists does the number of a key say which it is.
abbrev pub is_key : List ℕ → Bool
is_key k = nat_lt 0 (length k) && (nat_le (length k) GREATEST_KEY && are_bytes k)

-- at the first byte in which they differ the smaller unsigned number comes first, and a proper prefix comes first
abbrev pub key_cmp : List ℕ → List ℕ → Ordering
key_cmp a b = slice_cmp nat_cmp a b

abbrev pub IsKeyBefore : List ℕ → List ℕ → Type 0
IsKeyBefore a b = key_cmp a b ≡ Less

-- two keys are one
abbrev pub same_key : List ℕ → List ℕ → Bool
same_key a b = is_eq (key_cmp a b)
