-- What a recipe makes of bytes.
use Rattle.std.specs.Prelude.{◌≡◌, ℕ, ◌+◌, ◌%◌, ◌^◌, ◌≤◌, ◌++◌, nat_lt, if◌then◌else◌, List, map, reverse, length, take, drop, bit_xor, ⊤}
use Rattle.std.specs.Int.{w64, to_be_bytes, from_be_bytes}
use Rattle.oak_model.specs.declared.recipes.RecipeKind.{RecipeKind}
use Rattle.oak_model.specs.declared.recipes.RecipeKind.TheVariants.{Add, Xor, Rev}

-- n is added to the first eight bytes, read as a big-endian number, modulo 2^64; fewer bytes stay as they are
abbrev pub add_result : ℕ → List ℕ → List ℕ
add_result n b = if nat_lt (length b) 8 then b else to_be_bytes w64 ((from_be_bytes w64 (take 8 b) + n) % 2 ^ 64) ++ drop 8 b

abbrev pub recipe_result : RecipeKind → ℕ → List ℕ → List ℕ
recipe_result Add n b = add_result n b
recipe_result Xor n b = map (λ x. bit_xor x n) b
recipe_result Rev n b = reverse b

-- which numbers are arguments
abbrev pub IsArgument : RecipeKind → ℕ → Type 0
IsArgument Add n = ⊤
IsArgument Xor n = n ≤ 255
IsArgument Rev n = n ≡ 0
