-- How keys, values, bounds, names and recipes are spelled.
use Rattle.std.specs.Prelude.{ℕ, ◌&&◌, ◌||◌, nat_le, Bool, List, [], ◌∷◌, length, codes, Option, Some, None}
use Rattle.std.specs.List.{list_all}
use Rattle.std.specs.Fmt.{decimal}
use Rattle.hex.specs.Hex.{encode_lower}
use Rattle.oak_model.specs.declared.recipes.RecipeKind.{RecipeKind}
use Rattle.oak_model.specs.declared.recipes.RecipeKind.TheVariants.{Add, Xor, Rev}
use Rattle.oak_script.specs.declared.limits.TheConstants.{GREATEST_SCRIPT_NAME}
use Rattle.oak_script.specs.Lines.{Words}

-- a value in lower-case digits, the empty one as `-`
abbrev pub value_word : List ℕ → List ℕ
value_word [] = codes "-"
value_word (b ∷ bs) = encode_lower (b ∷ bs)

-- a bound in lower-case digits, none as `-`
abbrev pub bound_word : Option (List ℕ) → List ℕ
bound_word None = codes "-"
bound_word (Some key) = encode_lower key

abbrev pub recipe_words : RecipeKind → ℕ → Words
recipe_words Add n = codes "add" ∷ decimal n ∷ []
recipe_words Xor n = codes "xor" ∷ encode_lower (n ∷ []) ∷ []
recipe_words Rev n = codes "rev" ∷ []

-- a name's bytes are small letters and decimal digits
abbrev pub is_name_byte : ℕ → Bool
is_name_byte b = (nat_le 97 b && nat_le b 122) || (nat_le 48 b && nat_le b 57)

abbrev pub is_name : List ℕ → Bool
is_name w = (nat_le 1 (length w) && nat_le (length w) GREATEST_SCRIPT_NAME) && list_all is_name_byte w
