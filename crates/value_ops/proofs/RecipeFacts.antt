-- A recipe leaves the length of the bytes.
use Rattle.std.proofs.Common.{◌≡◌, ℕ, ◌+◌, ◌%◌, ◌^◌, ◌++◌, nat_lt, if◌then◌else◌, List, length, take, drop, refl, ap, ◌∙◌, arith, w64, bit_xor}
use Rattle.std.specs.Int.{to_be_bytes, from_be_bytes}
use Rattle.std.proofs.lemmas.List.{length-append, length-drop, length-map, length-reverse}
use Rattle.std.proofs.lemmas.Bool.{ltb-false}
use Rattle.oak_model.specs.declared.recipes.RecipeKind.{RecipeKind}
use Rattle.oak_model.specs.declared.recipes.RecipeKind.TheVariants.{Add, Xor, Rev}
use Rattle.oak_model.specs.Recipe.{recipe_result}
use Rattle.oak_model.proofs.Counting.{test-cases}

recipe_long : (k : RecipeKind) (n : ℕ) (bs : List ℕ) → length (recipe_result k n bs) ≡ length bs
recipe_long Add n bs = let sum : List ℕ = to_be_bytes w64 ((from_be_bytes w64 (take 8 bs) + n) % 2 ^ 64) in test-cases (nat_lt (length bs) 8) (λ t. length (if t then bs else sum ++ drop 8 bs) ≡ length bs)
    (λ _. refl) (λ no. let wide = ltb-false (length bs) 8 no in let e = length-append sum (drop 8 bs) in let d = length-drop 8 bs in let eight : length sum ≡ 8 = refl in omega arith)
recipe_long Xor n bs = length-map bs (λ x. bit_xor x n)
recipe_long Rev n bs = length-reverse bs

pub made_long : (k : RecipeKind) (n : ℕ) (made was : List ℕ) → made ≡ recipe_result k n was → length made ≡ length was
made_long k n made was e = ap length e ∙ recipe_long k n was
