-- What contracts see of a step's recipe, and what any recipe says of what it was fed.
use Rattle.std.specs.Prelude.{◌↔◌, ℕ, List}
use Rattle.oak_model.specs.declared.recipes.RecipeKind.{RecipeKind}

-- the kind and the argument that it was told, and how often it was applied
pub record Telling : Type 0 where
  pub kind : RecipeKind
  pub argument : ℕ
  pub calls : ℕ

-- What a recipe says of the bytes that it was fed is true of the same bytes as before.
abbrev pub SaysTheSame : (List ℕ → Type 0) → (List ℕ → Type 0) → Type 0
SaysTheSame was now = (bytes : List ℕ) → was bytes ↔ now bytes

-- It says nothing, which is true of any bytes.
abbrev pub SaysNothing : List ℕ → Type 0
SaysNothing bytes = Unit {0}
