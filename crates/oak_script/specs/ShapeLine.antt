-- The `shape` line: the sizes of the table that a script asks for.
use Rattle.std.specs.Prelude.{◌≡◌, ℕ, ◌&&◌, Bool, true, false, List, [], ◌∷◌, length, map, codes}
use Rattle.std.specs.Fmt.{decimal}
use Rattle.oak_model.specs.declared.limits.TheConstants.{CLASSES}
use Rattle.oak_model.specs.declared.shapes.ShapeField.{ShapeField}
use Rattle.oak_model.specs.declared.shapes.ShapeField.TheVariants.{Chunks, Entries, Headers, Blocks}
use Rattle.oak_model.specs.Class.{classes}
use Rattle.oak_model.specs.Limits.{Sizes, IsInLimits}
use Rattle.oak_model.specs.Shape.{least, greatest}
use Rattle.oak_script.specs.Lines.{Words}
use Rattle.oak_script.specs.Numbers.{is_number_in}

-- the numbers behind `shape`: chunks, entries, headers, and the blocks of each class
abbrev pub size_words : Sizes → Words
size_words s = decimal s.chunks ∷ decimal s.entries ∷ decimal s.headers ∷ map decimal s.blocks

-- the number of passes stands in no line
abbrev pub shape_line : Sizes → Words
shape_line s = codes "shape" ∷ size_words s

-- the fields whose numbers they are
abbrev pub size_fields : List ShapeField
size_fields = Chunks ∷ Entries ∷ Headers ∷ map Blocks classes

-- the word is a number that the field may have
abbrev pub is_size : ShapeField → List ℕ → Bool
is_size f w = is_number_in (least f) (greatest f) w

-- one word for each field, and each a number that its field may have
abbrev pub are_sizes : List ShapeField → Words → Bool
are_sizes [] [] = true
are_sizes [] (w ∷ ws) = false
are_sizes (f ∷ fs) [] = false
are_sizes (f ∷ fs) (w ∷ ws) = is_size f w && are_sizes fs ws

-- sizes within the limits, with one number for each class
pub record SizesFit (s : Sizes) : Type 0 where
  pub limits : IsInLimits s
  pub classes : length s.blocks ≡ CLASSES
