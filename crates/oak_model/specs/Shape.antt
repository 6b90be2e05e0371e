-- The first field of a shape that is outside its limits.
use Rattle.std.specs.Prelude.{◌≡◌, ℕ, ◌&&◌, not, nat_le, Bool, List, ◌∷◌, Option, find, map, slice_index}
use Rattle.oak_model.specs.declared.limits.TheConstants.{GREATEST_PASSES, GREATEST_CHUNKS, LEAST_ENTRIES, GREATEST_ENTRIES, GREATEST_HEADERS, GREATEST_BLOCKS}
use Rattle.oak_model.specs.declared.shapes.ShapeField.{ShapeField}
use Rattle.oak_model.specs.declared.shapes.ShapeField.TheVariants.{Passes, Chunks, Entries, Headers, Blocks}
use Rattle.oak_model.specs.Limits.{Sizes}
use Rattle.oak_model.specs.Class.{classes, class_number}

-- the least and the greatest number of a field
abbrev pub least : ShapeField → ℕ
least Passes = 1
least Chunks = 1
least Entries = LEAST_ENTRIES
least Headers = 1
least (Blocks c) = 0

abbrev pub greatest : ShapeField → ℕ
greatest Passes = GREATEST_PASSES
greatest Chunks = GREATEST_CHUNKS
greatest Entries = GREATEST_ENTRIES
greatest Headers = GREATEST_HEADERS
greatest (Blocks c) = slice_index GREATEST_BLOCKS (class_number c)

abbrev pub in_limits : ShapeField × ℕ → Bool
in_limits f = nat_le (least f.0) f.1 && nat_le f.1 (greatest f.0)

-- these are the least and the greatest number of the field
abbrev pub HasLimits : ShapeField → ℕ → ℕ → Type 0
HasLimits f low high = (least f ≡ low) × (greatest f ≡ high)

-- the fields with their numbers, in the order of the arguments of `Shape::make`
abbrev pub fields : Sizes → List (ShapeField × ℕ)
fields s =
    (Passes, s.passes) ∷ (Chunks, s.chunks) ∷ (Entries, s.entries) ∷ (Headers, s.headers)
    ∷ map (λ c. (Blocks c, slice_index s.blocks (class_number c))) classes

abbrev pub first_bad_field : Sizes → Option (ShapeField × ℕ)
first_bad_field s = find (λ f. not (in_limits f)) (fields s)
