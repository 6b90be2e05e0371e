-- The classes of blocks.
use Rattle.std.specs.Prelude.{ℕ, ◌+◌, ◌*◌, ◌^◌, ◌==◌, nat_le, Bool, false, List, [], ◌∷◌, length, count_by, Option, find}
use Rattle.std.specs.Option.{option_map_or}
use Rattle.oak_model.specs.declared.limits.TheConstants.{LEAST_BLOCK, CLASS_GROWTH}
use Rattle.oak_model.specs.declared.classes.Class.{Class}
use Rattle.oak_model.specs.declared.classes.Class.TheVariants.{B16, B64, B256, B1024}
use Rattle.oak_model.specs.declared.replies.Pair.{Pair}

-- from the least to the greatest
abbrev pub classes : List Class
classes = B16 ∷ B64 ∷ B256 ∷ B1024 ∷ []

abbrev pub class_number : Class → ℕ
class_number B16 = 0
class_number B64 = 1
class_number B256 = 2
class_number B1024 = 3

abbrev pub class_bytes : Class → ℕ
class_bytes c = LEAST_BLOCK * CLASS_GROWTH ^ class_number c

-- the least class that holds n bytes
abbrev pub class_of : ℕ → Option Class
class_of n = find (λ c. nat_le n (class_bytes c)) classes

-- whether n bytes have this class
abbrev pub has_class : Class → ℕ → Bool
has_class c n = option_map_or (λ d. class_number d == class_number c) (class_of n) false

-- how many blocks of a class a map takes: one for each key and one for each value of that class
abbrev pub blocks_of : List Pair → Class → ℕ
blocks_of m c = count_by (λ (p : Pair). has_class c (length p.key)) m + count_by (λ (p : Pair). has_class c (length p.value)) m
