-- What the table of a pass that is alone lacks, by its map alone.
use Rattle.std.specs.Prelude.{ℕ, ◌+◌, ◌==◌, ◌&&◌, nat_lt, not, Bool, if◌then◌else◌, List, length, Option, Some, None}
use Rattle.oak_model.specs.declared.classes.Class.{Class}
use Rattle.oak_model.specs.declared.replies.Lack.{Lack}
use Rattle.oak_model.specs.declared.replies.Lack.TheVariants.{Block, Header}
use Rattle.oak_model.specs.declared.replies.Pair.{Pair}
use Rattle.oak_model.specs.Class.{blocks_of, class_number, class_of, has_class}
use Rattle.oak_model.specs.Counts.{one_if}
use Rattle.oak_model.specs.Limits.{Sizes}
use Rattle.arena_core.specs.Arena.{blocks}

-- there are fewer than n blocks of the class besides those of the map
abbrev pub blocks_lack : Sizes → List Pair → Class → ℕ → Bool
blocks_lack z m c n = nat_lt (blocks z (class_number c)) (blocks_of m c + n)

-- each header has a key of the map, or is retired
abbrev pub headers_lack : Sizes → List Pair → ℕ → Bool
headers_lack z m retired = length m + retired == z.headers

-- a block of the class, where the test says so of it, or what else
abbrev pub block_or : Option Class → (Class → Bool) → Option Lack → Option Lack
block_or None lacks other = other
block_or (Some c) lacks other = if lacks c then Some (Block c) else other

-- What a new key lacks: a block for its value, else a header, else a block for the key, besides the value's where both have one class.
abbrev pub new_lack : Sizes → List Pair → ℕ → List ℕ → List ℕ → Option Lack
new_lack z m retired key value =
    block_or (class_of (length value)) (λ c. blocks_lack z m c 1)
    (if headers_lack z m retired then Some Header
    else block_or (class_of (length key)) (λ c. blocks_lack z m c (1 + one_if (has_class c (length value)))) None)

-- What a value lacks that takes the place of another: a block, where it has not the other's class.
abbrev pub over_lack : Sizes → List Pair → List ℕ → List ℕ → Option Lack
over_lack z m old value = block_or (class_of (length value)) (λ c. not (has_class c (length old)) && blocks_lack z m c 1) None
