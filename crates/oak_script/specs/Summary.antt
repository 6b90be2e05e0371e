-- The summary of the run of a workload.
use Rattle.std.specs.Prelude.{◌≡◌, ℕ, ◌+◌, ◌*◌, ◌<◌, ◌^◌, Bool, true, false, List, [], ◌∷◌, ◌++◌, length, slice_index, count_by, codes}
use Rattle.std.specs.Fmt.{decimal}
use Rattle.std.specs.Int.{w64, from_be_bytes}
use Rattle.std.specs.List.{AllByRecursion}
use Rattle.oak_model.specs.declared.classes.Class.TheVariants.{B16}
use Rattle.oak_model.specs.declared.replies.Pair.{Pair}
use Rattle.oak_model.specs.declared.replies.Wrote.TheVariants.{New, Over, Kept, Done, Removed, Absent, Full}
use Rattle.oak_model.specs.declared.replies.Reply.{Reply}
use Rattle.oak_model.specs.declared.replies.Reply.TheVariants.{Wrote, Value, Held, Gone, Unheld, Pairs}
use Rattle.oak_model.specs.declared.shapes.Usage.{Usage}
use Rattle.oak_model.specs.Class.{class_number}
use Rattle.oak_script.specs.Text.{line_end}

-- the call was refused
abbrev pub is_full : Reply → Bool
is_full (Wrote (New at)) = false
is_full (Wrote (Over at)) = false
is_full (Wrote (Kept at)) = false
is_full (Wrote (Done at)) = false
is_full (Wrote (Removed at)) = false
is_full (Wrote (Absent at)) = false
is_full (Wrote (Full lack)) = true
is_full (Value key value at) = false
is_full (Held at) = false
is_full Gone = false
is_full Unheld = false
is_full (Pairs pairs) = false

-- how many replies of all threads are `full`
abbrev pub fulls_of : List (List Reply) → ℕ
fulls_of [] = 0
fulls_of (ys ∷ more) = count_by is_full ys + fulls_of more

-- a value of eight bytes as a number, the highest byte first
abbrev pub pair_number : Pair → ℕ
pair_number p = from_be_bytes w64 p.value

-- the sum of the values as numbers
abbrev pub values_sum : List Pair → ℕ
values_sum [] = 0
values_sum (p ∷ ps) = pair_number p + values_sum ps

-- each value has eight bytes, and their sum is a number of 64 bits
pub record AreNumbers (finals : List Pair) : Type 0 where
  pub long : AllByRecursion (λ (p : Pair). length p.value ≡ 8) finals
  pub small : values_sum finals < 2 ^ 64

-- `WORD N`
abbrev pub number_line : List ℕ → ℕ → List ℕ
number_line word n = word ++ (codes " " ++ (decimal n ++ line_end))

-- the words of the command, with its three numbers
abbrev pub gen_line : ℕ → ℕ → ℕ → List ℕ
gen_line calls threads start = codes "gen " ++ (decimal calls ++ (codes " " ++ (decimal threads ++ (codes " " ++ (decimal start ++ line_end)))))

-- the command, and how many calls were made, how many of them refused, how many keys are there at the end, what their values
-- are together, and how many blocks of 16 bytes are taken
abbrev pub summary_text : ℕ → ℕ → ℕ → List (List Reply) → List Pair → Usage → List ℕ
summary_text calls threads start replies finals usage =
    gen_line calls threads start
    ++ (number_line (codes "calls") (calls * threads)
    ++ (number_line (codes "full") (fulls_of replies)
    ++ (number_line (codes "keys") (length finals)
    ++ (number_line (codes "sum") (values_sum finals)
    ++ number_line (codes "b16") (slice_index usage.blocks (class_number B16))))))
