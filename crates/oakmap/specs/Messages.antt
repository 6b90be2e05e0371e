-- The lines that a program that does not print a run says instead.
use Rattle.std.specs.Prelude.{ℕ, ◌++◌, List, [], ◌∷◌, codes}
use Rattle.std.specs.Fmt.{decimal}
use Rattle.oak_script.specs.declared.faults.What.{What}
use Rattle.oak_script.specs.Told.{what_text}

abbrev pub usage_line : List ℕ
usage_line = codes "oakmap: usage: oakmap run | gen N T S" ++ 10 ∷ []

abbrev pub long_line : List ℕ
long_line = codes "oakmap: input is longer than 16777216 bytes" ++ 10 ∷ []

abbrev pub read_fault_line : List ℕ
read_fault_line = codes "oakmap: read fault" ++ 10 ∷ []

abbrev pub script_fault_line : ℕ → What → List ℕ
script_fault_line line what = codes "oakmap: line " ++ (decimal line ++ (codes ": " ++ (what_text what ++ (10 ∷ []))))
