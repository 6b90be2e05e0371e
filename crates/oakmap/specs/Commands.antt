-- The commands that the words behind the program's name give.
use Rattle.std.specs.Prelude.{ℕ, ◌-◌, ◌*◌, ◌&&◌, nat_le, Bool, if◌then◌else◌, List, [], ◌∷◌, codes, Option, Some, None, ⊤}
use Rattle.std.specs.Str.{bytes_eq}
use Rattle.std.specs.Str.Parse.{digits_value}
use Rattle.oak_script.specs.declared.limits.TheConstants.{DRAWN_NUMBERS, GREATEST_CALLS, GREATEST_DRAWS, GREATEST_THREADS}
use Rattle.oak_script.specs.Numbers.{is_number_in}
use Rattle.oak_script.specs.Workload.{IsWorkload}
use Rattle.oakmap.specs.declared.commands.Command.{Command}
use Rattle.oakmap.specs.declared.commands.Command.TheVariants.{Run, Gen}

-- the words are numbers within their limits, and the calls of all threads together are no more than a script may have
abbrev pub are_gen : List ℕ → List ℕ → List ℕ → Bool
are_gen n t s =
    is_number_in 1 GREATEST_DRAWS n
    && (is_number_in 1 GREATEST_THREADS t
    && (is_number_in 0 (DRAWN_NUMBERS - 1) s
    && nat_le (digits_value 10 n * digits_value 10 t) GREATEST_CALLS))

-- the workload of three words
abbrev pub gen_of : List ℕ → List ℕ → List ℕ → Option Command
gen_of n t s =
    if are_gen n t s
    then Some (Gen (record { calls = digits_value 10 n; threads = digits_value 10 t; start = digits_value 10 s }))
    else None

-- `run`, or `gen` with its three numbers; all other words give none
abbrev pub command_of : List (List ℕ) → Option Command
command_of [] = None
command_of (w ∷ []) = if bytes_eq w (codes "run") then Some Run else None
command_of (w ∷ n ∷ []) = None
command_of (w ∷ n ∷ t ∷ []) = None
command_of (w ∷ n ∷ t ∷ s ∷ []) = if bytes_eq w (codes "gen") then gen_of n t s else None
command_of (w ∷ n ∷ t ∷ s ∷ x ∷ more) = None

-- a workload that is asked for is one
abbrev pub IsLawful : Command → Type 0
IsLawful Run = ⊤
IsLawful (Gen w) = IsWorkload w.calls w.threads w.start
