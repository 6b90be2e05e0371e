-- A workload that is drawn by a recurrence: upserts that count how often each key was drawn.
use Rattle.std.specs.Prelude.{ℕ, zero, suc, ◌+◌, ◌*◌, ◌/◌, ◌%◌, ◌<◌, ◌≤◌, List, [], ◌∷◌}
use Rattle.oak_model.specs.declared.recipes.RecipeKind.TheVariants.{Add}
use Rattle.oak_script.specs.declared.limits.TheConstants.{GREATEST_THREADS, GREATEST_CALLS, GREATEST_DRAWS, DRAWN_NUMBERS}
use Rattle.oak_script.specs.declared.scripts.Call.{Call}
use Rattle.oak_script.specs.declared.scripts.Call.TheVariants.{Upsert}
use Rattle.oak_script.specs.declared.scripts.Script.{Script}
use Rattle.oak_script.specs.Grammar.{default_sizes}

-- so many threads may make so many calls each, and begin at this number
pub record IsWorkload (calls threads start : ℕ) : Type 0 where
  pub some_calls : 0 < calls
  pub few_calls : calls ≤ GREATEST_DRAWS
  pub some_threads : 0 < threads
  pub few_threads : threads ≤ GREATEST_THREADS
  pub few : calls * threads ≤ GREATEST_CALLS
  pub begins : start < DRAWN_NUMBERS

-- the number that is drawn behind x
abbrev pub next_number : ℕ → ℕ
next_number x = (25173 * x + 13849) % DRAWN_NUMBERS

-- the two bytes, highest first, of the number divided by 64
abbrev pub drawn_key : ℕ → List ℕ
drawn_key x = x / 64 / 256 ∷ x / 64 % 256 ∷ []

-- the number one in eight bytes
abbrev pub one_value : List ℕ
one_value = 0 ∷ 0 ∷ 0 ∷ 0 ∷ 0 ∷ 0 ∷ 0 ∷ 1 ∷ []

-- the key's value becomes one, or one more
abbrev pub drawn_call : ℕ → Call
drawn_call x = Upsert (drawn_key x) one_value Add 1

-- n calls: before each the number behind the last one is drawn, first the one behind x
abbrev pub drawn_calls : ℕ → ℕ → List Call
drawn_calls x zero = []
drawn_calls x (suc n) = drawn_call (next_number x) ∷ drawn_calls (next_number x) n

-- threads of so many calls: the first draws behind this number, each other behind the number that follows
abbrev pub drawn_threads : ℕ → ℕ → ℕ → List (List Call)
drawn_threads calls start zero = []
drawn_threads calls start (suc n) = drawn_calls (start % DRAWN_NUMBERS) calls ∷ drawn_threads calls (suc start) n

-- the workload as a script over a table of the default sizes
abbrev pub workload : ℕ → ℕ → ℕ → Script
workload calls threads start = record { shape = default_sizes threads; threads = drawn_threads calls start threads }
