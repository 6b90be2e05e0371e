-- The threads of a script can run: its recipes have arguments that they may have, and no thread has more calls than a script.
use Rattle.std.proofs.Common.{ℕ, ◌≤◌, List, [], ◌∷◌, length, arith}
use Rattle.std.specs.List.{AllByRecursion}
use Rattle.oak_model.specs.declared.recipes.RecipeKind.{RecipeKind}
use Rattle.oak_model.specs.declared.recipes.RecipeKind.TheVariants.{Add, Xor, Rev}
use Rattle.oak_model.specs.Recipe.{IsArgument}
use Rattle.oak_script.specs.declared.scripts.Call.{Call}
use Rattle.oak_script.specs.declared.scripts.Call.TheVariants.{Put, Get, PutNew, Compute, Upsert, Remove, Hold, Look, Scan, Back}
use Rattle.oak_script.specs.declared.limits.TheConstants.{GREATEST_CALLS}
use Rattle.oak_script.specs.declared.scripts.Script.{Script}
use Rattle.oak_script.specs.Grammar.{ArgumentFits, CallFits, IsScript}
use Rattle.oak_script.proofs.ThreadSizes.{each_few}
use Rattle.oak_run.specs.Arguments.{HasArguments}
use Rattle.oak_run.specs.Workers.{CanRun}

is_argument : (r : RecipeKind) (n : ℕ) → ArgumentFits r n → IsArgument r n
is_argument Add n fits = tt
is_argument Xor n fits = omega (arith, fits)
is_argument Rev n fits = fits

has_arguments : (c : Call) → CallFits c → HasArguments c
has_arguments (Put k v) fits = tt
has_arguments (Get k) fits = tt
has_arguments (PutNew k v) fits = tt
has_arguments (Compute k r n) fits = is_argument r n fits.1
has_arguments (Upsert k v r n) fits = is_argument r n fits.2
has_arguments (Remove k) fits = tt
has_arguments (Hold a k) fits = tt
has_arguments (Look a) fits = tt
has_arguments (Scan low high) fits = tt
has_arguments (Back low high) fits = tt

pub each_argument : (cs : List Call) → AllByRecursion CallFits cs → AllByRecursion HasArguments cs
each_argument [] each = tt
each_argument (c ∷ cs) each = (has_arguments c each.0, each_argument cs each.1)

pub each_can_run : (s : Script) → IsScript s → AllByRecursion CanRun s.threads
each_can_run s is = both s.threads (each_few s is) is.each
  where
    both : (threads : List (List Call)) → AllByRecursion (λ (cs : List Call). length cs ≤ GREATEST_CALLS) threads → AllByRecursion (AllByRecursion CallFits) threads → AllByRecursion CanRun threads
    both [] few fits = tt
    both (cs ∷ threads) few fits = (record { few = few.0; arguments = each_argument cs fits.0 }, both threads few.1 fits.1)
