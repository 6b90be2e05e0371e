-- No thread of a script has more calls than a script.
use Rattle.std.proofs.Common.{ℕ, ◌≤◌, List, [], ◌∷◌, length, arith}
use Rattle.std.specs.List.{AllByRecursion}
use Rattle.std.proofs.lemmas.List.{length-append}
use Rattle.oak_script.specs.declared.limits.TheConstants.{GREATEST_CALLS}
use Rattle.oak_script.specs.declared.scripts.Call.{Call}
use Rattle.oak_script.specs.declared.scripts.Script.{Script}
use Rattle.oak_script.specs.Grammar.{IsScript, all_calls}

few-in : (threads : List (List Call)) (n : ℕ) → length (all_calls threads) ≤ n → AllByRecursion (λ (calls : List Call). length calls ≤ n) threads
few-in [] n few = tt
few-in (t ∷ ts) n few = (omega (arith, length-append t (all_calls ts)), few-in ts n (omega (arith, length-append t (all_calls ts))))

pub each_few : (s : Script) → IsScript s → AllByRecursion (λ (calls : List Call). length calls ≤ GREATEST_CALLS) s.threads
each_few s is = few-in s.threads GREATEST_CALLS is.few
