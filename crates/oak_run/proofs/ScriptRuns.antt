-- A run of threads as a run of their script.
use Rattle.std.proofs.Common.{◌≡◌, ℕ, List, [], ◌∷◌, length, map, get_or, refl, ap, sym, ◌∙◌, subst, arith}
use Rattle.std.proofs.Common.{Vec, Global}
use mathlib.Core.List.{map-map}
use Rattle.std.specs.List.{AllByRecursion}
use Rattle.oak_model.specs.declared.replies.Pair.{Pair}
use Rattle.oak_model.specs.declared.replies.Reply.{Reply}
use Rattle.oak_core.specs.declared.closing.Closed.{Closed}
use Rattle.oak_script.specs.declared.scripts.Call.{Call}
use Rattle.oak_script.specs.declared.scripts.Script.{Script}
use Rattle.oak_script.specs.Grammar.{IsScript}
use Rattle.oak_run.specs.declared.worker.Answered.{Answered}
use Rattle.oak_run.specs.CallTurns.{times_computed}
use Rattle.oak_run.specs.ClosedRuns.{closing_of}
use Rattle.oak_run.specs.RunFits.{RunFits}
use Rattle.oak_run.specs.ScriptRun.{RunsScript, RunsThreads}
use Rattle.oak_run.specs.Workers.{CanRun, replies_in}
use Rattle.oak_run.proofs.RanLaws.{of_map}
use Rattle.oak_run.proofs.ScriptArguments.{each_can_run}

times_are : (answers : List Answered) → AllByRecursion (λ (a : Answered). a.computed ≡ times_computed a.replies.items) answers → map (λ (a : Answered). a.computed) answers ≡ map times_computed (replies_in answers)
times_are [] each = refl
times_are (a ∷ answers) each = λ i. each.0 i ∷ times_are answers each.1 i

pub runs_script : (script : Script) (answers : List Answered) (finals : List Pair) (closed : Closed) (said : List (Vec Reply Global)) (computed : List ℕ) → RunsThreads script.shape script.threads answers finals closed
    → said ≡ map (λ (a : Answered). a.replies) answers → computed ≡ map (λ (a : Answered). a.computed) answers → RunsScript script (map (λ (v : Vec Reply Global). v.items) said) finals computed closed
runs_script script answers finals closed said computed runs said_are computed_are = record {
  fits = subst (λ (ys : List (List Reply)). RunFits (closing_of closed) script.shape script.threads ys finals) (sym same) runs.fits;
  counted = computed_are ∙ (times_are answers runs.counted ∙ ap (map times_computed) (sym same));
  exact = λ calls replies calls_are replies_are. runs.exact calls replies calls_are (sym same ∙ replies_are);
  noted = runs.noted;
  ends = runs.ends;
  places = runs.places;
}
  where
    same : map (λ (v : Vec Reply Global). v.items) said ≡ replies_in answers
    same = ap (map (λ (v : Vec Reply Global). v.items)) said_are ∙ map-map (λ (v : Vec Reply Global). v.items) (λ (a : Answered). a.replies) answers

-- ---- the threads of a script, as they stand in memory

pub all_threads : (script : Script) → IsScript script → (vs : List (Vec Call Global)) → map (λ (v : Vec Call Global). v.items) vs ≡ script.threads → AllByRecursion (λ (v : Vec Call Global). CanRun v.items) vs
all_threads script is vs same = of_map (λ (v : Vec Call Global). v.items) CanRun vs (subst (AllByRecursion CanRun) (sym same) (each_can_run script is))

-- where there is one alone
pub only_one : (vs : List (Vec Call Global)) (v : Vec Call Global) → length vs ≡ 1 → v ≡ get_or vs 0 v → vs ≡ v ∷ []
only_one [] v one is = absurd (omega arith)
only_one (x ∷ []) v one is = ap (λ (y : Vec Call Global). y ∷ []) (sym is)
only_one (x ∷ y ∷ vs) v one is = absurd (omega arith)

pub one_can_run : (vs : List (Vec Call Global)) (v : Vec Call Global) → vs ≡ v ∷ [] → AllByRecursion (λ (u : Vec Call Global). CanRun u.items) vs → CanRun v.items
one_can_run vs v same all = (subst (AllByRecursion (λ (u : Vec Call Global). CanRun u.items)) same all).0
