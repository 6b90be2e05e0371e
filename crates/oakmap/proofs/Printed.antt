-- The text that is printed has the places of the closed map's histories.
use Rattle.std.proofs.Common.{◌≡◌, ℕ, List, ◌∙◌, refl, sym, ap}
use Rattle.oak_model.specs.declared.replies.Pair.{Pair}
use Rattle.oak_model.specs.declared.replies.Reply.{Reply}
use Rattle.oak_core.specs.declared.closing.Closed.{Closed}
use Rattle.oak_script.specs.declared.scripts.Script.{Script}
use Rattle.oak_script.specs.Places.{Places, written_upto}
use Rattle.oak_script.specs.Text.{run_text}
use Rattle.oak_run.specs.ClosedRuns.{closed_usage, closing_of}
use Rattle.oak_run.specs.ScriptRun.{RunsScript}
use Rattle.oak_run.proofs.PlaceLaws.{same-places}
use Rattle.oakmap.specs.LentRun.{PrintsCounts}
use Rattle.oakmap.specs.RunOf.{PrintsRun, places_in}

module _ (script : Script) (said : List (List Reply)) (finals : List Pair) (computed : List ℕ) (closed : Closed) (runs : RunsScript script said finals computed closed) where
  places : (k : List ℕ) (at : ℕ) → places_in closed k at ≡ written_upto script.threads said k at
  places k at =
      let fits = runs.fits in
      same-places (closing_of closed).history fits.threads script.threads said fits.of_calls fits.of_replies fits.replies.once k at

  pub prints-run : (text : List ℕ) → text ≡ run_text (written_upto script.threads said) script.threads said finals (closed_usage closed) script.shape → PrintsRun script closed text
  prints-run text is =
      let same : places_in closed ≡ written_upto script.threads said = λ i k at. places k at i in
      record {
        said = said;
        finals = finals;
        computed = computed;
        runs = runs;
        printed = is ∙ ap (λ (p : Places). run_text p script.threads said finals (closed_usage closed) script.shape) (sym same);
      }

  pub prints-counts : (text : List ℕ) → text ≡ run_text (written_upto script.threads said) script.threads said finals (closed_usage closed) script.shape → PrintsCounts script closed text computed
  unfolding prints-run
  prints-counts text is = (prints-run text is, refl)
