-- The summary that is printed tells of the run what a workload's must.
use Rattle.std.proofs.Common.{◌≡◌, ℕ, List, refl}
use Rattle.oak_model.specs.declared.replies.Pair.{Pair}
use Rattle.oak_model.specs.declared.replies.Reply.{Reply}
use Rattle.oak_core.specs.declared.closing.Closed.{Closed}
use Rattle.oak_script.specs.Grammar.{default_sizes}
use Rattle.oak_script.specs.Summary.{summary_text}
use Rattle.oak_script.specs.Workload.{IsWorkload, drawn_threads, workload}
use Rattle.oak_run.specs.ClosedRuns.{closed_usage, closing_of}
use Rattle.oak_run.specs.ScriptRun.{RunsScript}
use Rattle.oak_run.specs.WorkloadFits.{WorkloadFits}
use Rattle.oak_run.proofs.DrawnRuns.{workload-fits}
use Rattle.oakmap.specs.declared.commands.Workload.{Workload}
use Rattle.oakmap.specs.LentRun.{SummaryCounts}

module _ (w : Workload) (is : IsWorkload w.calls w.threads w.start) (said : List (List Reply)) (finals : List Pair) (computed : List ℕ) (closed : Closed) (runs : RunsScript (workload w.calls w.threads w.start) said finals computed closed) where
  pub fits : WorkloadFits w.calls w.threads (drawn_threads w.calls w.start w.threads) said finals (closed_usage closed)
  fits = workload-fits (closing_of closed) (default_sizes w.threads) w.calls w.threads w.start said finals is runs.fits

  pub summary-counts : (text : List ℕ) → text ≡ summary_text w.calls w.threads w.start said finals (closed_usage closed) → SummaryCounts w closed text computed
  summary-counts text printed = (record { said = said; finals = finals; computed = computed; runs = runs; counts = fits; printed = printed }, refl)
