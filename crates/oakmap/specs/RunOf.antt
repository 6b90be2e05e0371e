-- The texts of runs, each beside the map that was closed behind it.
use Rattle.std.specs.Prelude.{◌≡◌, ℕ, List}
use Rattle.oak_model.specs.declared.replies.Pair.{Pair}
use Rattle.oak_model.specs.declared.replies.Reply.{Reply}
use Rattle.oak_model.specs.History.{place_of}
use Rattle.oak_core.specs.declared.closing.Closed.{Closed}
use Rattle.oak_script.specs.declared.scripts.Script.{Script}
use Rattle.oak_script.specs.Grammar.{Spells}
use Rattle.oak_script.specs.Places.{Places}
use Rattle.oak_script.specs.Summary.{summary_text}
use Rattle.oak_script.specs.Text.{run_text}
use Rattle.oak_script.specs.Workload.{drawn_threads, workload}
use Rattle.oak_run.specs.ClosedRuns.{closed_usage, closing_of}
use Rattle.oak_run.specs.ScriptRun.{RunsScript}
use Rattle.oak_run.specs.WorkloadFits.{WorkloadFits}
use Rattle.oakmap.specs.declared.commands.Workload.{Workload}

-- for a key and a number, how many writes of the key's history in this map have a stamp of at most the number
abbrev pub places_in : Closed → Places
places_in closed k at = place_of ((closing_of closed).history k) at

-- The text is that of a run of this script over the map that was closed behind it: of replies and last pairs that fit it, with
-- the places of its histories, and with what is used of it.
pub record PrintsRun (script : Script) (closed : Closed) (text : List ℕ) : Type 0 where
  pub said : List (List Reply)
  pub finals : List Pair
  pub computed : List ℕ
  pub runs : RunsScript script said finals computed closed
  pub printed : text ≡ run_text (places_in closed) script.threads said finals (closed_usage closed) script.shape

-- the input is a script's text, and the text is that of a run of this script over the closed map
pub record IsRunOf (closed : Closed) (input text : List ℕ) : Type 0 where
  pub script : Script
  pub spelled : Spells input script
  pub run : PrintsRun script closed text

-- The text is the summary of a run of this workload over the map that was closed behind it. What is counted are the replies, the
-- last pairs and the used blocks of this run, which fit it, and they come to what a workload's must.
pub record PrintsSummary (w : Workload) (closed : Closed) (text : List ℕ) : Type 0 where
  pub said : List (List Reply)
  pub finals : List Pair
  pub computed : List ℕ
  pub runs : RunsScript (workload w.calls w.threads w.start) said finals computed closed
  pub counts : WorkloadFits w.calls w.threads (drawn_threads w.calls w.start w.threads) said finals (closed_usage closed)
  pub printed : text ≡ summary_text w.calls w.threads w.start said finals (closed_usage closed)
