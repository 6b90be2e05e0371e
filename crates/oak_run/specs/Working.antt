-- A thread behind some of its calls: first is the state of its pass before the first, v the present one.
use Rattle.std.specs.Prelude.{◌≡◌, ℕ, ◌≤◌, List, length}
use Rattle.std.specs.BTreeMap.{BTreeMap}
use Rattle.oak_model.specs.declared.replies.Reply.{Reply}
use Rattle.oak_model.specs.Counts.{Each}
use Rattle.oak_model.specs.Limits.{Sizes}
use Rattle.oak_core.specs.declared.states.KeyedWrite.{KeyedWrite}
use Rattle.oak_core.specs.declared.states.PassState.{PassState}
use Rattle.oak_script.specs.declared.scripts.Call.{Call}
use Rattle.oak_run.specs.declared.looks.HeldView.{HeldView}
use Rattle.oak_run.specs.HeldNames.{KeepsViews}
use Rattle.oak_run.specs.LoneCalls.{LoneCalls}
use Rattle.oak_run.specs.MapThreads.{ThreadFits}
use Rattle.oak_run.specs.Views.{names_of, no_names}

-- the turns fit, the views that are held are what the names stand for, and all writes are of these calls
pub record Working (z : Sizes) (first v : PassState) (holds : BTreeMap (List ℕ) HeldView) (calls : List Call) (replies : List Reply) : Type 0 where
  pub fits : ThreadFits z v calls replies
  pub keeps : KeepsViews z holds v (names_of no_names fits.turns)
  pub early : Each (λ (w : KeyedWrite). w.write.call ≤ length calls) v.knowledge.mine
  pub lone : LoneCalls z 1 first calls replies v
  pub numbers : v.numbers ≡ first.numbers
