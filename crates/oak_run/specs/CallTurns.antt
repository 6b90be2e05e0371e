-- What a script's call does on the map: v is the state of its pass before, w the one behind.
use Rattle.std.specs.Prelude.{◌≡◌, ℕ, ◌+◌, List, [], ◌∷◌, Option, Result, Ok, Err, IfOk}
use Rattle.oak_model.specs.declared.memory.OutOfMemory.{OutOfMemory}
use Rattle.oak_model.specs.declared.replies.Reply.{Reply}
use Rattle.oak_model.specs.declared.replies.Reply.TheVariants as replies
use Rattle.oak_model.specs.declared.replies.Wrote.TheVariants.{Done}
use Rattle.oak_model.specs.Limits.{Sizes}
use Rattle.oak_core.specs.declared.states.PassState.{PassState}
use Rattle.oak_script.specs.declared.scripts.Call.{Call}
use Rattle.oak_script.specs.Text.{CanReply}
use Rattle.oak_run.specs.LoneCalls.{LoneCall}
use Rattle.oak_run.specs.MapTurns.{Turned}
use Rattle.oak_run.specs.Views.{Names}

-- the n-th call, with this reply, is a turn that fits where the names stand for these
pub record TurnsWith (z : Sizes) (n : ℕ) (names : Names) (c : Call) (y : Reply) (v w : PassState) : Type 0 where
  pub places : List ℕ → Option ℕ
  pub floors : List ℕ → Option ℕ
  pub turned : Turned z n names (record { call = c; reply = y; places = places; floors = floors }) v w

-- it is so whatever the names stand for
pub record CallTurned (z : Sizes) (n : ℕ) (c : Call) (y : Reply) (v w : PassState) : Type 0 where
  pub can : CanReply c y
  pub turns : (names : Names) → TurnsWith z n names c y v w
  pub lone : LoneCall z n c y v w

-- the reply tells a value that was read under a pin, or that there was no memory for its copy
abbrev pub TellsCopy : List ℕ → Result (List ℕ) OutOfMemory → ℕ → Result Reply OutOfMemory → Type 0
TellsCopy k (Ok value) at y = IfOk y (λ r. r ≡ replies.Value k value at)
TellsCopy k (Err e) at y = y ≡ Err e

-- how often a call with this reply computed
abbrev pub times_told : Reply → ℕ
times_told (replies.Wrote (Done at)) = 1
times_told y = 0

-- how often a thread with these replies computed
abbrev pub times_computed : List Reply → ℕ
times_computed [] = 0
times_computed (y ∷ ys) = times_told y + times_computed ys
