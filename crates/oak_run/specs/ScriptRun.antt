-- The run of a script's threads over a map that was closed behind it.
use Rattle.std.specs.Prelude.{◌≡◌, ℕ, List, [], ◌∷◌, map}
use Rattle.std.specs.List.{AllByRecursion}
use Rattle.oak_model.specs.declared.replies.Pair.{Pair}
use Rattle.oak_model.specs.declared.replies.Reply.{Reply}
use Rattle.oak_model.specs.Limits.{Sizes}
use Rattle.oak_core.specs.declared.closing.Closed.{Closed}
use Rattle.oak_core.specs.Closing.{FullsLacked, closed_key, closed_state, closed_words}
use Rattle.oak_core.specs.KnownPlaces.{PlacesStand}
use Rattle.oak_core.specs.Splitting.{Ends}
use Rattle.oak_script.specs.declared.scripts.Call.{Call}
use Rattle.oak_script.specs.declared.scripts.Script.{Script}
use Rattle.oak_run.specs.declared.worker.Answered.{Answered}
use Rattle.oak_run.specs.CallTurns.{times_computed}
use Rattle.oak_run.specs.ClosedRuns.{closing_of}
use Rattle.oak_run.specs.FullsExactly.{FullsExactly}
use Rattle.oak_run.specs.RunFits.{RunFits}
use Rattle.oak_run.specs.Workers.{replies_in}

-- The replies of all threads and the last pairs fit what the closed map shows, and each thread's recipe computed as often as
-- its replies tell. Each call that a pass noted as refused lacked what it names, the closed words meet the rule with the pass
-- that closed the map as the only one, and what it knows of places are places of the closed histories. Where there is one thread, each of its calls that puts was `Full` exactly by what the map lacked.
pub record RunsScript (script : Script) (said : List (List Reply)) (finals : List Pair) (computed : List ℕ) (closed : Closed) : Type 0 where
  pub fits : RunFits (closing_of closed) script.shape script.threads said finals
  pub counted : computed ≡ map times_computed said
  pub exact : (calls : List Call) (replies : List Reply) → script.threads ≡ calls ∷ [] → said ≡ replies ∷ [] → FullsExactly closed 1 calls replies
  pub noted : FullsLacked closed
  pub ends : Ends (closed_key closed) (closed_words closed) (closed_state closed)
  pub places : PlacesStand closed

-- the same of threads with these calls, over a map of this shape
pub record RunsThreads (shape : Sizes) (threads : List (List Call)) (answers : List Answered) (finals : List Pair) (closed : Closed) : Type 0 where
  pub fits : RunFits (closing_of closed) shape threads (replies_in answers) finals
  pub counted : AllByRecursion (λ (a : Answered). a.computed ≡ times_computed a.replies.items) answers
  pub exact : (calls : List Call) (replies : List Reply) → threads ≡ calls ∷ [] → replies_in answers ≡ replies ∷ [] → FullsExactly closed 1 calls replies
  pub noted : FullsLacked closed
  pub ends : Ends (closed_key closed) (closed_words closed) (closed_state closed)
  pub places : PlacesStand closed
