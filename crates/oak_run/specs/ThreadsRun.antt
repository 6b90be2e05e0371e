-- The threads of a run, each at the end of its calls, and the pass into which theirs were joined.
use Rattle.std.specs.Prelude.{◌≡◌, ℕ, suc, List, [], ◌∷◌, map, ⊤}
use Rattle.std.specs.List.{AllByRecursion}
use Rattle.oak_model.specs.declared.replies.Reply.{Reply}
use Rattle.oak_model.specs.Limits.{Sizes}
use Rattle.oak_core.specs.declared.states.PassState.{PassState}
use Rattle.oak_core.specs.PassState.{both_state}
use Rattle.oak_script.specs.declared.scripts.Call.{Call}
use Rattle.oak_run.specs.declared.worker.Answered.{Answered}
use Rattle.oak_run.specs.CallTurns.{times_computed}
use Rattle.oak_run.specs.MapThreads.{ThreadFits}
use Rattle.oak_run.specs.Workers.{replies_in}

-- the end of a thread: the state of its pass behind its calls, the calls and the replies
pub record ThreadEnd : Type 0 where
  pub state : PassState
  pub calls : List Call
  pub replies : List Reply

-- they were joined into the first one after the other
abbrev pub joined_all : PassState → List ThreadEnd → PassState
joined_all first [] = first
joined_all first (t ∷ ts) = joined_all (both_state first t.state) ts

-- from this number on each has the next one, and no pass was joined into it
abbrev pub AreNumbered : ℕ → List ThreadEnd → Type 0
AreNumbered n [] = ⊤
AreNumbered n (t ∷ ts) = (t.state.numbers.number ≡ n) × (t.state.numbers.joined ≡ []) × AreNumbered (suc n) ts

-- what each thread's calls came to
abbrev pub EachFits : Sizes → List ThreadEnd → Type 0
EachFits z [] = ⊤
EachFits z (t ∷ ts) = ThreadFits z t.state t.calls t.replies × EachFits z ts

-- All threads of a script, over a map of these sizes, came back to the pass in the state w, each at the end of its calls, with these answers.
pub record AllCame (z : Sizes) (w : PassState) (threads : List (List Call)) (answers : List Answered) : Type 0 where
  pub first : PassState
  pub ends : List ThreadEnd
  pub joined : w ≡ joined_all first ends
  pub number : first.numbers.number ≡ 0
  pub joined_before : first.numbers.joined ≡ []
  pub unwritten : first.knowledge.mine ≡ []
  pub numbered : AreNumbered 1 ends
  pub fit : EachFits z ends
  pub calls_are : map (λ (t : ThreadEnd). t.calls) ends ≡ threads
  pub replies_are : map (λ (t : ThreadEnd). t.replies) ends ≡ replies_in answers
  pub counted : AllByRecursion (λ (a : Answered). a.computed ≡ times_computed a.replies.items) answers
