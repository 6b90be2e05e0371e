-- The workers of a run, each with a pass of its own: before their threads run, and behind them.
use Rattle.std.specs.Prelude.{◌≡◌, ℕ, ◌≤◌, List, [], length, map, Option, IfSome, slice_index_or}
use Rattle.std.specs.List.{AllByRecursion}
use Rattle.std.specs.Global.{Vec}
use Rattle.oak_model.specs.declared.replies.Reply.{Reply}
use Rattle.oak_model.specs.Limits.{Sizes}
use Rattle.oak_core.specs.declared.states.PassState.{PassState}
use Rattle.oak_map.specs.declared.map.MapPass.{MapPass}
use Rattle.oak_map.specs.declared.map.OakMap.{OakMap}
use Rattle.oak_map.specs.Maps.{IsReady, call_of, sizes, state}
use Rattle.oak_script.specs.declared.limits.TheConstants.{GREATEST_CALLS}
use Rattle.oak_script.specs.declared.scripts.Call.{Call}
use Rattle.oak_run.specs.declared.worker.Answered.{Answered}
use Rattle.oak_run.specs.Arguments.{HasArguments}
use Rattle.oak_run.specs.CallTurns.{times_computed}
use Rattle.oak_run.specs.MapThreads.{ThreadFits}

-- the calls that a thread may be given
pub record CanRun (calls : List Call) : Type 0 where
  pub few : length calls ≤ GREATEST_CALLS
  pub arguments : AllByRecursion HasArguments calls

-- those of the thread at the place
abbrev pub calls_at : List (Vec Call) → ℕ → List Call
calls_at threads i = slice_index_or (map (λ (v : Vec Call). v.items) threads) i []

-- a pass before the first call of its thread
pub record IsFresh {R : Type 0} (m : OakMap R) (p : MapPass) : Type 0 where
  pub ready : IsReady m p
  pub unused : call_of p ≡ 0
  pub unwritten : (state p).knowledge.mine ≡ []

-- what a thread answered fits, where v is the state of its pass behind its calls
pub record AnswersThread (z : Sizes) (v : PassState) (calls : List Call) (a : Answered) : Type 0 where
  pub fits : ThreadFits z v calls a.replies.items
  pub counted : a.computed ≡ times_computed a.replies.items

-- The thread with these calls ran, from the pass p to the pass q. Where memory was lacking it answered nothing.
pub record HasRun {R : Type 0} (m : OakMap R) (calls : List Call) (p q : MapPass) (answered : Option Answered) : Type 0 where
  pub ready : IsReady m q
  pub numbers : (state q).numbers ≡ (state p).numbers
  pub answers : IfSome answered (AnswersThread (sizes m) (state q) calls)

-- a thread that ran: its calls, its pass before and behind, and what it answered
pub record ThreadRun : Type 0 where
  pub calls : List Call
  pub before : MapPass
  pub now : MapPass
  pub answered : Option Answered

-- threads with these calls ran
pub record AllRan {R : Type 0} (m : OakMap R) (threads : List (List Call)) (before now : List MapPass) (answered : List (Option Answered)) : Type 0 where
  pub runs : List ThreadRun
  pub calls_are : map (λ (r : ThreadRun). r.calls) runs ≡ threads
  pub before_are : map (λ (r : ThreadRun). r.before) runs ≡ before
  pub now_are : map (λ (r : ThreadRun). r.now) runs ≡ now
  pub answered_are : map (λ (r : ThreadRun). r.answered) runs ≡ answered
  pub each : AllByRecursion (λ (r : ThreadRun). HasRun m r.calls r.before r.now r.answered) runs

abbrev pub replies_in : List Answered → List (List Reply)
replies_in answers = map (λ (a : Answered). a.replies.items) answers
