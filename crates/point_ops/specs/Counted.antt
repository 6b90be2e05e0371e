-- How often a call computed, and of which bytes.
use Rattle.std.specs.Prelude.{◌≡◌, ◌-◌, ℕ, List, Result, Ok, Err, Some, length}
use Rattle.oak_model.specs.declared.replies.Wrote.{Wrote}
use Rattle.oak_model.specs.declared.replies.Wrote.TheVariants.{New, Over, Kept, Done, Removed, Absent, Full}
use Rattle.oak_model.specs.History.{state_at}
use Rattle.oak_model.specs.KeyNumber.{key_number}
use Rattle.oak_model.specs.State.{State}
use Rattle.oak_core.specs.declared.states.PassState.{PassState}
use Rattle.oak_core.specs.KeyHistories.{state_behind, writes_of}
use Rattle.oak_core.specs.PassState.{seen_of}
use Rattle.value_ops.specs.Recipes.{SaysTheSame}
use Rattle.point_ops.specs.declared.halts.Halt.{Halt}

-- once where it is done, and else not
abbrev pub times_done : Result Wrote Halt → ℕ
times_done (Ok (Done at)) = 1
times_done (Ok (New at)) = 0
times_done (Ok (Over at)) = 0
times_done (Ok (Kept at)) = 0
times_done (Ok (Removed at)) = 0
times_done (Ok (Absent at)) = 0
times_done (Ok (Full lack)) = 0
times_done (Err why) = 0

-- the state of the key right before the last write of it that the pass has seen
abbrev pub state_replaced : List ℕ → PassState → State
state_replaced key w = state_at (writes_of (seen_of (key_number key) w.knowledge)) (length (seen_of (key_number key) w.knowledge) - 1)

-- The key held bytes right before that write, and what a recipe says of the bytes that it was fed is true of them.
pub record FedReplaced (key : List ℕ) (says : List ℕ → Type 0) (w : PassState) : Type 0 where
  pub bytes : List ℕ
  pub held : state_replaced key w ≡ Some bytes
  pub said : says bytes

-- Where the call is done, that write is its own, and the recipe was fed the bytes that the key held before it; else the recipe says what it said.
abbrev pub Feeds : Result Wrote Halt → List ℕ → (was now : List ℕ → Type 0) → PassState → Type 0
Feeds (Ok (Done at)) key was now w = FedReplaced key now w
Feeds (Ok (New at)) key was now w = SaysTheSame was now
Feeds (Ok (Over at)) key was now w = SaysTheSame was now
Feeds (Ok (Kept at)) key was now w = SaysTheSame was now
Feeds (Ok (Removed at)) key was now w = SaysTheSame was now
Feeds (Ok (Absent at)) key was now w = SaysTheSame was now
Feeds (Ok (Full lack)) key was now w = SaysTheSame was now
Feeds (Err why) key was now w = SaysTheSame was now

-- The key held bytes behind all that the pass had seen of it, and what a recipe says of the bytes that it was fed is true of them.
pub record FedLast (key : List ℕ) (says : List ℕ → Type 0) (v : PassState) : Type 0 where
  pub bytes : List ℕ
  pub held : state_behind (seen_of (key_number key) v.knowledge) ≡ Some bytes
  pub said : says bytes

-- to a pass that is alone, and that had seen all of the key at the call
abbrev pub FeedsAlone : Result Wrote Halt → List ℕ → (List ℕ → Type 0) → PassState → Type 0
FeedsAlone (Ok (Done at)) key now v = FedLast key now v
FeedsAlone (Ok (New at)) key now v = Unit {0}
FeedsAlone (Ok (Over at)) key now v = Unit {0}
FeedsAlone (Ok (Kept at)) key now v = Unit {0}
FeedsAlone (Ok (Removed at)) key now v = Unit {0}
FeedsAlone (Ok (Absent at)) key now v = Unit {0}
FeedsAlone (Ok (Full lack)) key now v = Unit {0}
FeedsAlone (Err why) key now v = Unit {0}
