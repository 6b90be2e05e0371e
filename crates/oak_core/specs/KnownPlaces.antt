-- What callers see of lessons: the place of a number among a key's writes, which is its place in every later history.
use Rattle.std.specs.Prelude.{◌≡◌, ℕ, ◌<◌, ◌≤◌, true, List, length}
use Rattle.oak_model.specs.Counts.{Has}
use Rattle.oak_model.specs.Key.{is_key}
use Rattle.oak_model.specs.KeyNumber.{key_number}
use Rattle.oak_model.specs.State.{State}
use Rattle.oak_model.specs.History.{place_of, state_at}
use Rattle.oak_core.specs.declared.closing.Closed.{Closed}
use Rattle.oak_core.specs.declared.states.Knowledge.{Knowledge}
use Rattle.oak_core.specs.declared.states.Lesson.{Lesson}
use Rattle.oak_core.specs.declared.states.PassState.{PassState}
use Rattle.oak_core.specs.Closing.{closed_history, closed_state}
use Rattle.oak_core.specs.PassState.{seen_of}
use Rattle.oak_core.specs.KeyHistories.{writes_of}
use Rattle.oak_core.specs.Learning.{reach_of, heard_of}

-- the number is known of the key, and its place is r: each write at or below it was seen, and no later one will be
pub record KnowsPlace (k at r : ℕ) (q : Knowledge) : Type 0 where
  pub lesson : Lesson
  pub there : Has lesson q.heard
  pub covers : at < reach_of lesson.taught k
  pub place : place_of (writes_of (heard_of k lesson)) at ≡ r

-- a later state knows each place that an earlier one knew
abbrev pub Remembers : Knowledge → Knowledge → Type 0
Remembers q q' = (k at r : ℕ) → KnowsPlace k at r q → KnowsPlace k at r q'

-- Between the two states the key was read: at the place of a number, which is not before what was seen at the first, it has the state s.
pub record ReadAt (k at : ℕ) (s : State) (v w : PassState) : Type 0 where
  pub place : ℕ
  pub known : KnowsPlace k at place w.knowledge
  pub from : length (seen_of k v.knowledge) ≤ place
  pub to : place ≤ length (seen_of k w.knowledge)
  pub state : state_at (writes_of (seen_of k w.knowledge)) place ≡ s

-- at a close each known place is the one in the closed history
abbrev pub PlacesStand : Closed → Type 0
PlacesStand c = (key : List ℕ) (at r : ℕ) → is_key key ≡ true → KnowsPlace (key_number key) at r (closed_state c).knowledge → place_of (closed_history c key) at ≡ r
