-- Parts of a call in turn, of each of which the same holds. u is the state of the pass before the first of them, w the one behind the last.
use Rattle.std.specs.Prelude.{◌≡◌, ℕ, zero, suc}
use Rattle.oak_core.specs.declared.states.PassState.{PassState}
use Rattle.oak_core.specs.CallSteps.{MetMore}

-- so many parts, each of which begins where the one before it ended, and of each of which P holds
abbrev pub Repeats : (PassState → PassState → Type 0) → PassState → ℕ → PassState → Type 0
Repeats P u zero w = w ≡ u
Repeats P u (suc n) w = (v : PassState) × Repeats P u n v × P v w

-- a call from v to w has so many of them in it
pub record RepeatsIn (P : PassState → PassState → Type 0) (call n : ℕ) (v w : PassState) : Type 0 where
  pub from : PassState
  pub to : PassState
  pub begun : MetMore call v from
  pub parts : Repeats P from n to
  pub ended : MetMore call to w
