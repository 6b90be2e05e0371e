-- The map that a table holds, as plain pairs.
use Rattle.std.specs.Prelude.{◌≡◌, ℕ, cond, List, Some, None}
use mathlib.Core.Option.{some}
use lib.ListN.{get_elem?}
use Rattle.oak_model.specs.declared.replies.Pair.{Pair}
use Rattle.oak_model.specs.Counts.{one_if, total}
use Rattle.oak_model.specs.Key.{is_key, same_key}
use Rattle.oak_model.specs.KeyNumber.{key_number}
use Rattle.oak_model.specs.State.{State}
use Rattle.oak_core.specs.declared.states.PassState.{PassState}
use Rattle.oak_core.specs.KeyHistories.{state_behind}
use Rattle.oak_core.specs.PassState.{seen_of}

-- the state of each key behind the last write of it that the pass has seen; what is no key has none
abbrev pub last_states : PassState → List ℕ → State
last_states v q = cond (is_key q) (state_behind (seen_of (key_number q) v.knowledge)) None

-- The pairs are what the keys hold, in whatever order: each pair is its key's state, and each key that holds something has one.
pub record IsMapOf (state : List ℕ → State) (m : List Pair) : Type 0 where
  pub each : (i : ℕ) (p : Pair) → get_elem? m i ≡ some p → state p.key ≡ Some p.value
  pub once : (q b : List ℕ) → state q ≡ Some b → total (λ (p : Pair). one_if (same_key q p.key)) m ≡ 1
