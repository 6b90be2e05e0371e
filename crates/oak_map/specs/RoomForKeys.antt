-- When a table that is made for so many keys has room for a call that puts.
use Rattle.std.specs.Prelude.{◌≡◌, ℕ, ◌<◌, ◌≤◌, List, length, Some, None}
use Rattle.oak_model.specs.declared.cells.CellCall.{CellCall}
use Rattle.oak_model.specs.declared.replies.Pair.{Pair}
use Rattle.oak_model.specs.declared.replies.Wrote.{Wrote}
use Rattle.oak_model.specs.Cell.{state_after}
use Rattle.oak_model.specs.Counts.{Every}
use Rattle.oak_model.specs.Key.{IsKey}
use Rattle.oak_model.specs.KeyShapes.{sizes_for_keys}
use Rattle.oak_model.specs.Limits.{Sizes}
use Rattle.oak_core.specs.declared.states.PassState.{PassState}
use Rattle.oak_core.specs.AloneWords.{RunsTo}
use Rattle.oak_core.specs.PassState.{HoldsNothing}
use Rattle.lone_counts.specs.LoneTable.{retired_in}
use Rattle.lone_counts.specs.Maps.{IsMapOf, last_states}
use Rattle.oak_map.specs.LonePuts.{PutAlone, PutsAlone}

-- The shape is that for so many keys of at most so many bytes, with values of at most so many. Those of the map are, before the call and behind it, where v is the state of the pass at the call.
pub record AreFew (z : Sizes) (key : List ℕ) (ask : CellCall) (v : PassState) : Type 0 where
  pub count : ℕ
  pub key_bytes : ℕ
  pub value_bytes : ℕ
  pub passes : ℕ
  pub sizes : z ≡ sizes_for_keys count key_bytes value_bytes passes
  -- the map before the call
  pub map : List Pair
  pub is_map : IsMapOf (last_states v) map
  pub short : Every (λ (p : Pair). (length p.key ≤ key_bytes) × (length p.value ≤ value_bytes)) map
  pub few : length map ≤ count
  -- the key of the call, and what it makes of it
  pub is_key : IsKey key
  pub key_short : length key ≤ key_bytes
  pub value_short : (value : List ℕ) → state_after (last_states v key) ask ≡ Some value → length value ≤ value_bytes
  pub fewer : last_states v key ≡ None → length map < count

-- What a call that puts tells of a pass that is alone, in the state v before the call and w behind it. It left words in which no header was retired, it holds nothing, and the answer is y.
pub record LonePut (z : Sizes) (key : List ℕ) (ask : CellCall) (v w : PassState) (y : Wrote) : Type 0 where
  pub before : List ℕ
  pub unworn : retired_in z before ≡ 0
  pub run : RunsTo (PutsAlone z key ask v y) before w
  pub replies : PutAlone y z key ask v w
  pub idle : HoldsNothing w
