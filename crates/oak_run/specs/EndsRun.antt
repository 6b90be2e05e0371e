-- The end of a run.
use Rattle.std.specs.Prelude.{◌≡◌, ℕ, List, None}
use Rattle.oak_model.specs.declared.replies.Pair.{Pair}
use Rattle.oak_model.specs.Limits.{Sizes}
use Rattle.oak_core.specs.declared.closing.Closed.{Closed}
use Rattle.oak_core.specs.declared.states.PassState.{PassState}
use Rattle.oak_core.specs.AloneWords.{LeavesWords}
use Rattle.oak_core.specs.Closing.{FullsLacked, closed_key, closed_state, closed_words}
use Rattle.oak_core.specs.KnownPlaces.{PlacesStand}
use Rattle.oak_core.specs.PassState.{HoldsNothing}
use Rattle.oak_core.specs.Splitting.{Ends}
use Rattle.oak_map.specs.Closings.{UsesJustMap}
use Rattle.rebalance.specs.Calls.{Settles}
use Rattle.rebalance.specs.LoneCalls.{IsSettled}
use Rattle.scan_cursor.specs.declared.ways.Way.TheVariants.{Up}
use Rattle.scan_cursor.specs.Scanned.{HasScanned}
use Rattle.scan_cursor.specs.Views.{view_of}

-- Behind all calls the pass, in the state v, settled the map, then scanned all of it, and closed it, in the call with this number.
pub record EndsRun (z : Sizes) (call : ℕ) (v : PassState) (finals : List Pair) (closed : Closed) : Type 0 where
  pub settled : PassState
  pub settling : ℕ
  pub begun : ℕ
  pub ended : ℕ
  pub settled_in : settling ≡ call
  pub scanned_in : begun ≡ call
  pub key : closed_key closed ≡ z
  pub settles : Settles z settling v settled
  pub scan : HasScanned Up None None (view_of z begun settled) (view_of z ended (closed_state closed)) finals
  pub idle : HoldsNothing (closed_state closed)
  pub ends : Ends z (closed_words closed) (closed_state closed)
  pub noted : FullsLacked closed
  pub places : PlacesStand closed
  pub uses : (words : List ℕ) → LeavesWords words (closed_state closed) → IsSettled z words → UsesJustMap closed
