-- What an upsert fed its recipe, to a pass that is alone.
use Rattle.std.proofs.Common.{ℕ, List, Ok}
use Rattle.oak_model.specs.declared.cells.CellCall.{CellCall}
use Rattle.oak_model.specs.declared.replies.Wrote.{Wrote}
use Rattle.oak_model.specs.declared.replies.Wrote.TheVariants.{New, Over, Kept, Done, Removed, Absent, Full}
use Rattle.oak_model.specs.Limits.{Sizes}
use Rattle.oak_core.specs.declared.states.PassState.{PassState}
use Rattle.oak_core.specs.PassState.{IsAlone}
use Rattle.point_ops.specs.Counted.{Feeds, FeedsAlone}
use Rattle.point_ops.proofs.RecipesFed.{fed_last}
use Rattle.oak_map.specs.LonePuts.{PutAlone}
use Rattle.oak_map.specs.Replying.{PutFits}

pub put_feeds_alone : (y : Wrote) (z : Sizes) (call : ℕ) (key : List ℕ) (ask : CellCall) (was now : List ℕ → Type 0) (u w : PassState) → IsAlone u → PutFits y z call key ask u w → (IsAlone u → PutAlone y z key ask u w) → Feeds (Ok y) key was now w → FeedsAlone (Ok y) key now u
put_feeds_alone (New at) z call key ask was now u w alone r a f = tt
put_feeds_alone (Over at) z call key ask was now u w alone r a f = tt
put_feeds_alone (Kept at) z call key ask was now u w alone r a f = tt
put_feeds_alone (Done at) z call key ask was now u w alone r a f = fed_last z call key at now u w alone (a alone).begun r.holds.numbers r.goes.seen (a alone).ended r.mine f
put_feeds_alone (Removed at) z call key ask was now u w alone r a f = tt
put_feeds_alone (Absent at) z call key ask was now u w alone r a f = tt
put_feeds_alone (Full lack) z call key ask was now u w alone r a f = tt
