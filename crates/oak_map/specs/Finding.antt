-- What the searches of the calls that lend find: v is the state of the pass at the search, w the one at its end.
use Rattle.std.specs.Prelude.{ℕ, List}
use Rattle.oak_model.specs.Limits.{Sizes}
use Rattle.oak_core.specs.declared.states.PassState.{PassState}
use Rattle.oak_core.specs.AloneWords.{Runs}
use Rattle.oak_core.specs.QuietSteps.{Quiet}
use Rattle.chunk_ops.specs.RoomPins.{HadMoment}
use Rattle.value_ops.specs.Pinning.{AddsPin, MeetsMore, PinsLive}
use Rattle.value_ops.specs.Views.{Viewed}
use Rattle.point_ops.specs.declared.lives.Pinned.{Pinned}
use Rattle.point_ops.specs.declared.lives.Pinned.TheVariants.{Absent, Value}
use Rattle.point_ops.specs.Pins.{PinsKey}
use Rattle.oak_map.specs.Lending.{FindsAbsent}

-- the key was found absent, or the header of its value was pinned
abbrev pub FindsValue : Pinned → Sizes → ℕ → List ℕ → PassState → PassState → Type 0
FindsValue (Absent at) z call key v w = FindsAbsent z call key at v w
FindsValue (Value p) z call key v w = PinsKey z call key p.header p.generation v w

-- the header of the view was pinned, after tries that only met more, and all steps were loads, pins and their undoing
pub record PinsView (z : Sizes) (call : ℕ) (x : Viewed) (v w : PassState) : Type 0 where
  pub tried : PassState
  pub tries : MeetsMore z call v tried
  pub pins : PinsLive z call x.header x.generation tried w
  pub quiet : Quiet v w
  pub begun : HadMoment z v
  pub alone : Runs (AddsPin z x.header x.generation) v w
