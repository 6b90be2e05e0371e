-- What a look at a key gets. v is the state of the pass at the call, w the one at its end.
use Rattle.std.specs.Prelude.{◌≡◌, ℕ, List, None}
use Rattle.oak_model.specs.declared.cells.CellCall.TheVariants.{Get}
use Rattle.oak_model.specs.declared.cells.CellReply.TheVariants as replies
use Rattle.oak_model.specs.KeyNumber.{key_number}
use Rattle.oak_model.specs.Limits.{Sizes}
use Rattle.oak_core.specs.declared.states.PassState.{PassState}
use Rattle.oak_core.specs.KeyHistories.{home_behind}
use Rattle.oak_core.specs.KeyReads.{home_of}
use Rattle.oak_core.specs.LastReads.{ReadsLast}
use Rattle.oak_core.specs.PassState.{seen_of}
use Rattle.value_ops.specs.PinnedValues.{ReadsLife}
use Rattle.value_ops.specs.Views.{KnowsView, LoadedView, Viewed}
use Rattle.point_ops.specs.Replies.{RepliesAt}
use Rattle.point_ops.specs.declared.gets.Got.{Got}
use Rattle.point_ops.specs.declared.gets.Got.TheVariants.{Absent, View}

-- the key was read in a life, of which the view is, and the pass knows the view
pub record SeesView (z : Sizes) (key : List ℕ) (x : Viewed) (v w : PassState) : Type 0 where
  pub key_is : x.key ≡ key
  pub bytes : List ℕ
  pub life : ReadsLife x.header x.generation key x.at bytes v w
  pub knows : KnowsView z x w
  pub loaded : LoadedView x w

-- what the part of the call got that is made under the pin of the room
abbrev pub Gets : Got → Sizes → List ℕ → PassState → PassState → Type 0
Gets (Absent at) z key v w = ReadsLast (key_number key) at None v w
Gets (View x) z key v w = SeesView z key x v w

-- The reply is the cell's with the bytes that the key held, at the place of the view's number. The view is of the last life that the pass has seen of the key, and can be read by it.
pub record ViewFits (z : Sizes) (call : ℕ) (key : List ℕ) (x : Viewed) (v w : PassState) : Type 0 where
  pub key_is : x.key ≡ key
  pub bytes : List ℕ
  pub replies : RepliesAt call key Get (replies.Holds bytes) x.at v w
  pub life : home_behind (seen_of (key_number key) w.knowledge) ≡ home_of x.header x.generation
  pub knows : KnowsView z x w
  pub loaded : LoadedView x w

abbrev pub GotFits : Got → Sizes → ℕ → List ℕ → PassState → PassState → Type 0
GotFits (Absent at) z call key v w = RepliesAt call key Get replies.Absent at v w
GotFits (View x) z call key v w = ViewFits z call key x v w
