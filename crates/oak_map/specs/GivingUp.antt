-- Calls that give up, since other passes were at work where they looked. u is the state of the pass at the call, w the one at its end; v and w are those of one try.
use Rattle.std.specs.Prelude.{◌≡◌, ◌⊎◌, ℕ, List}
use Rattle.oak_model.specs.declared.cells.CellCall.{CellCall}
use Rattle.oak_model.specs.Limits.{Sizes}
use Rattle.oak_core.specs.declared.states.PassState.{PassState}
use Rattle.oak_core.specs.AloneWords.{Runs}
use Rattle.oak_core.specs.QuietSteps.{Quiet}
use Rattle.chunk_ops.specs.AddsAlone.{Never}
use Rattle.chunk_ops.specs.RoomPins.{HadMoment}
use Rattle.value_ops.specs.declared.views.NoRead.TheVariants as no_read
use Rattle.value_ops.specs.Pinning.{MeetsMore}
use Rattle.value_ops.specs.Views.{KnowsView, NotRead, Viewed}
use Rattle.point_ops.specs.declared.halts.Halt.{Halt}
use Rattle.point_ops.specs.declared.halts.Halt.TheVariants.{Busy, Moved}
use Rattle.point_ops.specs.Halting.{Halts}
use Rattle.point_ops.specs.Replies.{Refuses}
use Rattle.rebalance.specs.Repeating.{Repeats}

-- The call gave up after so many tries, of each of which P holds. It made no write, and its pass holds what it held. To a pass that is alone it never comes.
pub record TriesInVain (P : PassState → PassState → Type 0) (call looks : ℕ) (u w : PassState) : Type 0 where
  pub tries : Repeats P u looks w
  pub refused : Refuses call u w
  pub alone : Runs Never u w

-- a try of a call on a key was halted: another pass was at work on the key, or moved its room
pub record IsHalted (z : Sizes) (call : ℕ) (key : List ℕ) (ask : CellCall) (v w : PassState) : Type 0 where
  pub why : Halt
  pub halts : Halts why z call key ask v w
  pub either : (why ≡ Busy) ⊎ (why ≡ Moved)
  pub refused : Refuses call v w

-- a try to lend the value of a view's life found its header locked
abbrev pub IsLocked : Sizes → ℕ → Viewed → PassState → PassState → Type 0
IsLocked z call x v w = NotRead z call x no_read.Busy v w

-- A look at the life of a view gave up after so many such tries. Its pass only met more, by loads, pins and their undoing alone, and knows the view still. To a pass that is alone it never comes.
pub record GivesUpLife (z : Sizes) (call : ℕ) (x : Viewed) (looks : ℕ) (u w : PassState) : Type 0 where
  pub tries : Repeats (IsLocked z call x) u looks w
  pub meets : MeetsMore z call u w
  pub quiet : Quiet u w
  pub knows : KnowsView z x w
  pub begun : HadMoment z u
  pub alone : Runs Never u w
