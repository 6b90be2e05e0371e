-- A call that computes nothing is never done so.
use Rattle.std.proofs.Common.{◌≡◌, ℕ, ◌+◌, Some, None, Result, Ok, Err, IfOk, refl}
use Rattle.std.specs.Prelude.{List}
use Rattle.oak_model.specs.declared.cells.CellCall.{CellCall}
use Rattle.oak_model.specs.declared.cells.CellCall.TheVariants.{Put, PutNew}
use Rattle.oak_model.specs.declared.cells.CellReply.TheVariants as replies
use Rattle.oak_model.specs.declared.replies.Wrote.{Wrote}
use Rattle.oak_model.specs.declared.replies.Wrote.TheVariants.{New, Over, Kept, Done, Removed, Absent, Full}
use Rattle.oak_model.specs.Cell.{reply_of}
use Rattle.oak_model.specs.State.{State}
use Rattle.oak_core.specs.declared.states.PassState.{PassState}
use Rattle.point_ops.specs.declared.halts.Halt.{Halt}
use Rattle.point_ops.specs.Counted.{Feeds, times_done}
use Rattle.point_ops.specs.Parts.{WroteFits}
use Rattle.point_ops.proofs.RecipesFed.{says_same}
use Rattle.value_ops.specs.Recipes.{SaysNothing}

-- no cell replies so to it
abbrev pub NeverDone : CellCall → Type 0
NeverDone ask = (s : State) → reply_of s ask ≡ replies.Done → ⊥

pub put_never : (value : List ℕ) → NeverDone (Put value)
put_never value None e = let f : replies.New ≡ replies.Done = e in absurd cc
put_never value (Some b) e = let f : replies.Over ≡ replies.Done = e in absurd cc

pub put_new_never : (value : List ℕ) → NeverDone (PutNew value)
put_new_never value None e = let f : replies.New ≡ replies.Done = e in absurd cc
put_new_never value (Some b) e = let f : replies.Kept ≡ replies.Done = e in absurd cc

module _ (call : ℕ) (key : List ℕ) (ask : CellCall) (v w : PassState) (never : NeverDone ask) where
  pub never_counted : (r : Result Wrote Halt) → IfOk r (λ x. WroteFits x call key ask v w) → 0 ≡ 0 + times_done r
  never_counted (Err why) f = refl
  never_counted (Ok (New at)) f = refl
  never_counted (Ok (Over at)) f = refl
  never_counted (Ok (Kept at)) f = refl
  never_counted (Ok (Done at)) f = absurd (never _ f.fits.answer)
  never_counted (Ok (Removed at)) f = refl
  never_counted (Ok (Absent at)) f = refl
  never_counted (Ok (Full lack)) f = refl

  pub never_fed : (r : Result Wrote Halt) → IfOk r (λ x. WroteFits x call key ask v w) → Feeds r key SaysNothing SaysNothing w
  never_fed (Err why) f = says_same SaysNothing
  never_fed (Ok (New at)) f = says_same SaysNothing
  never_fed (Ok (Over at)) f = says_same SaysNothing
  never_fed (Ok (Kept at)) f = says_same SaysNothing
  never_fed (Ok (Done at)) f = absurd (never _ f.fits.answer)
  never_fed (Ok (Removed at)) f = says_same SaysNothing
  never_fed (Ok (Absent at)) f = says_same SaysNothing
  never_fed (Ok (Full lack)) f = says_same SaysNothing
