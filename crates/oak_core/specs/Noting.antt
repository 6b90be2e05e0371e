-- What noting a call tells.
use Rattle.std.specs.Prelude.{◌≡◌, ℕ, Some}
use Rattle.oak_model.specs.declared.replies.Lack.{Lack}
use Rattle.oak_model.specs.Limits.{Sizes}
use Rattle.oak_core.specs.declared.states.PassState.{PassState}
use Rattle.oak_core.specs.Memory.{at_given}
use Rattle.oak_core.specs.Finding.{finding}
use Rattle.oak_core.specs.Lack.{full_state}
use Rattle.oak_core.specs.Step.{note_full, Told}

-- word 0 was loaded, in one step; what was found is met, the call is noted with what it lacks, and all else is as it was
pub record Notes (z : Sizes) (call : ℕ) (lack : Lack) (v w : PassState) : Type 0 where
  pub began : ℕ
  pub number : ℕ
  pub told : Told z call (note_full lack began) v number w
  pub after : w ≡ full_state call lack (finding z call at_given (Some number) number told.table.words v) v
