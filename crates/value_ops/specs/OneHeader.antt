-- A pass that has one header or one block, and nothing else.
use Rattle.std.specs.Prelude.{◌≡◌, ℕ, true, [], ◌∷◌, None}
use Rattle.oak_model.specs.declared.classes.Class.{Class}
use Rattle.oak_model.specs.Class.{class_number}
use Rattle.arena_core.specs.declared.blocks.HeldBlock.{HeldBlock}
use Rattle.arena_core.specs.declared.blocks.HeldBlocks.{HeldBlocks}
use Rattle.arena_core.specs.Blocks.{is_block}
use Rattle.header_core.specs.declared.holds.HeldHeader.{HeldHeader}
use Rattle.header_core.specs.declared.holds.HeaderHolds.{HeaderHolds}
use Rattle.oak_core.specs.declared.states.PassState.{PassState}

-- it holds this header alone, and has no pin
pub record IsOneHeader (h : ℕ) (a : HeaderHolds) : Type 0 where
  pub header : HeldHeader
  pub alone : a ≡ record { pin = None; held = header ∷ [] }
  pub is : header.header ≡ h

-- it holds this block alone
pub record IsOneBlock (c : Class) (b : ℕ) (a : HeldBlocks) : Type 0 where
  pub block : HeldBlock
  pub alone : a ≡ record { held = block ∷ [] }
  pub is : is_block (class_number c) b block ≡ true

-- its numbers and what it holds of rooms are as before
pub record KeepsElse (v w : PassState) : Type 0 where
  pub numbers : w.numbers ≡ v.numbers
  pub rooms : w.rooms ≡ v.rooms
