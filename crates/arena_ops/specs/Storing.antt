-- Blocks that have bytes as their first ones. v is the state of the pass at the call, w the one at its end.
use Rattle.std.specs.Prelude.{◌≡◌, ℕ, List, take, length, Some}
use Rattle.oak_model.specs.declared.classes.Class.{Class}
use Rattle.oak_model.specs.Class.{class_number, class_of}
use Rattle.oak_model.specs.Limits.{Sizes}
use Rattle.oak_model.specs.WordBytes.{bytes_of}
use Rattle.arena_core.specs.declared.blocks.HeldBlocks.{HeldBlocks}
use Rattle.arena_core.specs.Blocks.{HoldsBlock, without, words_held}
use Rattle.oak_core.specs.declared.states.PassState.{PassState}
use Rattle.oak_core.specs.AloneWords.{Runs}
use Rattle.oak_core.specs.CallSteps.{Stands}
use Rattle.oak_core.specs.Finding.{IsOf}
use Rattle.oak_core.specs.QuietSteps.{MetOnly}
use Rattle.arena_ops.specs.PutWords.{PutsBytesIn}

-- the block is one that the pass holds, of the class that the bytes have, and its first bytes are these
pub record HasBytes (z : Sizes) (c : Class) (b : ℕ) (bytes : List ℕ) (v : PassState) : Type 0 where
  pub block : HoldsBlock z (class_number c) b v.blocks
  pub bytes_are : take (length bytes) (bytes_of (words_held (class_number c) b v.blocks.held)) ≡ bytes
  pub fits : class_of (length bytes) ≡ Some c

-- what is held once the block is given up
abbrev pub given : Class → ℕ → HeldBlocks → HeldBlocks
given c b a = record a { held = without (class_number c) b a.held }

-- the block has the bytes, and the pass holds and knows what it did; what it met is at words in front of the rooms, and it took no block
pub record StoresBytes (z : Sizes) (call : ℕ) (c : Class) (b : ℕ) (bytes : List ℕ) (v w : PassState) : Type 0 where
  pub has : HasBytes z c b bytes w
  pub stands : Stands call v w
  pub own : MetOnly (IsOf z call) v w
  pub blocks : given c b w.blocks ≡ given c b v.blocks
  pub headers : w.headers ≡ v.headers
  pub rooms : w.rooms ≡ v.rooms
  -- to a pass that is alone
  pub still : Runs (PutsBytesIn z c b bytes) v w
