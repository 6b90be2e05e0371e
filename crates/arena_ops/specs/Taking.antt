-- What the calls on blocks do.
use Rattle.std.specs.Prelude.{◌≡◌, ℕ, ◌+◌, ◌-◌, ◌/◌, ◌%◌, ◌^◌, ◌<◌, List, ◌∷◌, map, Some, bit_and, bit_or, slice_set, slice_index}
use Rattle.std.specs.Int.{bit_at}
use Rattle.oak_model.specs.declared.classes.Class.{Class}
use Rattle.oak_model.specs.Class.{class_number}
use Rattle.oak_model.specs.Limits.{Sizes}
use Rattle.oak_model.specs.Counts.{total, Each}
use Rattle.arena_core.specs.Arena.{at_bytes, blocks}
use Rattle.arena_core.specs.Blocks.{holds, block_from, without, rewritten}
use Rattle.oak_core.specs.declared.states.Finding.{Finding}
use Rattle.oak_core.specs.declared.states.PassState.{PassState}
use Rattle.oak_core.specs.declared.states.Taken.{Taken}
use Rattle.oak_core.specs.Memory.{Spot, in_arena, index, memory, write}
use Rattle.oak_core.specs.Finding.{IsBefore, IsOf, IsLoadOf, grown}
use Rattle.oak_core.specs.PassState.{blocks_of, rooms_held}
use Rattle.oak_core.specs.ArenaCalls.{of_pass, store_step, Sets, Clears, Writes}
use Rattle.oak_core.specs.EntryOwners.{all_others}
use Rattle.oak_core.specs.AloneWords.{Runs}
use Rattle.oak_core.specs.Step.{on_arena, table_after}
use Rattle.oak_core.specs.TableState.{TableState}
use Rattle.arena_core.specs.ArenaStep.{clear_bit, bit_of}
use Rattle.arena_ops.specs.Looking.{bit_spot, IsSetIn, AllSet, Looked}

-- how many owners the block has: passes that hold it, headers, and entries
abbrev pub owners : Sizes → Class → ℕ → TableState → ℕ
owners z c b s = total (holds (class_number c) b) (map blocks_of s.states) + all_others z (memory z s.words) (map rooms_held s.states) (class_number c) b

-- the bit of the block was clear, and is set; no other word changed
abbrev pub SetsBit : Sizes → Class → ℕ → List ℕ → List ℕ → Type 0
SetsBit z c b before after = (bit_at ((memory z before).arena.bits (class_number c) (b / 64)) (b % 64) ≡ 0) × (after ≡ slice_set before (index z (bit_spot c b)) (bit_or (slice_index before (index z (bit_spot c b))) (bit_of b)))

-- the bit of the block was set, and is clear; no other word changed
abbrev pub ClearsBit : Sizes → Class → ℕ → List ℕ → List ℕ → Type 0
ClearsBit z c b before after = IsSetIn z c b before × (after ≡ slice_set before (index z (bit_spot c b)) (bit_and (slice_index before (index z (bit_spot c b))) (2 ^ 64 - 1 - bit_of b)))

-- the word became x; no other word changed
abbrev pub SetsWord : Sizes → Spot → ℕ → List ℕ → List ℕ → Type 0
SetsWord z p x before after = after ≡ slice_set before (index z p) x

-- a step that took a block took this one
abbrev pub TookThis : Class → ℕ → Finding → Type 0
TookThis c b f = (t : Taken) → f.took ≡ Some t → t ≡ record { class = c; block = b }

-- The step that set the bit of the block, after others that only looked, found it clear. No owner had the block at that moment. The pass holds it now, with the words that it had then, and else only met more, all in the call, and took no other block.
pub record Takes (z : Sizes) (call : ℕ) (c : Class) (b : ℕ) (v w : PassState) : Type 0 where
  pub inside : b < blocks z (class_number c)
  pub before : List Finding
  pub looks : Each (IsLoadOf z call) before
  pub number : ℕ
  pub clear : bit_at number (b % 64) ≡ 0
  pub told : Sets z call c b (grown before v) number w
  pub free : owners z c b told.table ≡ 0
  pub unheld : holds (class_number c) b v.blocks ≡ 0
  -- to a pass that is alone
  pub still : Runs (SetsBit z c b) v w
  pub more : List Finding
  pub calls : Each (IsBefore z call) more
  pub own : Each (TookThis c b) more
  pub after : w ≡ record (grown more v) { blocks = record v.blocks { held = block_from (memory z told.table.words).arena.bytes c b ∷ v.blocks.held } }

-- the pass only met more, and the bit of each block of the class was found set
abbrev pub FindsNone : Sizes → ℕ → Class → PassState → PassState → Type 0
FindsNone z call c v w = Looked z call c v w (λ b. Unit {0})

-- each bit of the class is set, in words that stay
abbrev pub NoneClear : Sizes → Class → PassState → PassState → Type 0
NoneClear z c v w = Runs (AllSet z c (λ b. Unit {0})) v w

-- The one step that cleared the bit of the block. The pass holds the block no more, and else only met that step. In the table that the step left no owner has the block.
pub record Gives (z : Sizes) (call : ℕ) (c : Class) (b : ℕ) (v w : PassState) : Type 0 where
  pub number : ℕ
  pub told : Clears z call c b v number w
  pub free : owners z c b (table_after z call (on_arena (clear_bit c b)) told.seat v told.table) ≡ 0
  -- to a pass that is alone
  pub still : Runs (ClearsBit z c b) v w
  pub more : List Finding
  pub calls : Each (IsOf z call) more
  pub after : w ≡ record (grown more v) { blocks = record v.blocks { held = without (class_number c) b v.blocks.held } }

-- The one step that stored x to word k of the block. The word is x, for the pass and in the table that the step left, of which it changed that word alone.
pub record Stores (z : Sizes) (call : ℕ) (c : Class) (b k x : ℕ) (v w : PassState) : Type 0 where
  pub told : Writes z call of_pass c b k x v w
  pub alone : memory z (table_after z call (store_step of_pass c b k x) told.1.seat v told.1.table).words ≡ write (memory z told.1.table.words) (in_arena (at_bytes (class_number c) b k)) x
  -- to a pass that is alone
  pub still : Runs (SetsWord z (in_arena (at_bytes (class_number c) b k)) x) v w
  pub more : List Finding
  pub calls : Each (IsOf z call) more
  pub after : w ≡ record (grown more v) { blocks = record v.blocks { held = rewritten (class_number c) b k x v.blocks.held } }
