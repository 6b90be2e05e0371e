-- The blocks that a pass holds.
use Rattle.std.specs.Prelude.{ℕ, ◌*◌, ◌/◌, ◌%◌, ◌^◌, List, [], ◌∷◌, ◌++◌, slice_index}
use Rattle.oak_model.specs.Counts.{one_at, total, rows}
use Rattle.oak_model.specs.Kept.{KeptWord}
use Rattle.oak_model.specs.Class.{class_number}
use Rattle.arena_core.specs.declared.blocks.HeldBlock.{HeldBlock}
use Rattle.arena_core.specs.declared.blocks.HeldBlocks.{HeldBlocks}
use Rattle.arena_core.specs.Arena.{ArenaSpot, at_bytes, block_words}

abbrev pub no_blocks : HeldBlocks
no_blocks = record { held = [] }

-- the bits of the held blocks in the word i of the bits of a class
abbrev pub had_bits : ℕ → ℕ → HeldBlocks → ℕ
had_bits c i a = total (λ (h : HeldBlock). one_at (class_number h.class) c * one_at (h.number / 64) i * 2 ^ (h.number % 64)) a.held

-- the words of a held block
abbrev pub kept_of_block : HeldBlock → List (KeptWord ArenaSpot)
kept_of_block h = rows 0 (block_words (class_number h.class)) (λ k. record { spot = at_bytes (class_number h.class) h.number k; number = slice_index h.words k })

unfoldable pub kept_of_blocks : List HeldBlock → List (KeptWord ArenaSpot)
kept_of_blocks [] = []
kept_of_blocks (h ∷ hs) = kept_of_block h ++ kept_of_blocks hs
