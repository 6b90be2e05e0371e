-- What a scan keeps of the blocks of a class, to load ahead from them, and which words it loads ahead.
use Rattle.std.specs.Prelude.{◌≡◌, ℕ, ◌*◌, ◌<◌, List, slice_index}
use Rattle.oak_model.specs.declared.classes.Class.{Class}
use Rattle.oak_model.specs.Class.{class_number}
use Rattle.oak_model.specs.Limits.{Sizes}
use Rattle.arena_core.specs.Arena.{at_bytes, block_words, blocks}
use Rattle.oak_core.specs.Loading.{IsPlain}
use Rattle.oak_core.specs.Memory.{Spot, in_arena, index, IsInside}
use Rattle.scan_cursor.specs.declared.loading_ahead.Blocks.{Blocks}

-- they are those of a class
pub record AreBlocks (z : Sizes) (x : Blocks) : Type 0 where
  pub class : Class
  pub span : x.span ≡ blocks z (class_number class) * 65536
  pub words : x.words ≡ block_words (class_number class)
  pub first : 0 < blocks z (class_number class) → x.first ≡ index z (in_arena (at_bytes (class_number class) 0 0))

-- it is the number of a word whose load teaches nothing
pub record IsPlainWord (z : Sizes) (n : ℕ) : Type 0 where
  pub spot : Spot
  pub inside : IsInside z spot
  pub plain : IsPlain spot
  pub is : n ≡ index z spot

-- each of them is
abbrev pub ArePlainWords : Sizes → List ℕ → Type 0
ArePlainWords z words = (i : ℕ) → IsPlainWord z (slice_index words i)
