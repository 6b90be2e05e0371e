-- The limits of a shape.
use Rattle.std.specs.Prelude.{ℕ, ◌<◌, ◌≤◌, List, slice_index}
use Rattle.oak_model.specs.declared.limits.TheConstants.{CLASSES, GREATEST_PASSES, GREATEST_CHUNKS, LEAST_ENTRIES, GREATEST_ENTRIES, GREATEST_HEADERS, GREATEST_BLOCKS}

-- the sizes of a table: how many passes, chunks, entries a chunk, headers, and blocks of each class
pub record Sizes : Type 0 where
  pub passes : ℕ
  pub chunks : ℕ
  pub entries : ℕ
  pub headers : ℕ
  pub blocks : List ℕ

pub record IsInLimits (s : Sizes) : Type 0 where
  pub passes_least : 1 ≤ s.passes
  pub passes_greatest : s.passes ≤ GREATEST_PASSES
  pub chunks_least : 1 ≤ s.chunks
  pub chunks_greatest : s.chunks ≤ GREATEST_CHUNKS
  pub entries_least : LEAST_ENTRIES ≤ s.entries
  pub entries_greatest : s.entries ≤ GREATEST_ENTRIES
  pub headers_least : 1 ≤ s.headers
  pub headers_greatest : s.headers ≤ GREATEST_HEADERS
  pub blocks_greatest : (c : ℕ) → c < CLASSES → slice_index s.blocks c ≤ slice_index GREATEST_BLOCKS c
