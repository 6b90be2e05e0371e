-- The points on covers alone: they divide the keys among them, and their entries have keys of their own.
use Rattle.std.specs.Prelude.{◌≡◌, ℕ, ◌-◌, ◌≤◌, List}
use Rattle.oak_model.specs.Limits.{Sizes}
use Rattle.chunk_core.specs.declared.holds.RoomHolds.{RoomHolds}
use Rattle.chunk_core.specs.Rooms.{RoomMemory}
use Rattle.chunk_core.specs.ValueWord.{names_header}
use Rattle.chunk_core.specs.Spans.{within}
use Rattle.chunk_core.specs.CoverSums.{all_of, each, is_in, has_key, keyless, stray}

-- `is_key_word` is 1 for a word that names a block of the class that its length has, which is a key's
pub record CoversPartition (z : Sizes) (m : RoomMemory) (content : ℕ → List ℕ) (is_key_word : ℕ → ℕ) (hs : List RoomHolds) : Type 0 where
  -- each key lies in the range of exactly one cover
  pub covered : (k : ℕ) → all_of z m content hs (is_in k) ≡ 1
  -- a key has at most one linked entry
  pub once : (k : ℕ) → all_of z m content hs (each (has_key k)) ≤ 1
  -- which lies in the key's own cover
  pub inside : all_of z m content hs (each stray) ≡ 0
  -- the key word of an entry has the class of its length, which is a key's
  pub placed : all_of z m content hs (each (λ s x. 1 - is_key_word x.word)) ≡ 0
  -- each range has its low bound
  pub begun : all_of z m content hs (λ c. 1 - within c.span c.span.low) ≡ 0
  -- and a key: none ends at or before the least one
  pub keyed : all_of z m content hs (λ c. keyless c.span) ≡ 0
  -- a base names no header, so it may be an entry's floor
  pub bases : all_of z m content hs (λ c. names_header c.span.base) ≡ 0
