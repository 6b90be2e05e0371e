-- Part six of a run that fits: the printed map, and the printed table.
use Rattle.std.specs.Prelude.{◌≡◌, ℕ, ◌+◌, ◌≤◌, ◌<◌, List, length, slice_index}
use Rattle.std.specs.List.{AllByRecursion}
use Rattle.oak_model.specs.declared.replies.Pair.{Pair}
use Rattle.oak_model.specs.Class.{classes, class_number, blocks_of}
use Rattle.oak_model.specs.History.{Histories, last_state, place_of}
use Rattle.oak_model.specs.Scan.{value_in, IsRising}
use Rattle.oak_run.specs.Closing.{Closing}

-- the pairs are the last states, each at the last place of its key, in the order of the keys
pub record MapFits (h : Histories) (finals : List Pair) : Type 0 where
  pub states : (q : List ℕ) → value_in finals q ≡ last_state (h q)
  pub places : AllByRecursion (λ (p : Pair). place_of (h p.key) p.at ≡ length (h p.key)) finals
  pub ordered : IsRising finals

-- the blocks are the map's, the headers its keys and the retired ones, the chunks the open rooms, and nothing is above its limit
pub record UsageFits (c : Closing) (finals : List Pair) : Type 0 where
  pub blocks : AllByRecursion (λ k. (slice_index c.usage.blocks (class_number k) ≡ blocks_of finals k) × (slice_index c.usage.blocks (class_number k) ≤ slice_index c.sizes.blocks (class_number k))) classes
  pub headers : c.usage.headers ≡ length finals + c.retired
  pub headers_limit : c.usage.headers ≤ c.sizes.headers
  pub chunks : c.usage.chunks ≡ c.open_rooms
  pub some_chunk : 0 < c.usage.chunks
  pub chunks_limit : c.usage.chunks ≤ c.sizes.chunks

pub record EndFits (c : Closing) (finals : List Pair) : Type 0 where
  pub final : MapFits c.history finals
  pub usage : UsageFits c finals
