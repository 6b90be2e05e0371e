-- Words of the table of which those chunks that begin or end up to a key are settled, while a call goes from the lowest chunk on.
use Rattle.std.specs.Prelude.{◌≡◌, ℕ, ◌+◌, ◌/◌, ◌<◌, ◌≤◌, List}
use Rattle.oak_model.specs.Limits.{Sizes}
use Rattle.chunk_core.specs.KeyWords.{low_number, high_number}
use Rattle.chunk_core.specs.Spans.{past_high}
use Rattle.oak_core.specs.Memory.{memory}
use Rattle.rebalance.specs.Copies.{IsTidy, values_in}
use Rattle.rebalance.specs.LoneCalls.{NoneOpened}
use Rattle.rebalance.specs.LoneWords.{Divides, IsOpen, room_in}

-- Each entry of an open room that ends at or before k is linked and has a value; and two open neighbours, of which the upper one begins at or before k, have more than half as many entries with a value together as a room has.
pub record SettledBelow (z : Sizes) (k : ℕ) (words : List ℕ) : Type 0 where
  pub tidy : (r : ℕ) → IsOpen z words r → past_high (high_number (room_in z words r).high) k ≡ 1 → IsTidy (room_in z words r)
  pub many : (r s : ℕ) → IsOpen z words r → IsOpen z words s → high_number (room_in z words r).high ≡ low_number (room_in z words s).low + 1 → low_number (room_in z words s).low ≤ k → z.entries / 2 < values_in (room_in z words r) + values_in (room_in z words s)

-- what a call that settled so far left of the words before
pub record SettlesBelow (z : Sizes) (k : ℕ) (before after : List ℕ) : Type 0 where
  pub settled : Divides z after → SettledBelow z k after
  pub opened : NoneOpened z before after
  pub headers : (memory z after).headers ≡ (memory z before).headers
