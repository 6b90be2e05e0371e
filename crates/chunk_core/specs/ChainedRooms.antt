-- A room in which links name each entry in turn, and which has nothing behind its entries.
use Rattle.std.specs.Prelude.{◌≡◌, ℕ, suc, ◌+◌, ◌<◌, ◌≤◌, nat_lt}
use Rattle.oak_model.specs.Counts.{one_if}
use Rattle.oak_model.specs.Limits.{Sizes}
use Rattle.chunk_core.specs.declared.holds.RoomCopy.{RoomCopy}
use Rattle.chunk_core.specs.LinkedEntries.{entries_in, prefix_in}
use Rattle.chunk_core.specs.RoomCopies.{word_held, value_held, next_held}

-- All entries in use are the sorted prefix, each is linked to the next, and the entries behind them have neither a key word nor a value word.
pub record IsChained (z : Sizes) (w : RoomCopy) : Type 0 where
  pub whole : prefix_in w.count ≡ entries_in w.count
  -- the first link names the first entry, where there is one
  pub begins : w.first ≡ one_if (nat_lt 0 (entries_in w.count))
  -- the link of each but the last names the next
  pub links : (i : ℕ) → suc i < entries_in w.count → next_held w i ≡ suc i + 1
  -- that of the last names none
  pub ends : (i : ℕ) → suc i ≡ entries_in w.count → next_held w i ≡ 0
  pub zeros : (i : ℕ) → entries_in w.count ≤ i → i < z.entries → (word_held w i ≡ 0) × (value_held w i ≡ 0)
