use Rattle.std.proofs.Common.{ℕ, ◌+◌, ◌-◌, ◌<◌, ◌≤◌}
use Rattle.oak_model.specs.Key.{IsKeyBefore}
use Rattle.link_search.specs.Bits.{bits}
use Rattle.chunk_ops.specs.Reads.{Reads, Compares}
use Rattle.chunk_ops.proofs.finding.search_sorted.Given as goal

abbrev pub invariant-loop-low : goal.invariant-loop-low
invariant-loop-low g l = let r = (g.R.SearchedRoom.room l.fn.room).found in record {
  inside : (l.low ≤ l.high) × (l.high ≤ r.prefix);
  reads : (n : ℕ) × (n + bits (l.high - l.low) ≤ bits r.prefix) × Reads g.R.SearchedRoom.pinned g.R.SearchedRoom.room g.R.SearchedRoom.meets (Compares l.key) n l.fn.room l.room;
  below : (j : ℕ) → j < l.low → IsKeyBefore (r.key j) l.key;
  above : (j : ℕ) → l.high ≤ j → j < r.prefix → IsKeyBefore l.key (r.key j);
}

abbrev pub decreases-loop-low : goal.decreases-loop-low
decreases-loop-low g l = l.high - l.low
