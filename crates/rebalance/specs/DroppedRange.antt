-- Sums over entries, and one moving range after entries of it were dropped.
use Rattle.std.specs.Prelude.{◌≡◌, ℕ, ◌+◌, ◌≤◌, ◌==◌, not, cond, List, [], ◌∷◌}
use Rattle.oak_model.specs.Counts.{one_at, total, Has}
use Rattle.chunk_core.specs.declared.holds.Carried.{Carried}
use Rattle.chunk_core.specs.declared.holds.MovingRange.{MovingRange}
use Rattle.chunk_core.specs.MovingRanges.{range_without}
use Rattle.chunk_core.specs.ValueWord.{names_header}
use Rattle.rebalance.specs.declared.entries.Entry.{Entry}
use Rattle.rebalance.specs.Entries.{greatest}

-- f added up over entries
abbrev pub sum_of : (ℕ → ℕ → ℕ) → List Entry → ℕ
sum_of f es = total (λ (e : Entry). f e.place e.value) es

-- and over carried ones
abbrev pub sum_carried : (ℕ → ℕ → ℕ) → List Carried → ℕ
sum_carried f cs = total (λ (c : Carried). f c.word c.value) cs

-- f where there is no value
abbrev pub bare : (ℕ → ℕ → ℕ) → ℕ → ℕ → ℕ
bare f w v = cond (not (names_header v == 1)) (f w v) 0

-- the range after a key word was taken away
abbrev pub range_with : ℕ → MovingRange → MovingRange
range_with word g = cond (word == 0) g (range_without word g)

-- the range after the key words of these entries were taken away
unfoldable pub dropped_range : List Entry → MovingRange → MovingRange
dropped_range [] g = g
dropped_range (e ∷ es) g = dropped_range es (range_with e.place g)

-- two carried entries with one key word are one
abbrev pub WordsDiffer : MovingRange → Type 0
WordsDiffer g = (k : ℕ) → total (λ (c : Carried). one_at c.word k) g.carried ≤ 1

-- these entries were dropped from the range, and no others
pub record DropsAll (ds : List Entry) (g g' : MovingRange) : Type 0 where
  pub room : g'.room ≡ g.room
  pub low : g'.low ≡ g.low
  pub high : g'.high ≡ g.high
  pub base : g'.base ≡ greatest g.base ds
  pub sums : (f : ℕ → ℕ → ℕ) → sum_carried f g'.carried + sum_of f ds ≡ sum_carried f g.carried
  pub fewer : (F : Carried → ℕ) → total F g'.carried ≤ total F g.carried
  pub some : (c : Carried) → Has c g'.carried → Has c g.carried
