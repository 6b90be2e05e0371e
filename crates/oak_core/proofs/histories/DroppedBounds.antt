-- No base is above the number of all writes behind a store that drops carried entries: a base that rises is a floor that stood.
use Rattle.std.proofs.Common.{◌≡◌, ℕ, ◌-◌, ◌≤◌, cond, List, [], ◌∷◌, map, refl, arith}
use Rattle.oak_model.specs.Counts.{total}
use Rattle.oak_model.proofs.Counting.{test-cases, total_map}
use Rattle.chunk_core.specs.declared.holds.Carried.{Carried}
use Rattle.chunk_core.specs.declared.holds.MovingRange.{MovingRange}
use Rattle.chunk_core.specs.CoverSums.{each}
use Rattle.chunk_core.specs.Covers.{Entry, cover_from, entry_from}
use Rattle.chunk_core.specs.MovingRanges.{base_with, greater, is_dropped, range_without}
use Rattle.chunk_core.proofs.DroppedEntries.{dropped_is}
use Rattle.chunk_core.proofs.RangeMoves.{greater-cases}
use Rattle.oak_core.specs.Bounds.{base_over, floor_in, floor_over}
use Rattle.oak_core.proofs.histories.BoundWrites.{floor_low}

base_bound : (n word base : ℕ) (cs : List Carried) → base ≤ n → total (λ (c : Carried). floor_in c.value - n) cs ≡ 0 → base_with word base cs ≤ n
unfolding base_with total
base_bound n word base [] le none = le
base_bound n word base (c ∷ cs) le none = let r = base_bound n word base cs le (omega arith) in test-cases (is_dropped word c) (λ b. is_dropped word c ≡ b → cond b (greater c.value (base_with word base cs)) (base_with word base cs) ≤ n)
    (λ _ d. greater-cases c.value (base_with word base cs) (λ t. t ≤ n) (λ _. r) (λ _. let f = floor_low c.value (dropped_is word c d).1 in omega arith)) (λ _ _. r) refl

-- where no base and no floor of the ranges is above a number, no base is afterwards
pub ranges_bound : (n word : ℕ) (gs : List MovingRange) → total (base_over n) (map cover_from gs) ≡ 0 → total (each (floor_over n)) (map cover_from gs) ≡ 0 → total (base_over n) (map cover_from (map (range_without word) gs)) ≡ 0
unfolding total
ranges_bound n word [] bases floors = refl
ranges_bound n word (g ∷ gs) bases floors = let t = ranges_bound n word gs (omega arith) (omega arith) in let m = total_map entry_from (λ (x : Entry). floor_in x.value - n) g.carried in
    let same : each (floor_over n) (cover_from g) ≡ total (λ (x : Entry). floor_in x.value - n) (map entry_from g.carried) = refl in let b = base_bound n word g.base g.carried (omega arith) (omega arith) in omega arith
