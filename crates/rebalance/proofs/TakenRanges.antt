-- A room takes none but its own of ranges that have no key in common.
use Rattle.std.proofs.Common.{◌≡◌, ℕ, ◌+◌, ◌-◌, ◌≤◌, ◌==◌, nat_le, true, false, refl, ap, arith, eqb-true, leb-true}
use Rattle.oak_model.proofs.Counting.{both_true, test-cases}
use Rattle.chunk_core.specs.declared.holds.MovingRange.{MovingRange}
use Rattle.chunk_core.specs.declared.holds.RoomCopy.{RoomCopy}
use Rattle.chunk_core.specs.KeyWords.{low_number, high_number}
use Rattle.chunk_core.specs.MovingRanges.{takes}
use Rattle.chunk_core.specs.Spans.{past_high, within}
use Rattle.chunk_core.proofs.SpanLaws.{past-cases}
use Rattle.rebalance.specs.Mirrors.{range_span}

-- the low bound of a room lies in each range that it takes
pub taken_inside : (w : RoomCopy) (h : MovingRange) → past_high (high_number w.high) (low_number w.low) ≡ 0 → takes w h ≡ true → within (range_span h) (low_number w.low) ≡ 1
taken_inside w h before taken = let t = both_true (high_number w.high == high_number h.high) (nat_le (low_number h.low) (low_number w.low)) taken in
    let e = ap (λ (n : ℕ). past_high n (low_number w.low)) (eqb-true (high_number w.high) (high_number h.high) t.0) in let l = leb-true (low_number h.low) (low_number w.low) t.1 in
    past-cases (low_number h.low) (low_number w.low) (λ (n : ℕ). n - past_high (high_number h.high) (low_number w.low) ≡ 1) (λ _. omega arith) (λ lt. absurd (omega arith))

-- where it lies in one, no other is taken
pub takes_none : (w : RoomCopy) (g h : MovingRange) → within (range_span g) (low_number w.low) ≡ 1 → past_high (high_number w.high) (low_number w.low) ≡ 0 → ((k : ℕ) → within (range_span g) k + within (range_span h) k ≤ 1) → takes w h ≡ false
takes_none w g h inside before apart = test-cases (takes w h) (λ b. takes w h ≡ b → b ≡ false) (λ _ e. absurd (let i = taken_inside w h before e in let a = apart (low_number w.low) in omega arith)) (λ _ _. refl) refl
