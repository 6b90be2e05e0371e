-- How far the lesson of a gap goes: to the base of its room for each key that lies in it, and for no other.
use Rattle.std.proofs.Common.{◌≡◌, ℕ, zero, suc, ◌*◌, ◌<◌, Option, Some, None, refl, ap, ◌∙◌, arith, lt-ltb, le-ltb}
use Rattle.std.specs.Prelude.{nat_lt}
use mathlib.Core.Logic.{dite}
use native.Mathlib.Decide.{dec_lt}
use Rattle.oak_model.specs.Counts.{one_if}
use Rattle.chunk_core.specs.declared.holds.FoundEntry.{FoundEntry}
use Rattle.chunk_core.specs.FoundLinks.{IsAboveFound, IsBelowFound, LiesBetween}
use Rattle.chunk_core.specs.PinnedRooms.{span_of, found_key, IsGoodRoom}
use Rattle.chunk_core.specs.Spans.{within}
use Rattle.chunk_core.proofs.SpanLaws.{within-le}
use Rattle.oak_core.specs.declared.states.Gap.{Gap}
use Rattle.oak_core.specs.declared.states.Taught.TheVariants.{OfGap}
use Rattle.oak_core.specs.Learning.{reach_of, above_found, below_found}

less : (a b : ℕ) → 0 < one_if (nat_lt a b) → a < b
less a b l = dite (dec_lt a b) (λ h. h) (λ n. absurd (let e = ap one_if (le-ltb a b (omega arith)) in omega arith))

above_is : (o : Option FoundEntry) (k : ℕ) → IsAboveFound o k → above_found o k ≡ 1
above_is None k h = refl
above_is (Some e) k h = ap one_if (lt-ltb (found_key e) k h)

below_is : (o : Option FoundEntry) (k : ℕ) → IsBelowFound o k → below_found o k ≡ 1
below_is None k h = refl
below_is (Some e) k h = ap one_if (lt-ltb k (found_key e) h)

is_above : (o : Option FoundEntry) (k : ℕ) → 0 < above_found o k → IsAboveFound o k
is_above None k l = tt
is_above (Some e) k l = less (found_key e) k l

is_below : (o : Option FoundEntry) (k : ℕ) → 0 < below_found o k → IsBelowFound o k
is_below None k l = tt
is_below (Some e) k l = less k (found_key e) l

-- a key between
all_one : (a b c n : ℕ) → a ≡ 1 → b ≡ 1 → c ≡ 1 → a * b * c * n ≡ n
all_one a b c n e f g = (λ i. e i * f i * g i * n) ∙ (let u : 1 * 1 * 1 * n ≡ n = omega arith in u)

pub reach_between : (g : Gap) (k : ℕ) → LiesBetween g.room g.from g.to k → reach_of (OfGap g) k ≡ suc g.room.base
reach_between g k b = all_one (within (span_of g.room) k) (above_found g.from k) (below_found g.to k) (suc g.room.base) b.inside (above_is g.from k b.above) (below_is g.to k b.below)

-- and it goes nowhere else
left_of : (a b : ℕ) → 0 < a * b → 0 < a
left_of zero b l = absurd (omega arith)
left_of (suc a) b l = omega arith

right_of : (a b : ℕ) → 0 < a * b → 0 < b
right_of a b l = left_of b a (let e : a * b ≡ b * a = grind arith in omega arith)

pub reached_between : (g : Gap) (k : ℕ) → IsGoodRoom g.room → 0 < reach_of (OfGap g) k → LiesBetween g.room g.from g.to k
reached_between g k good lt = let w = within (span_of g.room) k in let a = above_found g.from k in let b = below_found g.to k in let one = left_of (w * a * b) (suc g.room.base) lt in let two = left_of (w * a) b one in record {
  good = good;
  inside = let l = within-le (span_of g.room) k in let q = left_of w a two in omega arith;
  above = is_above g.from k (right_of w a two);
  below = is_below g.to k (right_of (w * a) b one);
}
