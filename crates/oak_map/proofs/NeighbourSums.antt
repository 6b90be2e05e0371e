-- Sums over numbers of which some are paired: each with one at most, and one at most with each.
use Rattle.std.proofs.Common.{◌≡◌, ℕ, zero, suc, ◌+◌, ◌*◌, ◌<◌, ◌≤◌, sym, refl, ap, ◌∙◌, arith}
use mathlib.Core.Logic.{dite}
use native.Mathlib.Decide.{ℕ_discrete}
use Rattle.oak_model.specs.Counts.{below}
use Rattle.oak_model.proofs.Counting.{below_add, below_same, below_some}
use Rattle.oak_model.proofs.SumLaws.{plus_times, times-none, times-one}

-- a sum in which one number counts at most, as 1
pub below_one : (f : ℕ → ℕ) (n : ℕ) → ((k : ℕ) → f k ≤ 1) → ((j k : ℕ) → j < n → k < n → 0 < f j → 0 < f k → j ≡ k) → below f n ≤ 1
unfolding below
below_one f zero le once = omega arith
below_one f (suc n) le once = dite (ℕ_discrete (f n) 0)
    (λ none. let t = below_one f n le (λ j k a b. once j k (omega arith) (omega arith)) in omega arith)
    (λ some. let l = le n in dite (ℕ_discrete (below f n) 0) (λ none. omega arith)
    (λ more. let s = below_some f n (omega arith) in let lt = s.1 in let e = once s.0 n (omega arith) (omega arith) s.2 (omega arith) in absurd (omega arith)))

-- each number no more than in another
pub below_up : (f g : ℕ → ℕ) (n : ℕ) → ((k : ℕ) → k < n → f k ≤ g k) → below f n ≤ below g n
unfolding below
below_up f g zero h = omega arith
below_up f g (suc n) h = let a = h n (omega arith) in let t = below_up f g n (λ k l. h k (omega arith)) in omega arith

below_times : (f : ℕ → ℕ) (x n : ℕ) → below (λ k. f k * x) n ≡ below f n * x
unfolding below
below_times f x zero = let z : 0 ≡ 0 * x = omega arith in z
below_times f x (suc n) = let t = below_times f x n in ap (λ (k : ℕ). k + f n * x) t ∙ sym (plus_times (below f n) (f n) x)

below_nothing : (n : ℕ) → below (λ _. 0) n ≡ 0
unfolding below
below_nothing zero = refl
below_nothing (suc n) = let t = below_nothing n in omega arith

-- the two orders of a double sum
below_swap : (f : ℕ → ℕ → ℕ) (n m : ℕ) → below (λ r. below (f r) m) n ≡ below (λ s. below (λ r. f r s) n) m
unfolding below
below_swap f zero m = sym (below_nothing m)
below_swap f (suc n) m = ap (λ (k : ℕ). k + below (f n) m) (below_swap f n m) ∙ sym (below_add (λ s. below (λ r. f r s) n) (f n) m)

-- at most one times a number is no more than that
one_times : (w x : ℕ) → w ≤ 1 → w * x ≤ x
one_times w x h = grind arith

module _ (n : ℕ) (next : ℕ → ℕ → ℕ) (held : ℕ → ℕ) (uppers : (r : ℕ) → r < n → below (next r) n ≤ 1) (lowers : (s : ℕ) → s < n → below (λ r. next r s) n ≤ 1) where
  -- what the first of each pair holds is no more than all hold
  of_lower : below (λ r. below (λ s. next r s * held r) n) n ≤ below held n
  of_lower = below_up (λ r. below (λ s. next r s * held r) n) held n (λ r lt. let t = below_times (next r) (held r) n in let o = one_times (below (next r) n) (held r) (uppers r lt) in omega arith)

  of_upper : below (λ r. below (λ s. next r s * held s) n) n ≤ below held n
  of_upper = let e = below_swap (λ r s. next r s * held s) n n in
      let l = below_up (λ s. below (λ r. next r s * held s) n) held n (λ s lt. let t = below_times (λ r. next r s) (held s) n in let o = one_times (below (λ r. next r s) n) (held s) (lowers s lt) in omega arith) in omega arith

  both_held : below (λ r. below (λ s. next r s * held r + next r s * held s) n) n ≡ below (λ r. below (λ s. next r s * held r) n) n + below (λ r. below (λ s. next r s * held s) n) n
  both_held = below_same (λ r. below (λ s. next r s * held r + next r s * held s) n) (λ r. below (λ s. next r s * held r) n + below (λ s. next r s * held s) n) n (λ r _. below_add (λ s. next r s * held r) (λ s. next r s * held s) n)
      ∙ below_add (λ r. below (λ s. next r s * held r) n) (λ r. below (λ s. next r s * held s) n) n

  -- where each pair holds so much, all hold so much for each two pairs
  pub pairs_hold : (least : ℕ) → ((r s : ℕ) → r < n → s < n → 0 < next r s → (next r s ≡ 1) × (least ≤ held r + held s)) → below (λ r. below (next r) n) n * least ≤ below held n + below held n
  pairs_hold least many = let t = below_same (λ r. below (λ s. next r s * least) n) (λ r. below (next r) n * least) n (λ r _. below_times (next r) least n) ∙ below_times (λ r. below (next r) n) least n in
      let u : below (λ r. below (λ s. next r s * least) n) n ≤ below (λ r. below (λ s. next r s * held r + next r s * held s) n) n = below_up (λ r. below (λ s. next r s * least) n) (λ r. below (λ s. next r s * held r + next r s * held s) n) n (λ r lr. below_up (λ s. next r s * least) (λ s. next r s * held r + next r s * held s) n (λ s ls. each r s lr ls)) in
      let l = of_lower in let h = of_upper in let b = both_held in omega arith
    where
      each : (r s : ℕ) → r < n → s < n → next r s * least ≤ next r s * held r + next r s * held s
      each r s lr ls = dite (ℕ_discrete (next r s) 0)
          (λ none. let a = times-none (next r s) least none in omega arith)
          (λ some. let m = many r s lr ls (omega arith) in let a = times-one (next r s) least m.0 in let b = times-one (next r s) (held r) m.0 in let c = times-one (next r s) (held s) m.0 in let k = m.1 in omega arith)
