-- Where each room is open, each but the one of the greatest keys has one upper neighbour, and no two have the same. So the rooms that settling leaves hold many keys.
use Rattle.std.proofs.Common.{◌≡◌, ℕ, zero, suc, ◌+◌, ◌-◌, ◌*◌, ◌/◌, ◌<◌, ◌≤◌, List, sym, refl, ap, ◌∙◌, subst, arith}
use mathlib.Core.Logic.{dite}
use native.Mathlib.Decide.{ℕ_discrete}
use Rattle.oak_model.specs.Counts.{below, one_at}
use Rattle.oak_model.specs.Limits.{Sizes}
use Rattle.oak_model.proofs.Counting.{below_add, below_at, one_at-le, one_at-same, one_at-true}
use Rattle.chunk_core.specs.declared.states.TheConstants.{OPEN}
use Rattle.chunk_core.specs.LinkedEntries.{entries_in}
use Rattle.chunk_core.specs.Spans.{Span, past_high, within}
use Rattle.chunk_core.proofs.SpanLaws.{ends_past, high-none, past-cases}
use Rattle.rebalance.specs.Copies.{copy_span}
use Rattle.rebalance.specs.LoneCalls.{IsSettled}
use Rattle.rebalance.specs.LoneWords.{Divides, IsOpen, room_in, state_in}
use Rattle.rebalance.proofs.JoinedRanges.{within_high}
use Rattle.rebalance.proofs.SlotKeys.{within_low}
use Rattle.oak_map.proofs.NeighbourSums.{below_one, below_up, pairs_hold}

-- ---- ranges

-- a number from the low bound on that the high bound is not at or below is in the range
in_range : (s : Span) (k : ℕ) → s.low ≤ k → past_high s.high k ≡ 0 → within s k ≡ 1
in_range s k l e = past-cases s.low k (λ (t : ℕ). t - past_high s.high k ≡ 1) (λ _. omega arith) (λ g. absurd (omega arith))

before_end : (s : Span) (n k : ℕ) → s.high ≡ n + 1 → k < n → past_high s.high k ≡ 0
before_end s n k e l = ap (λ (h : ℕ). past_high h k) e ∙ ends_past n k l

without_end : (s : Span) (k : ℕ) → s.high ≡ 0 → past_high s.high k ≡ 0
without_end s k e = ap (λ (h : ℕ). past_high h k) e ∙ high-none k

-- what is in a range ends no sooner than any number below it
ends_later : (s : Span) (k j : ℕ) → within s k ≡ 1 → j ≤ k → past_high s.high j ≡ 0
ends_later s k j inside l = dite (ℕ_discrete s.high 0) (λ none. without_end s j none)
    (λ some. let n : ℕ = s.high - 1 in let e : s.high ≡ n + 1 = omega arith in let h = within_high s n k e inside in before_end s n j e (omega arith))

-- ---- rooms

module _ (z : Sizes) (words : List ℕ) (d : Divides z words) (all_open : (r : ℕ) → r < z.chunks → state_in z words r ≡ OPEN) where
  abbrev span : ℕ → Span
  span r = copy_span (room_in z words r)

  opens : (r : ℕ) → r < z.chunks → IsOpen z words r
  opens r lt = record { inside = lt; state = all_open r lt }

  same_low : (r s : ℕ) → r < z.chunks → s < z.chunks → (span r).low ≡ (span s).low → r ≡ s
  same_low r s lr ls e = d.once (span r).low r s (opens r lr) (opens s ls) (d.begun r (opens r lr)) (subst (λ (k : ℕ). within (span s) k ≡ 1) (sym e) (d.begun s (opens s ls)))

  -- the range before a bound has the number before it
  before_bound : (r n : ℕ) → r < z.chunks → (span r).high ≡ n + 1 → (0 < n) × (within (span r) (n - 1) ≡ 1)
  before_bound r n lt e = let b = within_high (span r) n (span r).low e (d.begun r (opens r lt)) in ((omega arith), in_range (span r) (n - 1) (omega arith) (before_end (span r) n (n - 1) e (omega arith)))

  same_high : (r s n : ℕ) → r < z.chunks → s < z.chunks → (span r).high ≡ n + 1 → (span s).high ≡ n + 1 → r ≡ s
  same_high r s n lr ls e f = d.once (n - 1) r s (opens r lr) (opens s ls) (before_bound r n lr e).1 (before_bound s n ls f).1

  both_last : (r s : ℕ) → r < z.chunks → s < z.chunks → (span r).high ≡ 0 → (span s).high ≡ 0 → r ≡ s
  both_last r s lr ls e f = let k : ℕ = (span r).low + (span s).low in d.once k r s (opens r lr) (opens s ls)
      (in_range (span r) k (omega arith) (without_end (span r) k e)) (in_range (span s) k (omega arith) (without_end (span s) k f))

  -- where a range ends another begins
  upper : (r n : ℕ) → r < z.chunks → (span r).high ≡ n + 1 → (s : ℕ) × (s < z.chunks) × ((span s).low ≡ n)
  upper r n lt e = let c = d.covered n in let s : ℕ = c.0 in let low = within_low (span s) n c.2 in let b = before_bound r n lt e in (
    s,
    c.1.inside,
    dite (ℕ_discrete (span s).low n) (λ is. is)
        (λ ne. let here : within (span s) (n - 1) ≡ 1 = in_range (span s) (n - 1) (omega arith) (ends_later (span s) n (n - 1) c.2 (omega arith)) in
        let same : r ≡ s = d.once (n - 1) r s (opens r lt) c.1 b.1 here in
        let over = within_high (span r) n n e (subst (λ (q : ℕ). within (span q) n ≡ 1) (sym same) c.2) in absurd (omega arith)),
  )

  -- ---- counted

  -- 1 where the one begins where the other ends
  next : ℕ → ℕ → ℕ
  next r s = one_at (span r).high ((span s).low + 1)

  -- 1 where it has no end
  last : ℕ → ℕ
  last r = one_at (span r).high 0

  next_is : (r s : ℕ) → 0 < next r s → (span r).high ≡ (span s).low + 1
  unfolding next
  next_is r s some = one_at-true (span r).high ((span s).low + 1) some

  one_upper : (r : ℕ) → r < z.chunks → below (next r) z.chunks ≤ 1
  unfolding next
  one_upper r lr = below_one (next r) z.chunks (λ s. one_at-le (span r).high ((span s).low + 1)) (λ s t ls lt a b. let p = next_is r s a in let q = next_is r t b in same_low s t ls lt (omega arith))

  one_lower : (s : ℕ) → s < z.chunks → below (λ r. next r s) z.chunks ≤ 1
  unfolding next
  one_lower s ls = below_one (λ r. next r s) z.chunks (λ r. one_at-le (span r).high ((span s).low + 1)) (λ r t lr lt a b. same_high r t (span s).low lr lt (next_is r s a) (next_is t s b))

  one_last : below last z.chunks ≤ 1
  unfolding last
  one_last = below_one last z.chunks (λ r. one_at-le (span r).high 0) (λ r s lr ls a b. both_last r s lr ls (one_at-true (span r).high 0 a) (one_at-true (span s).high 0 b))

  each_counts : (r : ℕ) → r < z.chunks → 1 ≤ last r + below (next r) z.chunks
  unfolding last next
  each_counts r lt = dite (ℕ_discrete (span r).high 0) (λ none. let o = one_at-same (span r).high 0 none in omega arith)
      (λ some. let n : ℕ = (span r).high - 1 in let e : (span r).high ≡ n + 1 = omega arith in let u = upper r n lt e in let s : ℕ = u.0 in let low = u.2 in
      let o = one_at-same (span r).high ((span s).low + 1) (omega arith) in let b = below_at (next r) z.chunks s u.1 in omega arith)

  ones : (n : ℕ) → below (λ _. 1) n ≡ n
  unfolding below
  ones zero = refl
  ones (suc n) = let t = ones n in omega arith

  -- so there are as many neighbours as rooms but one
  neighbours : z.chunks ≤ below (λ r. below (next r) z.chunks) z.chunks + 1
  neighbours = let u = below_up (λ _. 1) (λ r. last r + below (next r) z.chunks) z.chunks each_counts in let a = below_add last (λ r. below (next r) z.chunks) z.chunks in let l = one_last in let o = ones z.chunks in omega arith

  held : ℕ → ℕ
  held r = entries_in (room_in z words r).count

  -- each with its upper neighbour has more than half as many entries as a room has
  pub rooms_hold : IsSettled z words → (z.chunks - 1) * (z.entries / 2 + 1) ≤ below (λ r. entries_in (room_in z words r).count) z.chunks + below (λ r. entries_in (room_in z words r).count) z.chunks
  unfolding held next
  rooms_hold settled = let p = pairs_hold z.chunks next held one_upper one_lower (z.entries / 2 + 1) (λ r s lr ls some. let e = next_is r s some in let m = settled.many r s (opens r lr) (opens s ls) e in (at_one r s some, (omega arith))) in
      let n = neighbours in let t = times_up (z.chunks - 1) (below (λ r. below (next r) z.chunks) z.chunks) (z.entries / 2 + 1) (omega arith) in omega arith
    where
      at_one : (r s : ℕ) → 0 < next r s → next r s ≡ 1
      at_one r s some = let l = one_at-le (span r).high ((span s).low + 1) in omega arith

      times_up : (a b x : ℕ) → a ≤ b → a * x ≤ b * x
      times_up a b x l = grind arith
