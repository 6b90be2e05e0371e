-- Bounds and the keys that are past them, and ranges that are cut in two or joined.
use Rattle.std.proofs.Common.{◌≡◌, ◌≢◌, ℕ, ◌+◌, ◌-◌, ◌<◌, ◌≤◌, cond, Bool, List, sym, refl, ap, ◌∙◌, arith, ne_eqb}
use Rattle.std.specs.Prelude.{take, drop, slice_index}
use mathlib.Core.Logic.{dite}
use native.Mathlib.Decide.{ℕ_discrete}
use Rattle.oak_model.specs.KeyNumber.{key_number}
use Rattle.oak_model.specs.WordBytes.{bytes_of}
use Rattle.oak_model.proofs.Counting.{le-cases}
use Rattle.chunk_core.specs.KeyWords.{low_number, high_number, high_from}
use Rattle.chunk_core.specs.Spans.{Span, past, past_high, within}

pub past-cases : (b k : ℕ) (P : ℕ → Type 0) → (b ≤ k → P 1) → (k < b → P 0) → P (past b k)
unfolding past
past-cases b k P at_least below = le-cases b k (λ t. P (cond t 1 0)) at_least below

-- the higher bound is passed later
pub past-rises : (a b k : ℕ) → a ≤ b → past b k ≤ past a k
past-rises a b k l = past-cases a k (λ (i : ℕ). past b k ≤ i) (λ _. past-cases b k (λ (j : ℕ). j ≤ 1) (λ _. omega arith) (λ _. omega arith)) (λ h. past-cases b k (λ (j : ℕ). j ≤ 0) (λ g. absurd (omega arith)) (λ _. omega arith))

pub past-le : (b k : ℕ) → past b k ≤ 1
past-le b k = past-cases b k (λ (i : ℕ). i ≤ 1) (λ _. omega arith) (λ _. omega arith)

pub within-le : (s : Span) (k : ℕ) → within s k ≤ 1
within-le s k = let p = past-le s.low k in omega arith

pub high-none : (k : ℕ) → past_high 0 k ≡ 0
unfolding past_high
high-none k = refl

pub high-some : (h k : ℕ) → h ≢ 0 → past_high h k ≡ past (h - 1) k
unfolding past_high
high-some h k ne = ap (λ (t : Bool). cond t 0 (past (h - 1) k)) (ne_eqb h 0 ne)

-- a range that ends at n + 1 does not end at or before what is below n
pub ends_past : (n k : ℕ) → k < n → past_high (n + 1) k ≡ 0
ends_past n k l = high-some (n + 1) k (λ z. absurd (omega arith)) ∙ past-cases (n + 1 - 1) k (λ (t : ℕ). t ≡ 0) (λ le. absurd (omega arith)) (λ _. refl)

-- the words of a high bound at another range's low bound
pub high_from-is : (low : List ℕ) → high_number (high_from low) ≡ low_number low + 1
unfolding high_number low_number
high_from-is low = ap (λ (b : Bool). cond b 0 (key_number (take (slice_index low 0 + 1 - 1) (bytes_of (drop 1 low))) + 1)) (ne_eqb (slice_index low 0 + 1) 0 (λ e. absurd (omega arith)))
    ∙ ap (λ (t : ℕ). key_number (take t (bytes_of (drop 1 low))) + 1) (let q : slice_index low 0 + 1 - 1 ≡ slice_index low 0 = omega arith in q)

-- a range that has its low bound ends behind it
pub ends_behind : (s : Span) (n : ℕ) → s.high ≡ n + 1 → within s s.low ≡ 1 → s.low ≤ n
ends_behind s n e w = let p = past-le s.low s.low in let q = high-some s.high s.low (λ z. absurd (omega arith)) in
    past-cases (s.high - 1) s.low (λ (t : ℕ). past (s.high - 1) s.low ≡ t → s.low ≤ n) (λ _ y. absurd (omega arith)) (λ l _. omega arith) refl

-- a range in two, at a key within it
module _ (s lower upper : Span) (mid : ℕ) (low : lower.low ≡ s.low) (lower_high : lower.high ≡ mid + 1) (upper_low : upper.low ≡ mid) (high : upper.high ≡ s.high) (inside : within s mid ≡ 1) where
  above : s.low ≤ mid
  above = past-cases s.low mid (λ (t : ℕ). t - past_high s.high mid ≡ 1 → s.low ≤ mid) (λ l _. l) (λ _ e. absurd (omega arith)) inside

  under : past_high s.high mid ≡ 0
  under = let p = past-le s.low mid in omega arith

  high_rises : (k : ℕ) → past_high s.high k ≤ past mid k
  high_rises k = dite (ℕ_discrete s.high 0)
      (λ e. let p = ap (λ (t : ℕ). past_high t k) e in let q = high-none k in omega arith)
      (λ ne. let a = high-some s.high mid ne in let b = high-some s.high k ne in let u = under in past-cases (s.high - 1) mid (λ (t : ℕ). t ≡ 0 → past_high s.high k ≤ past mid k) (λ _ e. absurd (omega arith)) (λ l _. let r = past-rises mid (s.high - 1) k (omega arith) in omega arith) (omega arith))

  pub cut_span : (k : ℕ) → within lower k + within upper k ≡ within s k
  cut_span k = let a = ap (λ (t : ℕ). past t k) low in let b = ap (λ (t : ℕ). past_high t k) lower_high in let c = ap (λ (t : ℕ). past t k) upper_low in let d = ap (λ (t : ℕ). past_high t k) high in
      let e = high-some (mid + 1) k (λ q. absurd (omega arith)) in let e2 = ap (λ (t : ℕ). past t k) (let q : mid + 1 - 1 ≡ mid = omega arith in q) in
      let f = past-rises s.low mid k above in let h = high_rises k in omega arith

  pub upper_at : (k : ℕ) → within s k ≡ 1 → mid ≤ k → within upper k ≡ 1
  upper_at k i l = let c = ap (λ (t : ℕ). past t k) upper_low in let d = ap (λ (t : ℕ). past_high t k) high in let p = past-le s.low k in
      past-cases mid k (λ (t : ℕ). past upper.low k ≡ t → within upper k ≡ 1) (λ _ e. omega arith) (λ lt _. absurd (omega arith)) c

  pub lower_at : (k : ℕ) → within s k ≡ 1 → k < mid → within lower k ≡ 1
  lower_at k i l = let a = ap (λ (t : ℕ). past t k) low in let b = ap (λ (t : ℕ). past_high t k) lower_high in
      let e = high-some (mid + 1) k (λ q. absurd (omega arith)) in let e2 = ap (λ (t : ℕ). past t k) (let q : mid + 1 - 1 ≡ mid = omega arith in q) in let p = past-le s.low k in
      past-cases mid k (λ (t : ℕ). past mid k ≡ t → within lower k ≡ 1) (λ ge _. absurd (omega arith)) (λ _ z. omega arith) refl

-- two neighbours are what one range is that is cut between them
module _ (lower upper whole : Span) (low : whole.low ≡ lower.low) (mid : lower.high ≡ upper.low + 1) (high : whole.high ≡ upper.high) (before : lower.low ≤ upper.low) (begun : past_high upper.high upper.low ≡ 0) where
  pub joined_span : (k : ℕ) → within whole k ≡ within lower k + within upper k
  joined_span k = sym (cut_span whole lower upper upper.low (sym low) mid refl (sym high) (let p = ap (λ (t : ℕ). past t upper.low) low in let q = ap (λ (t : ℕ). past_high t upper.low) high in past-cases lower.low upper.low (λ (t : ℕ). past lower.low upper.low ≡ t → within whole upper.low ≡ 1) (λ _ e. omega arith) (λ l _. absurd (omega arith)) refl) k)
