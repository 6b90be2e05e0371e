-- Along a chain that rises an entry has a smaller key than the one that its link names.
use Rattle.std.proofs.Common.{◌≡◌, ℕ, zero, suc, ◌+◌, ◌-◌, ◌<◌, subst, ap, ◌∙◌, arith}
use Rattle.std.specs.Prelude.{length}
use mathlib.Core.Logic.{dite}
use native.Mathlib.Decide.{ℕ_discrete}
use Rattle.oak_model.specs.Counts.{one_at, total}
use Rattle.oak_model.proofs.Counting.{one_at-other}
use Rattle.chunk_core.specs.LinkedEntries.{Rises, chain}
use Rattle.chunk_core.proofs.Chains.{chain-none, chain-some, first_there}
use Rattle.chunk_core.proofs.EntryNumbers.{each_at}

pub next_above : (f : ℕ → ℕ) (n : ℕ) (next : ℕ → ℕ) (p y i : ℕ) → Rises f (chain n next i) → next p ≡ y + 1 → 0 < total (λ j. one_at j p) (chain n next i) → length (chain n next i) < n → f p < f y
unfolding total chain
next_above f zero next p y i r e there l = absurd (omega arith)
next_above f (suc n) next p y i r e there l = dite (ℕ_discrete i 0) (λ z. absurd (let c = ap (total (λ j. one_at j p)) (ap (chain (suc n) next) z ∙ chain-none (suc n) next) in omega arith))
    (λ s. let rs = subst (Rises f) (chain-some n next i s) r in let cp = ap (total (λ j. one_at j p)) (chain-some n next i s) in let cl = ap length (chain-some n next i s) in
    dite (ℕ_discrete (i - 1) p)
    (λ q. subst (λ (t : ℕ). f t < f y) q (each_at (λ j. f (i - 1) < f j) (chain n next (next (i - 1))) y rs.0 (first_there n next y (next (i - 1)) (ap next q ∙ e) (omega arith))))
    (λ ne. let o = one_at-other (i - 1) p ne in next_above f n next p y (next (i - 1)) rs.1 e (omega arith) (omega arith)))
