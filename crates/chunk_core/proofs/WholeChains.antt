-- The chain of a room in which each entry in use is linked to the next: it has the numbers below the count.
use Rattle.std.proofs.Common.{◌≡◌, ℕ, zero, suc, ◌+◌, ◌-◌, ◌<◌, ◌≤◌, Bool, List, ◌∷◌, sym, refl, ap, ◌∙◌, arith, lt-ltb}
use Rattle.std.specs.Prelude.{nat_lt}
use Rattle.oak_model.specs.Counts.{one_if, total, rows}
use Rattle.oak_model.proofs.RowLaws.{each_rows}
use Rattle.chunk_core.specs.LinkedEntries.{first_numbers, chain, reached, farthest, Rises}
use Rattle.chunk_core.proofs.Chains.{chain-none, chain-some}
use Rattle.chunk_core.proofs.EntryNumbers.{rows_total}

pub rises_rows : (f : ℕ → ℕ) (n i k : ℕ) → ((i j : ℕ) → i < j → j < n → f i < f j) → i + k ≤ n → Rises f (rows i k (λ j. j))
unfolding rows
rises_rows f n i zero h l = tt
rises_rows f n i (suc k) h l = (each_rows (λ j. f i < f j) (suc i) k (λ j. j) (λ j le lt. h i j (omega arith) (omega arith)), rises_rows f n (suc i) k h (omega arith))

module _ (n : ℕ) (next : ℕ → ℕ) (links : (i : ℕ) → suc i < n → next i ≡ suc i + 1) (ends : (i : ℕ) → suc i ≡ n → next i ≡ 0) where
  chain_rows : (k i fuel : ℕ) → i + suc k ≡ n → suc k ≤ fuel → chain fuel next (i + 1) ≡ rows i (suc k) (λ j. j)
  unfolding rows
  chain_rows k i zero e l = absurd (omega arith)
  chain_rows zero i (suc fuel) e l = chain-some fuel next (i + 1) (λ z. absurd (omega arith)) ∙ (ap (λ (t : ℕ). t ∷ chain fuel next (next t)) (let u : i + 1 - 1 ≡ i = omega arith in u) ∙ ap (λ (t : List ℕ). i ∷ t) (ap (chain fuel next) (ends i (omega arith)) ∙ chain-none fuel next))
  chain_rows (suc k) i (suc fuel) e l = chain-some fuel next (i + 1) (λ z. absurd (omega arith)) ∙ (ap (λ (t : ℕ). t ∷ chain fuel next (next t)) (let u : i + 1 - 1 ≡ i = omega arith in u)
      ∙ ap (λ (t : List ℕ). i ∷ t) (ap (chain fuel next) (links i (omega arith)) ∙ chain_rows k (suc i) fuel (omega arith) (omega arith)))

  pub whole_chain : n < 65536 → reached next (one_if (nat_lt 0 n)) ≡ rows 0 n (λ j. j)
  unfolding farthest rows
  whole_chain small = go n refl
    where
      go : (k : ℕ) → n ≡ k → chain 65536 next (one_if (nat_lt 0 n)) ≡ rows 0 n (λ j. j)
      go zero e = ap (λ (t : ℕ). chain 65536 next (one_if (nat_lt 0 t))) e ∙ (chain-none 65536 next ∙ ap (λ (t : ℕ). rows 0 t (λ j. j)) (sym e))
      go (suc k) e = ap (λ (b : Bool). chain 65536 next (one_if b)) (lt-ltb 0 n (omega arith)) ∙ (ap (chain 65536 next) (let u : 1 ≡ 0 + 1 = omega arith in u) ∙ (chain_rows k 0 65536 (omega arith) (omega arith) ∙ ap (λ (t : ℕ). rows 0 t (λ j. j)) (sym e)))

-- what is added up over it
pub whole_total : (f : ℕ → ℕ) (n : ℕ) → total f (rows 0 n (λ j. j)) ≡ total f (first_numbers n)
whole_total f n = rows_total f (λ j. j) n
