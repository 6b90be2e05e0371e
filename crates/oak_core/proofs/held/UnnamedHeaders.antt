-- How often headers are dead and named by no entry any more.
use Rattle.std.specs.Prelude.{not}
use Rattle.std.proofs.Common.{◌≡◌, ◌≢◌, ℕ, ◌*◌, ◌≤◌, true, false, List, sym, ap, ◌∙◌, arith}
use Rattle.oak_model.specs.Counts.{one_at, one_if, total}
use Rattle.oak_model.proofs.Counting.{one_at-other}
use Rattle.oak_model.proofs.RowLaws.{total_le}
use Rattle.header_core.specs.HeaderHolds.{held_state, without_header}
use Rattle.header_core.specs.declared.holds.HeldHeader.{HeldHeader}
use Rattle.header_core.specs.declared.states.TheConstants.{DEAD}
use Rattle.header_core.proofs.HeldChanges.{total_without}

unfoldable pub unnamed_in : ℕ → List HeldHeader → ℕ
unnamed_in h rs = total (λ (r : HeldHeader). one_at r.header h * one_at (held_state r.held_as) DEAD * one_if (not r.named)) rs

pub unnamed_without-others : (h k : ℕ) (rs : List HeldHeader) → k ≢ h → unnamed_in k (without_header h rs) ≡ unnamed_in k rs
unfolding unnamed_in
unnamed_without-others h k rs ne = total_without (λ (r : HeldHeader). one_at r.header k * one_at (held_state r.held_as) DEAD * one_if (not r.named)) h rs
    (λ r e. let o = one_at-other r.header k (λ q. ne (sym q ∙ e)) in ap (λ (t : ℕ). t * one_at (held_state r.held_as) DEAD * one_if (not r.named)) o ∙ none (one_at (held_state r.held_as) DEAD) (one_if (not r.named)))
  where
    none : (a b : ℕ) → 0 * a * b ≡ 0
    none a b = grind arith

pub unnamed_le : (h : ℕ) (rs : List HeldHeader) → unnamed_in h rs ≤ total (λ (r : HeldHeader). one_at r.header h * one_at (held_state r.held_as) DEAD) rs
unfolding unnamed_in
unnamed_le h rs = total_le (λ (r : HeldHeader). one_at r.header h * one_at (held_state r.held_as) DEAD * one_if (not r.named)) (λ (r : HeldHeader). one_at r.header h * one_at (held_state r.held_as) DEAD) rs (λ r. less (one_at r.header h * one_at (held_state r.held_as) DEAD) r.named)
  where
    less : (a : ℕ) (b : _) → a * one_if (not b) ≤ a
    less a true = let q : a * 0 ≡ 0 = omega arith in omega arith
    less a false = let q : a * 1 ≡ a = omega arith in omega arith
