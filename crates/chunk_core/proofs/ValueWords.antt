-- What value words can name.
use Rattle.std.proofs.Common.{◌≡◌, ℕ, ◌/◌, ◌^◌, ap, ◌∙◌, arith}
use Rattle.oak_model.proofs.Counting.{one_at-other}
use Rattle.chunk_core.specs.ValueWord.{names_header}

-- 0 names no header
pub none_named : (v : ℕ) → names_header v ≡ 1 → v ≡ 0 → ⊥
unfolding names_header
none_named v n e = let z : names_header v ≡ 0 = ap names_header e ∙ one_at-other (0 / 2 ^ 63) 1 (λ q. absurd (omega arith)) in absurd (omega arith)
