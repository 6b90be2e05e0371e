use Rattle.std.proofs.Common.{◌≡◌, ◌<◌, ◌==◌, ◌/◌, ◌^◌, ℕ, nat_le, sym, ◌∙◌, ap, arith}
use Rattle.std.proofs.lemmas.Bool.{le-leb, lt-leb}
use mathlib.Core.Logic.{dite}
use native.Mathlib.Decide.{dec_le}
use Rattle.chunk_core.specs.ValueWord.{names_header}
use Rattle.oak_model.proofs.Counting.{one_at-same, one_at-other}
use Rattle.rebalance.proofs.entries.Entry.has_value.Goals as goal

top_bit : (v : ℕ) → v < 2 ^ 64 → nat_le (2 ^ 63) v ≡ (names_header v == 1)
unfolding names_header
top_bit v small = dite (dec_le (2 ^ 63) v)
    (λ h. le-leb (2 ^ 63) v h ∙ sym (ap (λ (n : ℕ). n == 1) (one_at-same (v / 2 ^ 63) 1 (omega arith))))
    (λ n. lt-leb (2 ^ 63) v (omega arith) ∙ sym (ap (λ (n : ℕ). n == 1) (one_at-other (v / 2 ^ 63) 1 (λ e. omega arith))))

pub returns : goal.returns
returns c = top_bit c.args.self.value (omega arith)
