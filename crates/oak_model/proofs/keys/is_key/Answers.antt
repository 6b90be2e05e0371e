use Rattle.std.proofs.Common.{◌≡◌, ℕ, zero, suc, ◌<◌, ◌==◌, false, sym, ◌∙◌, arith}
use Rattle.oak_model.proofs.KeyLaws.{is_key-bytes}
use Rattle.oak_model.proofs.keys.is_key.Goals as goal

some_length : (n : ℕ) → (n == 0) ≡ false → 0 < n
some_length zero e = absurd cc
some_length (suc n) e = omega arith

pub returns-then-not-is_empty-clause-test : goal.returns-then-not-is_empty-clause-test
returns-then-not-is_empty-clause-test c = is_key-bytes c.args.bytes.now (some_length _ (sym c.is_empty.ensures ∙ c.if-not-is_empty.true)) (λ i. omega (arith, c.type_inv.bytes i))
