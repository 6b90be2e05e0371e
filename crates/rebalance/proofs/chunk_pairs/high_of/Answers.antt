use Rattle.std.proofs.Common.{ℕ, ap, sym, ◌≤◌, ◌∙◌, Some, subst}
use Rattle.oak_model.specs.declared.limits.TheConstants.{GREATEST_KEY}
use Rattle.rebalance.proofs.chunk_pairs.high_of.Goals as goal

pub returns-in_err-load_end-clause-high : goal.returns-in_err-load_end-clause-high
returns-in_err-load_end-clause-high c = λ w g hs gs f. c.in_err-load_end.ensures.high w g hs gs f ∙ sym c.from_residual.ensures

pub of-requires : goal.of-requires
of-requires c = let h = c.requires.front in let k = c.in_ok-load_end.ensures.high h.0 h.1 h.2 h.3 h.4 in subst (λ (n : ℕ). n ≤ GREATEST_KEY) (sym k.stored.long) k.stored.few

pub returns-clause-high : goal.returns-clause-high
returns-clause-high c = λ w g hs gs f. let k = c.in_ok-load_end.ensures.high w g hs gs f in k.are ∙ ap Some (sym (c.of.ensures k.bytes k.stored))
