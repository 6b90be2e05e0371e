use Rattle.std.proofs.Common.{◌≡◌, true, List, ℕ, sym, ◌∙◌, subst}
use Rattle.oak_model.specs.Key.{is_key}
use Rattle.scan_cursor.specs.Holding.{IsBound}
use Rattle.oak_run.proofs.scans.bytes_of.Goals as goal

pub returns-in-Some-clause-bound : goal.returns-in-Some-clause-bound
returns-in-Some-clause-bound c = subst IsBound (sym c.in-Some.is) (subst (λ (q : List ℕ). is_key q ≡ true) (c.key_bytes.ensures.same ∙ c.bytes.ensures.value) c.key_bytes.ensures.key)
