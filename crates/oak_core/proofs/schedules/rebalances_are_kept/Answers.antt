use Rattle.std.proofs.Common.{◌∙◌, ap}
use Rattle.oak_core.specs.declared.states.PassState.{PassState}
use Rattle.oak_core.proofs.covers.RebalancesKept.{none_rebalances, room_kept_by}
use Rattle.oak_core.proofs.schedules.rebalances_are_kept.Goals as goal

pub returns-clause-kept : goal.returns-clause-kept
returns-clause-kept c z call x v n w is t = ap (λ (u : PassState). u.findings.rebalances.steps) t.after ∙ room_kept_by x v is

pub returns-clause-none : goal.returns-clause-none
returns-clause-none c z events s t seat v w g here there going same = none_rebalances z events s t seat v w g here there going same

pub returns-clause-claims : goal.returns-clause-claims
returns-clause-claims c z call r old v n w t = ap (λ (u : PassState). u.findings.rebalances.claims) t.after
