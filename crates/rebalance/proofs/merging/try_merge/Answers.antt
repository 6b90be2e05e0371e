use Rattle.std.proofs.Common.{Ok, ap, ◌∙◌}
use Rattle.rebalance.proofs.merging.try_merge.Goals as goal

pub returns-in-Joined-clause-merged : goal.returns-in-Joined-clause-merged
returns-in-Joined-clause-merged c = c.try_merge_chunk.ensures.joined (c.in_ok-merged.was ∙ ap Ok c.in-Joined.is)

pub returns-in_default-clause-merged : goal.returns-in_default-clause-merged
returns-in_default-clause-merged c = (c.try_merge_chunk.ensures.apart c.in_default.field-0 (c.in_ok-merged.was ∙ ap Ok c.in_default.is)).stays
