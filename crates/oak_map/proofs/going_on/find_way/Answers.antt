use Rattle.std.proofs.Common.{Ok, ◌∙◌}
use Rattle.oak_map.proofs.going_on.find_way.Goals as goal

pub returns-in-Ok-Ok-Loosened-clause-way : goal.returns-in-Ok-Ok-Loosened-clause-way
returns-in-Ok-Ok-Loosened-clause-way c = let x = c.in-Ok-Ok-Loosened in (c.in-Crowded.is, c.try_split.ensures.loosened (x.is ∙ (λ i. Ok ((x.field-0-is ∙ (λ j. Ok (x.field-0-0-is j))) i))))

pub returns-in-Ok-Ok-Halved-clause-way : goal.returns-in-Ok-Ok-Halved-clause-way
returns-in-Ok-Ok-Halved-clause-way c = let x = c.in-Ok-Ok-Halved in (c.in-Crowded.is, c.try_split.ensures.halved x.room (x.is ∙ (λ i. Ok ((x.field-0-is ∙ (λ j. Ok (x.field-0-0-is j))) i))))
