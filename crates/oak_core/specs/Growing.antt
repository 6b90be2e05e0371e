-- What a pass has noted only grows.
use Rattle.oak_model.specs.Counts.{Begins}
use Rattle.oak_core.specs.declared.states.Findings.{Findings}

-- each list of the first begins that of the second
pub record GrowsTo (fs fs' : Findings) : Type 0 where
  pub met : Begins fs.met fs'.met
  pub fulls : Begins fs.fulls fs'.fulls
  pub swept : Begins fs.swept fs'.swept
  pub sights : Begins fs.sights fs'.sights
  pub gones : Begins fs.gones fs'.gones
  pub rebalances : Begins fs.rebalances.steps fs'.rebalances.steps
  pub claims : Begins fs.rebalances.claims fs'.rebalances.claims
