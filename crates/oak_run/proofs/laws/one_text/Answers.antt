use Rattle.oak_run.specs.ClosedRuns.{closing_of}
use Rattle.oak_run.proofs.OneTexts as texts
use Rattle.oak_run.proofs.laws.one_text.Goals as goal

pub returns : goal.returns
returns r = λ c d shape calls ys zs m n first second y_never z_never. texts.one_text (closing_of c) (closing_of d) shape calls ys zs m n first second y_never z_never
