use Rattle.oak_run.specs.ClosedRuns.{closing_of}
use Rattle.oak_run.proofs.DrawnRuns.{workload-fits}
use Rattle.oak_run.proofs.laws.workload_runs.Goals as goal

pub returns : goal.returns
returns r = λ c shape calls threads start said finals is fits. workload-fits (closing_of c) shape calls threads start said finals is fits
