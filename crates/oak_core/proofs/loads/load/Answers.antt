use Rattle.oak_core.specs.Passes.{state, key, opened_at, call_of}
use Rattle.oak_core.proofs.seats.Allowed.{allows_load}
use Rattle.oak_core.proofs.seats.AloneRuns.{loads_run}
use Rattle.oak_core.proofs.loads.load.Goals as goal

pub load_said-requires-clause-rule : goal.load_said-requires-clause-rule
load_said-requires-clause-rule c = allows_load (key c.args.table.now) (opened_at c.args.table.now) (call_of c.args.pass.now) _ c.args.pass.now.seat.id c.args.pass.now.seat.me c.args.pass.now.going c.args.word c.requires.inside

pub returns-clause-runs : goal.returns-clause-runs
returns-clause-runs c = loads_run (key c.args.table.now) (call_of c.args.pass.now) c.args.word (state c.args.pass.now) _ _ c.load_said.ensures.told
