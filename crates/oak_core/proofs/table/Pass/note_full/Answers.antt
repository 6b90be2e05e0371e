use Rattle.oak_core.specs.Passes.{state, key, opened_at, call_of}
use Rattle.oak_core.proofs.seats.Allowed.{allows_note}
use Rattle.oak_core.proofs.seats.AloneRuns.{note_runs}
use Rattle.oak_core.proofs.table.Pass.note_full.Goals as goal

pub note_said-requires-clause-rule : goal.note_said-requires-clause-rule
note_said-requires-clause-rule c = allows_note (key c.args.table.now) (opened_at c.args.table.now) (call_of c.args.self.now) _ c.args.self.now.seat.id c.args.self.now.seat.me c.args.self.now.going c.args.lack c.requires.lacks.0 c.requires.lacks.1 c.requires.lacks.2

pub returns-clause-noted : goal.returns-clause-noted
returns-clause-noted c = c.note_said.ensures.told.1

pub returns-clause-runs : goal.returns-clause-runs
returns-clause-runs c = let n = c.note_said.ensures.told.1 in note_runs (key c.args.table.now) (call_of c.args.self.now) c.args.lack n.began (state c.args.self.now) n.number _ n.told
