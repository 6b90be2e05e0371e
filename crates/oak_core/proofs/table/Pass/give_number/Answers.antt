use Rattle.oak_core.specs.Passes.{key, opened_at, call_of}
use Rattle.oak_core.proofs.seats.Allowed.{allows_give, one_shifted}
use Rattle.oak_core.proofs.table.Pass.give_number.Goals as goal

pub or_said-requires-clause-rule : goal.or_said-requires-clause-rule
or_said-requires-clause-rule c = allows_give (key c.args.table.now) (opened_at c.args.table.now) (call_of c.args.self.now) _ c.args.self.now.seat.id c.args.self.now.seat.me c.args.self.now.going c.args.number _ (one_shifted c.args.number c.requires.small) c.requires.may

pub returns-clause-told : goal.returns-clause-told
returns-clause-told c = c.or_said.ensures.told c.args.number (one_shifted c.args.number c.requires.small)
