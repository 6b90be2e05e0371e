use Rattle.std.proofs.Common.{rules}
use Rattle.oak_core.specs.Passes.{key, opened_at, state}
use Rattle.oak_core.proofs.seats.Allowed.{joins}
use Rattle.oak_core.proofs.seats.Splits.{sees_longer}
use Rattle.oak_core.proofs.table.Pass.join.Goals as goal

pub join_seat-requires : goal.join_seat-requires
join_seat-requires c = (
  search rules,
  search rules,
  search rules,
  search rules,
  joins (key c.args.table.now) (opened_at c.args.table.now) c.args.self.now.seat.id c.args.self.now.seat.me.0 c.args.other.seat.id c.args.other.seat.me.0 c.args.self.now.going (record { idle = c.requires.idle.1; going = c.args.other.going }),
)

pub returns-clause-seen : goal.returns-clause-seen
returns-clause-seen c k = sees_longer (state c.args.self.now) (state c.args.other) _ k (search rules)
