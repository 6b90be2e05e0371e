use Rattle.std.proofs.Common.{rules}
use Rattle.oak_core.specs.Passes.{key, opened_at}
use Rattle.oak_core.proofs.seats.Allowed.{splits}
use Rattle.oak_core.proofs.table.Pass.cut.Goals as goal

pub split_seat-seat-requires : goal.split_seat-seat-requires
split_seat-seat-requires c = (search rules, search rules, splits (key c.args.table.now) (opened_at c.args.table.now) c.args.self.now.seat.id c.args.self.now.seat.me.0 c.requires.may)
