use Rattle.std.proofs.Common.{ap}
use Rattle.chunk_ops.specs.Room.{Room}
use Rattle.chunk_ops.proofs.KeyMeets.{compare_loads}
use Rattle.chunk_ops.proofs.pinned_table.PinnedTableLinkedRoom.compare.Goals as goal

pub returns-clause-pinned : goal.returns-clause-pinned
returns-clause-pinned c = c.compare.ensures.reads.pin

pub returns-clause-same : goal.returns-clause-same
returns-clause-same c = ap (λ (r : Room). r.found) c.compare.ensures.reads.same

pub returns-clause-order : goal.returns-clause-order
returns-clause-order c = c.compare.ensures.order

pub returns-clause-meets : goal.returns-clause-meets
returns-clause-meets c = compare_loads c.args.self.now c.compare.new.room c.args.key.now c.args.entry c.compare.ensures.reads
