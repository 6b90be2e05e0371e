use Rattle.std.proofs.Common.{ap}
use Rattle.chunk_ops.specs.Room.{Room}
use Rattle.link_search.specs.Bits.{bits}
use Rattle.chunk_ops.proofs.KeyMeets.{search_loads}
use Rattle.chunk_ops.proofs.pinned_table.PinnedTableLinkedRoom.search.Goals as goal

pub returns-in-Ok-clause-pinned : goal.returns-in-Ok-clause-pinned
returns-in-Ok-clause-pinned c = c.search_sorted.ensures.reads.pin

pub returns-in-Ok-clause-same : goal.returns-in-Ok-clause-same
returns-in-Ok-clause-same c = ap (λ (r : Room). r.found) c.search_sorted.ensures.reads.same

pub returns-in-Ok-clause-loads : goal.returns-in-Ok-clause-loads
returns-in-Ok-clause-loads c = search_loads c.args.self.now c.search_sorted.new.room c.args.key.now (bits c.args.prefix) c.search_sorted.ensures.reads

pub returns-in-Err-clause-pinned : goal.returns-in-Err-clause-pinned
returns-in-Err-clause-pinned c = c.search_sorted.ensures.reads.pin

pub returns-in-Err-clause-same : goal.returns-in-Err-clause-same
returns-in-Err-clause-same c = ap (λ (r : Room). r.found) c.search_sorted.ensures.reads.same

pub returns-in-Err-clause-loads : goal.returns-in-Err-clause-loads
returns-in-Err-clause-loads c = search_loads c.args.self.now c.search_sorted.new.room c.args.key.now (bits c.args.prefix) c.search_sorted.ensures.reads
