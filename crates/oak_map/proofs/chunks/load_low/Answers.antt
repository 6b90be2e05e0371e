use Rattle.std.proofs.Common.{sym, subst}
use Rattle.oak_model.specs.Key.{IsKey}
use Rattle.oak_core.specs.Passes.{key as sizes, state}
use Rattle.chunk_ops.specs.PinRecords.{room_pin}
use Rattle.chunk_ops.specs.PinnedBounds.{low_bound}
use Rattle.oak_map.proofs.ChunkReads.{low_is_key}
use Rattle.oak_map.proofs.chunks.load_low.Goals as goal

pub returns-in-Some-clause-low : goal.returns-in-Some-clause-low
returns-in-Some-clause-low c = let v = state c.args.pass.now in let low = c.in-Some.ensures.low in
    subst IsKey (sym (c.of.ensures (low_bound (room_pin v)) low.1)) (low_is_key (sizes c.args.table.now) c.args.pin.now.room v c.requires.pinned low.0)
