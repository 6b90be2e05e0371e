use Rattle.std.proofs.Common.{sym, subst}
use Rattle.oak_model.specs.Key.{IsKey}
use Rattle.oak_core.specs.Passes.{key as sizes, state}
use Rattle.chunk_ops.specs.PinRecords.{room_pin}
use Rattle.chunk_ops.specs.PinnedBounds.{high_bound}
use Rattle.oak_map.proofs.ChunkReads.{end_is_key}
use Rattle.oak_map.proofs.chunks.load_high.Goals as goal

pub returns-in-Some-clause-high : goal.returns-in-Some-clause-high
returns-in-Some-clause-high c = let v = state c.args.pass.now in let high = c.in-Some.ensures.high in let covers = c.requires.covers in
    subst IsKey (sym (c.of.ensures (high_bound (room_pin v)) high.1)) (end_is_key (sizes c.args.table.now) c.args.pin.now.room v covers.0 c.requires.pinned covers.1 high.0)
