use Rattle.oak_core.specs.Passes.{key as sizes, state}
use Rattle.chunk_ops.proofs.StepsAlong.{starts_inside}
use Rattle.chunk_ops.proofs.listing.next_entry.Goals as goal

pub link_word-word-requires : goal.link_word-word-requires
link_word-word-requires c = record { inside = starts_inside (sizes c.args.table.now) c.args.pin.now.room c.args.from (state c.args.pass.now) c.requires.pinned c.requires.from }
