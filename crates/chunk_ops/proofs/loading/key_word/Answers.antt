use Rattle.oak_core.specs.Passes.{state, key}
use Rattle.chunk_ops.proofs.WordLoads.{found_inside}
use Rattle.chunk_ops.proofs.loading.key_word.Goals as goal

pub key_at-word-requires-clause-entry : goal.key_at-word-requires-clause-entry
key_at-word-requires-clause-entry c = found_inside (key c.args.table.now) c.args.pin.now.room c.args.entry.0 c.requires.entry.0 (state c.args.pass.now) c.requires.pinned c.requires.entry.1
