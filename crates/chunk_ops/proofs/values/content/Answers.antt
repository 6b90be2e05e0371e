use Rattle.oak_core.specs.Passes.{state, key}
use Rattle.chunk_ops.proofs.WordLoads.{found_inside}
use Rattle.chunk_ops.proofs.values.content.Goals as goal

pub key_at-at-requires-clause-entry : goal.key_at-at-requires-clause-entry
key_at-at-requires-clause-entry c = found_inside (key c.args.table.now) c.args.pin.now.room c.args.entry.0 c.requires.entry.0 (state c.args.pass.now) c.requires.pinned c.requires.entry.1

pub returns-clause-content : goal.returns-clause-content
returns-clause-content c = c.value_word_at.ensures.content c.content_of.result c.content_of.ensures

pub returns-clause-tells : goal.returns-clause-tells
returns-clause-tells c = λ k h. c.value_word_at.ensures.tells c.content_of.result k c.content_of.ensures h

pub returns-clause-alone : goal.returns-clause-alone
returns-clause-alone c = c.value_word_at.ensures.alone c.content_of.result c.content_of.ensures
