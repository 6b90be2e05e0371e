use Rattle.std.proofs.Common.{◌∙◌, ap}
use Rattle.std.specs.Ordering.{nat_cmp}
use Rattle.oak_core.specs.Passes.{state}
use Rattle.chunk_ops.specs.PinRecords.{room_pin}
use Rattle.arena_core.specs.Words.{word_of}
use Rattle.chunk_ops.proofs.BoundWords.{bound_part}
use Rattle.chunk_ops.proofs.ranges.compare_word.Goals as goal

pub returns-clause-order : goal.returns-clause-order
returns-clause-order c = let part = bound_part (room_pin (state c.args.pass.now)) c.requires.pinned.bounds c.args.bound c.args.i c.bound_word-word.result c.args.len c.requires.long c.requires.theirs c.bound_word-word.ensures.word in
    c.cmp.ensures ∙ (λ j. nat_cmp (c.word_from.ensures j) ((c.first_bytes-theirs.ensures ∙ ap word_of part) j))
