use Rattle.std.proofs.Common.{List, ℕ, get_or, ap, ◌∙◌, ◌%◌}
use Rattle.oak_core.specs.Passes.{state}
use Rattle.chunk_ops.specs.PinRecords.{room_pin}
use Rattle.chunk_ops.proofs.BoundWords.{bound_byte_is}
use Rattle.chunk_ops.proofs.bounds.bound_byte.Goals as goal

pub returns-clause-byte : goal.returns-clause-byte
returns-clause-byte c = ap (λ (xs : List ℕ). get_or xs (c.args.i % 8) 0) c.to_be_bytes.ensures ∙ bound_byte_is (room_pin (state c.args.pass.now)) c.requires.pinned.bounds c.args.bound c.args.i c.bound_word-word.result c.requires.byte c.bound_word-word.ensures.word
