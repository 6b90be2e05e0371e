use Rattle.std.proofs.Common.{arith}
use Rattle.oak_core.specs.Passes.{key, call_of, state}
use Rattle.arena_core.proofs.ArenaSteps.{mask_is}
use Rattle.arena_ops.proofs.BlockFacts.{gives}
use Rattle.arena_ops.proofs.taking.give.Goals as goal

pub returns-clause-given : goal.returns-clause-given
returns-clause-given c = gives (key c.args.table.now) (call_of c.args.pass.now) c.args.block.class c.args.block.number (state c.args.pass.now) c.requires.held.inside c.clear_bit.result (state c.clear_bit.new.pass)
    (c.clear_bit.ensures.told c.args.block.class c.args.block.number record { inside = c.requires.held.inside; word_is = c.bits_at-word.ensures; operand_is = mask_is _ (omega arith) })
