use Rattle.oak_core.specs.Passes.{key, call_of, state}
use Rattle.oak_core.specs.ArenaCalls.{of_pass}
use Rattle.arena_ops.proofs.BlockFacts.{stores}
use Rattle.arena_ops.proofs.taking.store.Goals as goal

pub returns-clause-stored : goal.returns-clause-stored
returns-clause-stored c = stores (key c.args.table.now) (call_of c.args.pass.now) c.args.block.now.class c.args.block.now.number (state c.args.pass.now) c.requires.held.inside c.args.word c.args.value (state c.store_word.new.pass) c.requires.inside
    (c.store_word.ensures.told of_pass c.args.block.now.class c.args.block.now.number c.args.word record { inside = c.requires.held.inside; place = c.requires.inside; word_is = c.bytes_at-place.ensures } c.requires.held)
