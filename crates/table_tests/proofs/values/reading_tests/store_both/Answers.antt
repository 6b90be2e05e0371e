use Rattle.oak_core.specs.Passes.{state, key, call_of}
use Rattle.value_ops.proofs.OneHeaderLaws.{stored_held}
use Rattle.table_tests.proofs.values.reading_tests.store_both.Goals as goal

pub store-requires-2-clause-held : goal.store-requires-2-clause-held
store-requires-2-clause-held c = stored_held (key c.args.table.now) (call_of c.args.pass.now) c.args.block.now.class c.args.block.now.number 0 c.args.words.0 (state c.args.pass.now) (state c.store.new.pass) c.requires.held c.store.ensures.stored

pub returns-clause-held : goal.returns-clause-held
returns-clause-held c = stored_held (key c.args.table.now) (call_of c.store.new.pass) c.args.block.now.class c.args.block.now.number 1 c.args.words.1 (state c.store.new.pass) (state c.store-2.new.pass)
    (stored_held (key c.args.table.now) (call_of c.args.pass.now) c.args.block.now.class c.args.block.now.number 0 c.args.words.0 (state c.args.pass.now) (state c.store.new.pass) c.requires.held c.store.ensures.stored) c.store-2.ensures.stored
