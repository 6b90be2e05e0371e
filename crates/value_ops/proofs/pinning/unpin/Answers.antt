use Rattle.std.proofs.Common.{refl}
use Rattle.oak_core.specs.Passes.{state, key, call_of}
use Rattle.value_ops.proofs.PinFacts.{may_unpin, pin_ends}
use Rattle.value_ops.proofs.pinning.unpin.Goals as goal

pub unpin_header-requires-clause-names : goal.unpin_header-requires-clause-names
unpin_header-requires-clause-names c = (c.args.header, record { inside = c.requires.pinned.inside; word_is = c.pin_at-word.ensures }, refl, may_unpin (key c.args.table.now) c.args.header (state c.args.pass.now) c.requires.pinned)

pub returns-clause-undone : goal.returns-clause-undone
returns-clause-undone c = pin_ends (key c.args.table.now) (call_of c.args.pass.now) c.args.header c.unpin_header.result (state c.args.pass.now) (state c.unpin_header.new.pass)
    (c.unpin_header.ensures.told c.args.header record { inside = c.requires.pinned.inside; word_is = c.pin_at-word.ensures })
