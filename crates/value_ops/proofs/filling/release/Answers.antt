use Rattle.std.proofs.Common.{◌*◌, ap}
use Rattle.header_core.specs.declared.holds.HeldAs.TheVariants.{Owned}
use Rattle.oak_core.specs.Passes.{state, key, call_of}
use Rattle.value_ops.proofs.FreedFacts.{releases_owned}
use Rattle.value_ops.proofs.filling.release.Goals as goal

pub returns-clause-released : goal.returns-clause-released
returns-clause-released c = releases_owned (key c.args.table.now) (call_of c.args.pass.now) c.args.owned.header (state c.args.pass.now) c.release_header.result (state c.release_header.new.pass)
    (c.release_header.ensures.told c.args.owned.header Owned record { inside = c.requires.inside; word_is = c.pin_at-word.ensures; operand_is = ap (λ n. n * 268435456) c.from.ensures })
