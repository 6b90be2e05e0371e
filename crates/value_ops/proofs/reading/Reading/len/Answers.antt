use Rattle.std.proofs.Common.{sym, ◌∙◌}
use Rattle.oak_core.specs.Passes.{state, key}
use Rattle.value_ops.proofs.ValueFacts.{long}
use Rattle.value_ops.proofs.reading.Reading.len.Goals as goal

pub returns : goal.returns
returns c = let r = c.args.self.now in c.len.ensures ∙ sym (long (key r.table.now) r.value (state r.pass.now) c.requires.pinned)
