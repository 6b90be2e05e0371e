use Rattle.std.proofs.Common.{◌∙◌}
use Rattle.oak_core.specs.Passes.{key}
use Rattle.oak_core.proofs.memory.RoomPlaces.{key_behind}
use Rattle.oak_core.proofs.table.OakTable.key_at.Goals as goal

pub returns : goal.returns
returns c = c.behind_pin.ensures ∙ key_behind (key c.args.self.now) c.args.room c.args.entry
