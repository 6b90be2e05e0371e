use Rattle.std.proofs.Common.{◌∙◌}
use Rattle.scan_cursor.proofs.CursorLaws.{pair_long}
use Rattle.scan_cursor.proofs.cursor.Cursor.len.Goals as goal

pub returns : goal.returns
returns c = c.len.ensures ∙ pair_long c.args.self.now c.pinned.result c.requires.cursor c.pinned.ensures
