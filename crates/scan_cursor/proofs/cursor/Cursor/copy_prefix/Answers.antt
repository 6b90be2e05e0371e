use Rattle.scan_cursor.proofs.CursorLaws.{pair_reads}
use Rattle.scan_cursor.proofs.cursor.Cursor.copy_prefix.Goals as goal

pub returns-clause-reads : goal.returns-clause-reads
returns-clause-reads c = pair_reads c.args.self.now c.pinned.result c.requires.cursor c.pinned.ensures _ c.copy_prefix.ensures.reads
