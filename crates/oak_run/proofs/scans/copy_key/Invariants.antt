use Rattle.std.proofs.Common.{◌≡◌, take}
use Rattle.scan_cursor.specs.Cursors.{key_of}
use Rattle.oak_run.proofs.scans.copy_key.Given as goal

abbrev pub invariant-loop-i : goal.invariant-loop-i
invariant-loop-i l = l.bytes.items ≡ take l.i (key_of l.fn.cursor)
