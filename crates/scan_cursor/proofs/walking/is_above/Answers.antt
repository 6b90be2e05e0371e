use Rattle.scan_cursor.proofs.KeyWindows.{order_is}
use Rattle.scan_cursor.proofs.walking.is_above.Goals as goal

pub returns : goal.returns
returns c = rw (c.is_gt.ensures, c.cmp_keys.ensures) (order_is c.args.a.now c.args.b.now c.requires.a c.requires.b)
