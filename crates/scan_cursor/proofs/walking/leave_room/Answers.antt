use Rattle.std.proofs.Common.{◌∙◌, sym}
use Rattle.scan_cursor.proofs.WalkLaws.{ends_open}
use Rattle.scan_cursor.proofs.walking.leave_room.Goals as goal

pub returns-in-None-clause-leaves : goal.returns-in-None-clause-leaves
returns-in-None-clause-leaves c = ends_open c.args.way _ c.args.high.now c.args.walk.now.bound c.requires.high (sym c.take.ensures.value ∙ c.in-None.is)
