use Rattle.arena_core.proofs.Shifts.{shifted_digits}
use Rattle.arena_core.proofs.WordLaws.{whole_is}
use Rattle.arena_core.proofs.words.first_bytes.Goals as goal

pub returns-then-n-ge-WORD : goal.returns-then-n-ge-WORD
returns-then-n-ge-WORD c = whole_is c.args.word c.args.n c.ranges.word.fits c.if-n-ge-WORD.true

pub returns : goal.returns
returns c = shifted_digits c.args.word c.args.n c.ranges.word.fits c.requires c.if-n-ge-WORD.false
