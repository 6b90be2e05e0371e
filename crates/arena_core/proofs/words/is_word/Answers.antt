use Rattle.arena_core.proofs.WordLaws.{whole_same, last_same}
use Rattle.arena_core.proofs.words.is_word.Goals as goal

pub returns-then-from-bytes : goal.returns-then-from-bytes
returns-then-from-bytes c = whole_same c.args.bytes.now (λ k. (c.type_inv.bytes k).fits) c.args.i c.eight_bytes.result c.args.word c.if-from-bytes.true c.eight_bytes.ensures c.ranges.word.fits

pub returns : goal.returns
returns c = last_same c.args.bytes.now (λ k. (c.type_inv.bytes k).fits) c.args.i c.word_from.result c.first_bytes.result c.args.word c.requires c.if-from-bytes.false c.word_from.ensures c.first_bytes.ensures
