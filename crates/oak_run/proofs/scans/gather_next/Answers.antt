use Rattle.oak_run.proofs.GatherLaws.{adds_pair, advanced, ends_on, goes_both, has_pair}
use Rattle.oak_run.proofs.scans.gather_next.Goals as goal

pub returns-then-not-advance-clause-on : goal.returns-then-not-advance-clause-on
returns-then-not-advance-clause-on g c = let e = c.advance.ensures in advanced c.args.cursor.now c.advance.new.self e.table e.low e.high e.way e.own e.cursor e.later

pub returns-then-not-advance-clause-ended : goal.returns-then-not-advance-clause-ended
returns-then-not-advance-clause-ended g c = λ t. (ends_on c.advance.result c.args.cursor.now c.advance.new.self c.args.pairs.now.items c.if-not-advance.true c.advance.ensures.advances).0

pub returns-then-not-advance-clause-gives : goal.returns-then-not-advance-clause-gives
returns-then-not-advance-clause-gives g c = (ends_on c.advance.result c.args.cursor.now c.advance.new.self c.args.pairs.now.items c.if-not-advance.true c.advance.ensures.advances).1

pub copy_pair-requires-clause-given : goal.copy_pair-requires-clause-given
copy_pair-requires-clause-given g c = has_pair c.advance.result c.args.cursor.now c.advance.new.self c.if-not-advance.false c.advance.ensures.advances

pub returns-in_err-pair-clause-on : goal.returns-in_err-pair-clause-on
returns-in_err-pair-clause-on g c = let e = c.advance.ensures in
    goes_both c.args.cursor.now c.advance.new.self c.copy_pair.new.cursor (advanced c.args.cursor.now c.advance.new.self e.table e.low e.high e.way e.own e.cursor e.later) c.copy_pair.ensures.keeps.on

pub returns-in_err-push-clause-on : goal.returns-in_err-push-clause-on
returns-in_err-push-clause-on g c = let e = c.advance.ensures in
    goes_both c.args.cursor.now c.advance.new.self c.copy_pair.new.cursor (advanced c.args.cursor.now c.advance.new.self e.table e.low e.high e.way e.own e.cursor e.later) c.copy_pair.ensures.keeps.on

pub returns-clause-on : goal.returns-clause-on
returns-clause-on g c = let e = c.advance.ensures in
    goes_both c.args.cursor.now c.advance.new.self c.copy_pair.new.cursor (advanced c.args.cursor.now c.advance.new.self e.table e.low e.high e.way e.own e.cursor e.later) c.copy_pair.ensures.keeps.on

pub returns-clause-gives : goal.returns-clause-gives
returns-clause-gives g c = adds_pair c.advance.result c.args.cursor.now c.advance.new.self c.copy_pair.new.cursor c.in_ok-pair.pair c.args.pairs.now.items c.push.new.self.items c.if-not-advance.false c.advance.ensures.advances c.copy_pair.ensures.keeps c.in_ok-pair.ensures.pair c.in_ok-push.ensures.items
