use Rattle.oak_caller.proofs.CursorCalls.{advanced, finds_end, finds_pair, goes_both, pair_read}
use Rattle.oak_caller.proofs.giving.next_value.Goals as goal

pub returns-then-not-advance-clause-on : goal.returns-then-not-advance-clause-on
returns-then-not-advance-clause-on g c = let e = c.advance.ensures in advanced c.args.cursor.now c.advance.new.self e.table e.low e.high e.way e.own e.cursor e.later

pub returns-then-not-advance-clause-ended : goal.returns-then-not-advance-clause-ended
returns-then-not-advance-clause-ended g c = finds_end c.advance.result c.args.cursor.now c.advance.new.self c.if-not-advance.true c.advance.ensures.advances

pub copy_value-requires-clause-given : goal.copy_value-requires-clause-given
copy_value-requires-clause-given g c = (finds_pair c.advance.result c.args.cursor.now c.advance.new.self c.if-not-advance.false c.advance.ensures.advances).value

pub returns-clause-on : goal.returns-clause-on
returns-clause-on g c = let e = c.advance.ensures in
    goes_both c.args.cursor.now c.advance.new.self c.copy_value.new.cursor (advanced c.args.cursor.now c.advance.new.self e.table e.low e.high e.way e.own e.cursor e.later) c.copy_value.ensures.keeps.on

pub returns-clause-given : goal.returns-clause-given
returns-clause-given g c = let e = c.copy_value.ensures in pair_read c.args.cursor.now c.advance.new.self c.copy_value.new.cursor e.value_stays (finds_pair c.advance.result c.args.cursor.now c.advance.new.self c.if-not-advance.false c.advance.ensures.advances) e.keeps e.same
