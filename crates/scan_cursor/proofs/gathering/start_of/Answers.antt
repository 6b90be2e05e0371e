use Rattle.std.proofs.Common.{sym, subst, true}
use Rattle.oak_core.specs.Passes.{state, key as sizes, call_of}
use Rattle.scan_cursor.specs.declared.ways.Way.{Way}
use Rattle.scan_cursor.specs.Batches.{Starts}
use Rattle.scan_cursor.specs.Holding.{IsAhead}
use Rattle.scan_cursor.proofs.gathering.start_of.Goals as goal

pub start_up-requires-clause-ahead : goal.start_up-requires-clause-ahead
start_up-requires-clause-ahead c = subst (λ (w : Way). IsAhead (sizes c.args.table.now) c.args.pin.now.room w true c.args.key.now (state c.args.pass.now)) c.in-Up.is c.requires.ahead

pub start_down-requires-clause-ahead : goal.start_down-requires-clause-ahead
start_down-requires-clause-ahead c = subst (λ (w : Way). IsAhead (sizes c.args.table.now) c.args.pin.now.room w true c.args.key.now (state c.args.pass.now)) c.in-Down.is c.requires.ahead

pub returns-in-Up-clause-starts : goal.returns-in-Up-clause-starts
returns-in-Up-clause-starts c = let s = c.start_up.result in subst (λ (w : Way). Starts (sizes c.args.table.now) (call_of c.args.pass.now) c.args.pin.now.room w c.args.key.now s.near s.first (state c.args.pass.now) (state c.start_up.new.pass)) (sym c.in-Up.is) c.start_up.ensures.starts

pub returns-in-Down-clause-starts : goal.returns-in-Down-clause-starts
returns-in-Down-clause-starts c = let s = c.start_down.result in subst (λ (w : Way). Starts (sizes c.args.table.now) (call_of c.args.pass.now) c.args.pin.now.room w c.args.key.now s.near s.first (state c.args.pass.now) (state c.start_down.new.pass)) (sym c.in-Down.is) c.start_down.ensures.starts
