use Rattle.std.proofs.Common.{IfErr, IfOk, subst}
use Rattle.oak_core.specs.Passes.{state, key as sizes, call_of}
use Rattle.oak_core.specs.declared.table.Pass.{Pass}
use Rattle.chunk_ops.specs.AskedRanges.{EndsUnder}
use Rattle.chunk_ops.specs.RoomPins.{FoundMoved, PinsOpen}
use Rattle.scan_cursor.proofs.hinted.pin_below.Goals as goal

pub returns-clause-pinned : goal.returns-clause-pinned
returns-clause-pinned c = subst (λ (p : Pass). IfOk c.pin_last.result (λ r. PinsOpen (sizes c.args.table.now) (call_of p) r.room (EndsUnder c.args.key.now) (state p) (state c.pin_last.new.pass))) c.hint_under-hint.ensures c.pin_last.ensures.pinned

pub returns-clause-moved : goal.returns-clause-moved
returns-clause-moved c = subst (λ (p : Pass). IfErr c.pin_last.result (λ _. FoundMoved (sizes c.args.table.now) (call_of p) (EndsUnder c.args.key.now) (state p) (state c.pin_last.new.pass))) c.hint_under-hint.ensures c.pin_last.ensures.moved
