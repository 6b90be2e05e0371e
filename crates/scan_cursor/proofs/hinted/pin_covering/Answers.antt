use Rattle.std.proofs.Common.{IfErr, subst}
use Rattle.oak_core.specs.Passes.{state, key as sizes, call_of}
use Rattle.oak_core.specs.declared.table.Pass.{Pass}
use Rattle.chunk_ops.specs.AskedRanges.{CoversKey}
use Rattle.chunk_ops.specs.RoomPins.{FoundMoved}
use Rattle.scan_cursor.proofs.hinted.pin_covering.Goals as goal

pub returns-clause-moved : goal.returns-clause-moved
returns-clause-moved c = subst (λ (p : Pass). IfErr c.pin_for.result (λ _. FoundMoved (sizes c.args.table.now) (call_of p) (CoversKey c.args.key.now) (state p) (state c.pin_for.new.pass))) c.hint-hint.ensures c.pin_for.ensures.moved
