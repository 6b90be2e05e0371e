use Rattle.std.proofs.Common.{sym, subst, MatchBool}
use Rattle.chunk_core.specs.PinnedRooms.{span_of}
use Rattle.oak_core.specs.Passes.{state}
use Rattle.chunk_ops.specs.declared.ranges.Asked.{Asked}
use Rattle.chunk_ops.specs.AskedRanges.{IsAsked}
use Rattle.chunk_ops.specs.PinRecords.{room_pin}
use Rattle.chunk_ops.proofs.BoundWords.{last_high}
use Rattle.chunk_ops.proofs.ranges.is_asked.Goals as goal

pub returns-in-Last-clause-asked : goal.returns-in-Last-clause-asked
returns-in-Last-clause-asked c = let p = room_pin (state c.args.pass.now) in
    subst (λ (a : Asked). MatchBool c.is_none.result (IsAsked a c.args.key.now (span_of p)) (IsAsked a c.args.key.now (span_of p) → ⊥)) (sym c.in-Last.is)
    (last_high p c.high_len.result c.is_none.result c.is_none.ensures c.high_len.ensures.length)
