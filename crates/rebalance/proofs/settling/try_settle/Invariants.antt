use Rattle.std.proofs.Common.{◌≡◌, ◌+◌, ◌<◌, ◌≤◌, length}
use Rattle.oak_model.specs.Key.{IsKey}
use Rattle.oak_model.specs.KeyNumber.{key_number}
use Rattle.oak_core.specs.AloneWords.{Runs}
use Rattle.oak_core.specs.Passes.{state, key as sizes, call_of}
use Rattle.oak_core.specs.Scratch.{StaysButSlots}
use Rattle.chunk_ops.specs.RoomPins.{HadMoment}
use Rattle.rebalance.specs.Calls.{Leaves}
use Rattle.rebalance.specs.Merging.{SweepsBelow}
use Rattle.rebalance.specs.Settling.{SettlesBelow}
use Rattle.rebalance.proofs.CountedChunks.{GoesOver}
use Rattle.rebalance.proofs.settling.try_settle.Given as goal

abbrev pub invariant-loop : goal.invariant-loop
invariant-loop l = record {
  key : IsKey l.from;
  stays : StaysButSlots l.fn.pass l.pass;
  leaves : Leaves (call_of l.fn.pass) (state l.fn.pass) (state l.pass);
  unclaimed : (state l.pass).findings.rebalances.claims ≡ (state l.fn.pass).findings.rebalances.claims;
  below : SweepsBelow l.from (state l.fn.pass) (state l.pass);
  swept : length (state l.fn.pass).findings.swept + l.counter ≤ length (state l.pass).findings.swept;
  moment : 0 < l.counter → HadMoment (sizes l.table) (state l.pass);
  alone : Runs (SettlesBelow (sizes l.table) (key_number l.from)) (state l.fn.pass) (state l.pass);
  over : Runs (GoesOver (sizes l.table) (key_number l.from) l.counter) (state l.fn.pass) (state l.pass);
}
