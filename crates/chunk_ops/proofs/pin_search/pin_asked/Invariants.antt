use Rattle.std.proofs.Common.{◌<◌, ℕ}
use Rattle.oak_core.specs.AloneWords.{Runs}
use Rattle.oak_core.specs.Passes.{Stays, state, key, call_of}
use Rattle.oak_core.specs.Tries.{PinsRooms}
use Rattle.chunk_ops.specs.AskedRanges.{IsAsked}
use Rattle.chunk_ops.specs.LoneRooms.{LoneTries}
use Rattle.chunk_ops.specs.PinRecords.{OnlyMeets}
use Rattle.chunk_ops.specs.RoomPins.{FoundOff, MissesFirst, HadMoment}
use Rattle.chunk_ops.proofs.pin_search.pin_asked.Given as goal

abbrev pub invariant-loop-room : goal.invariant-loop-room
invariant-loop-room l = record {
  stays : Stays l.fn.pass l.pass;
  only : OnlyMeets (call_of l.fn.pass) (state l.fn.pass) (state l.pass);
  off : (r : ℕ) → r < l.room → FoundOff (key l.table) (call_of l.fn.pass) r (IsAsked l.asked l.key) (state l.fn.pass) (state l.pass);
  first : MissesFirst (key l.table) (call_of l.fn.pass) l.first (IsAsked l.asked l.key) (state l.fn.pass) (state l.pass);
  tries : (n : ℕ) × PinsRooms (key l.table) n l.fn.pass l.pass;
  begun : HadMoment (key l.table) (state l.fn.pass);
  ended : HadMoment (key l.table) (state l.pass);
  alone : Runs (LoneTries (key l.table) l.room (IsAsked l.asked l.key) (state l.fn.pass).rooms) (state l.fn.pass) (state l.pass);
}
