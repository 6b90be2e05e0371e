use Rattle.oak_core.specs.Passes.{Stays, state, call_of}
use Rattle.chunk_ops.specs.PinnedBounds.{bound_bytes}
use Rattle.chunk_ops.specs.PinRecords.{OnlyMeets, room_pin}
use Rattle.chunk_ops.proofs.StoredLaws.{Filled}
use Rattle.chunk_ops.proofs.bounds.load_bound.Given as goal

abbrev pub invariant-loop-i : goal.invariant-loop-i
invariant-loop-i l = record {
  stays : Stays l.fn.pass l.pass;
  only : OnlyMeets (call_of l.fn.pass) (state l.fn.pass) (state l.pass);
  words : Filled (bound_bytes l.bound (room_pin (state l.fn.pass))) l.i l.words;
}
