use Rattle.std.proofs.Common.{◌≡◌, ◌*◌}
use Rattle.std.specs.declared.cmp.Ordering.TheVariants.{Equal}
use Rattle.oak_core.specs.Passes.{Stays, state, call_of, key}
use Rattle.oak_core.specs.Tries.{PinsRooms}
use Rattle.chunk_ops.specs.PinnedBounds.{bound_bytes}
use Rattle.chunk_ops.specs.PinRecords.{OnlyMeets, room_pin}
use Rattle.chunk_ops.proofs.OrderLaws.{padded_cmp}
use Rattle.chunk_ops.proofs.ranges.compare_behind.Given as goal

abbrev pub invariant-loop-i : goal.invariant-loop-i
invariant-loop-i l = record {
  stays : Stays l.fn.pass l.pass;
  tries : PinsRooms (key l.table) 0 l.fn.pass l.pass;
  only : OnlyMeets (call_of l.fn.pass) (state l.fn.pass) (state l.pass);
  tied : padded_cmp (8 * l.i) l.key (bound_bytes l.bound (room_pin (state l.fn.pass))) ≡ Equal;
}
