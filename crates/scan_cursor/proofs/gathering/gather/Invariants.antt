use Rattle.std.proofs.Common.{◌≡◌, ◌≤◌, ◌-◌, length, take}
use Rattle.oak_model.specs.declared.limits.TheConstants.{GREATEST_ENTRIES}
use Rattle.oak_core.specs.Passes.{call_of, key as sizes, slots_of, state}
use Rattle.oak_core.specs.Scratch.{StaysButSlots}
use Rattle.scan_cursor.specs.Holding.{cut_room, room_at}
use Rattle.scan_cursor.proofs.FilledRooms.{Comes}
use Rattle.scan_cursor.proofs.gathering.gather.Given as goal

abbrev pub invariant-loop-next : goal.invariant-loop-next
invariant-loop-next l = let v = state l.fn.pass in record {
  own : StaysButSlots l.fn.pass l.pass;
  long : length (slots_of l.pass) ≡ GREATEST_ENTRIES;
  few : l.filled ≤ l.passed;
  comes : Comes (sizes l.table) (call_of l.fn.pass) l.pin.room l.way l.key v (cut_room l.way (room_at v) l.start.near) l.next l.passed (state l.pass) (take l.filled (slots_of l.pass));
}

abbrev pub decreases-loop-next : goal.decreases-loop-next
decreases-loop-next l = GREATEST_ENTRIES - l.passed
