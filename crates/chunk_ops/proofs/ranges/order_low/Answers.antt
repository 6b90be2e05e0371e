use Rattle.std.proofs.Common.{ap, ◌∙◌}
use Rattle.chunk_core.specs.declared.holds.PinnedRoom.{PinnedRoom}
use Rattle.oak_model.specs.Key.{key_cmp}
use Rattle.oak_core.specs.Passes.{state, key, call_of}
use Rattle.chunk_ops.specs.declared.bounds.Bound.TheVariants.{Low}
use Rattle.chunk_ops.specs.PinnedBounds.{bound_bytes}
use Rattle.chunk_ops.specs.PinRecords.{room_pin}
use Rattle.chunk_ops.proofs.BoundWords.{same_pin, low_order}
use Rattle.chunk_ops.proofs.MeetingCalls.{only_both, only_in}
use Rattle.chunk_ops.proofs.WordParts.{slice_bytes}
use Rattle.chunk_ops.proofs.RoomTries.{pins_both}
use Rattle.chunk_ops.proofs.ranges.order_low.Goals as goal

pub returns-clause-order : goal.returns-clause-order
returns-clause-order c = let v = state c.args.pass.now in let w = state c.low_len-len.new.pass in
    c.compare_bound.ensures.order ∙ (ap (λ (p : PinnedRoom). key_cmp c.args.key.now (bound_bytes Low p)) (same_pin (call_of c.args.pass.now) v w c.low_len-len.ensures.only)
    ∙ low_order (room_pin v) c.requires.pinned.bounds c.args.key.now (slice_bytes c.args.key.now c.type_inv.key) c.requires.few)

pub returns-clause-only : goal.returns-clause-only
returns-clause-only c = let call = call_of c.args.pass.now in let v = state c.args.pass.now in let w = state c.low_len-len.new.pass in let x = state c.compare_bound.new.pass in
    only_both call v w x c.low_len-len.ensures.only (only_in call (call_of c.low_len-len.new.pass) w x c.low_len-len.ensures.own.call c.compare_bound.ensures.only)

pub returns-clause-tries : goal.returns-clause-tries
returns-clause-tries c = pins_both (key c.args.table.now) 0 0 c.args.pass.now c.low_len-len.new.pass c.compare_bound.new.pass c.low_len-len.ensures.tries c.compare_bound.ensures.tries
