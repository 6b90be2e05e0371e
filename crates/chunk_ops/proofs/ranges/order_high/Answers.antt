use Rattle.std.proofs.Common.{ap, sym, ◌∙◌, get_or}
use Rattle.chunk_core.specs.declared.holds.PinnedRoom.{PinnedRoom}
use Rattle.oak_model.specs.Key.{key_cmp}
use Rattle.oak_model.specs.KeyNumber.{key_number}
use Rattle.chunk_core.specs.KeyWords.{high_number}
use Rattle.oak_core.specs.Passes.{state, key, call_of}
use Rattle.chunk_ops.specs.declared.bounds.Bound.TheVariants.{High}
use Rattle.chunk_ops.specs.PinnedBounds.{bound_bytes}
use Rattle.chunk_ops.specs.PinRecords.{room_pin}
use Rattle.chunk_ops.proofs.BoundOrder.{high_cmp-none}
use Rattle.chunk_ops.proofs.BoundWords.{same_pin, high_order, high_none, some_high, none_high}
use Rattle.chunk_ops.proofs.MeetingCalls.{only_both, only_in}
use Rattle.chunk_ops.proofs.WordParts.{slice_bytes}
use Rattle.chunk_ops.proofs.RoomTries.{pins_both}
use Rattle.chunk_ops.proofs.ranges.order_high.Goals as goal

pub returns-in_default-clause-order : goal.returns-in_default-clause-order
returns-in_default-clause-order c = let p = room_pin (state c.args.pass.now) in sym (high_cmp-none (key_number c.args.key.now) (high_number p.high) (high_none p (none_high (get_or p.high 0 0) c.in_default.ensures.length)))

pub returns-clause-order : goal.returns-clause-order
returns-clause-order c = let v = state c.args.pass.now in let w = state c.high_len.new.pass in let p = room_pin v in
    c.compare_bound.ensures.order ∙ (ap (λ (q : PinnedRoom). key_cmp c.args.key.now (bound_bytes High q)) (same_pin (call_of c.args.pass.now) v w c.in-Some.ensures.only)
    ∙ high_order p c.requires.pinned.bounds c.args.key.now (slice_bytes c.args.key.now c.type_inv.key) c.requires.few (some_high (get_or p.high 0 0) c.in-Some.len c.in-Some.ensures.length).0)

pub returns-clause-only : goal.returns-clause-only
returns-clause-only c = let call = call_of c.args.pass.now in let v = state c.args.pass.now in let w = state c.high_len.new.pass in let x = state c.compare_bound.new.pass in
    only_both call v w x c.in-Some.ensures.only (only_in call (call_of c.high_len.new.pass) w x c.in-Some.ensures.own.call c.compare_bound.ensures.only)

pub returns-clause-tries : goal.returns-clause-tries
returns-clause-tries c = pins_both (key c.args.table.now) 0 0 c.args.pass.now c.high_len.new.pass c.compare_bound.new.pass c.in-Some.ensures.tries c.compare_bound.ensures.tries
