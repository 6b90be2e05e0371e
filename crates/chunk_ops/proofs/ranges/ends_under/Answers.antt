use Rattle.std.proofs.Common.{ap, sym, subst, ◌∙◌, Bool, MatchBool}
use Rattle.chunk_core.specs.declared.holds.PinnedRoom.{PinnedRoom}
use Rattle.chunk_core.specs.PinnedRooms.{span_of}
use Rattle.oak_model.specs.KeyNumber.{key_number}
use Rattle.oak_core.specs.Passes.{state, key, call_of}
use Rattle.chunk_ops.specs.AskedRanges.{EndsUnder, high_cmp}
use Rattle.chunk_ops.specs.PinRecords.{room_pin}
use Rattle.chunk_ops.proofs.BoundOrder.{not_under, ends_there}
use Rattle.chunk_ops.proofs.BoundWords.{same_pin}
use Rattle.chunk_ops.proofs.MeetingCalls.{only_both, only_in}
use Rattle.chunk_ops.proofs.RoomTries.{pins_both}
use Rattle.chunk_ops.proofs.ranges.ends_under.Goals as goal

pub returns-clause-only : goal.returns-clause-only
returns-clause-only c = let call = call_of c.args.pass.now in let v = state c.args.pass.now in let w = state c.order_low-low.new.pass in let x = state c.order_high-high.new.pass in
    only_both call v w x c.order_low-low.ensures.only (only_in call (call_of c.order_low-low.new.pass) w x c.order_low-low.ensures.own.call c.order_high-high.ensures.only)

pub returns-then-not-is_gt-clause-ends : goal.returns-then-not-is_gt-clause-ends
returns-then-not-is_gt-clause-ends c = not_under c.args.bound.now (span_of (room_pin (state c.args.pass.now))) c.order_low-low.result c.order_low-low.ensures.order (sym c.is_gt.ensures ∙ c.if-not-is_gt.true)

pub returns-clause-ends : goal.returns-clause-ends
returns-clause-ends c = let v = state c.args.pass.now in let w = state c.order_low-low.new.pass in
    subst (λ (b : Bool). MatchBool b (EndsUnder c.args.bound.now (span_of (room_pin v))) (EndsUnder c.args.bound.now (span_of (room_pin v)) → ⊥)) (sym c.is_le.ensures)
    (ends_there c.args.bound.now (span_of (room_pin v)) c.order_low-low.result c.order_high-high.result c.order_low-low.ensures.order (sym c.is_gt.ensures ∙ c.if-not-is_gt.false)
    (c.order_high-high.ensures.order ∙ ap (λ (p : PinnedRoom). high_cmp (key_number c.args.bound.now) (span_of p).high) (same_pin (call_of c.args.pass.now) v w c.order_low-low.ensures.only)))

pub returns-clause-tries : goal.returns-clause-tries
returns-clause-tries c = pins_both (key c.args.table.now) 0 0 c.args.pass.now c.order_low-low.new.pass c.order_high-high.new.pass c.order_low-low.ensures.tries c.order_high-high.ensures.tries
