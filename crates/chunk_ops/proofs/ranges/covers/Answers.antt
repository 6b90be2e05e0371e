use Rattle.std.proofs.Common.{ap, sym, subst, ◌∙◌, Bool, MatchBool}
use Rattle.chunk_core.specs.declared.holds.PinnedRoom.{PinnedRoom}
use Rattle.chunk_core.specs.PinnedRooms.{span_of}
use Rattle.oak_model.specs.KeyNumber.{key_number}
use Rattle.oak_core.specs.Passes.{state, key, call_of}
use Rattle.chunk_ops.specs.AskedRanges.{CoversKey, high_cmp}
use Rattle.chunk_ops.specs.PinRecords.{room_pin}
use Rattle.chunk_ops.proofs.BoundOrder.{before_low, in_range}
use Rattle.chunk_ops.proofs.BoundWords.{same_pin}
use Rattle.chunk_ops.proofs.MeetingCalls.{only_both, only_in}
use Rattle.chunk_ops.proofs.RoomTries.{pins_both}
use Rattle.chunk_ops.proofs.ranges.covers.Goals as goal

pub returns-then-is_lt-clause-covers : goal.returns-then-is_lt-clause-covers
returns-then-is_lt-clause-covers c = before_low c.args.key.now (span_of (room_pin (state c.args.pass.now))) c.order_low-low.result c.order_low-low.ensures.order (sym c.is_lt.ensures ∙ c.if-is_lt.true)

pub returns-clause-covers : goal.returns-clause-covers
returns-clause-covers c = let v = state c.args.pass.now in let w = state c.order_low-low.new.pass in
    subst (λ (b : Bool). MatchBool b (CoversKey c.args.key.now (span_of (room_pin v))) (CoversKey c.args.key.now (span_of (room_pin v)) → ⊥)) (sym c.is_lt-2.ensures)
    (in_range c.args.key.now (span_of (room_pin v)) c.order_low-low.result c.order_high-high.result c.order_low-low.ensures.order (sym c.is_lt.ensures ∙ c.if-is_lt.false)
    (c.order_high-high.ensures.order ∙ ap (λ (p : PinnedRoom). high_cmp (key_number c.args.key.now) (span_of p).high) (same_pin (call_of c.args.pass.now) v w c.order_low-low.ensures.only)))

pub returns-clause-only : goal.returns-clause-only
returns-clause-only c = let call = call_of c.args.pass.now in let v = state c.args.pass.now in let w = state c.order_low-low.new.pass in let x = state c.order_high-high.new.pass in
    only_both call v w x c.order_low-low.ensures.only (only_in call (call_of c.order_low-low.new.pass) w x c.order_low-low.ensures.own.call c.order_high-high.ensures.only)

pub returns-clause-tries : goal.returns-clause-tries
returns-clause-tries c = pins_both (key c.args.table.now) 0 0 c.args.pass.now c.order_low-low.new.pass c.order_high-high.new.pass c.order_low-low.ensures.tries c.order_high-high.ensures.tries
