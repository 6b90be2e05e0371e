use Rattle.std.proofs.Common.{◌≡◌, ℕ, sym, subst, ◌∙◌, ap}
use Rattle.chunk_core.specs.declared.holds.RoomHolds.{RoomHolds}
use Rattle.oak_model.specs.Limits.{Sizes}
use Rattle.oak_core.specs.declared.states.PassState.{PassState}
use Rattle.oak_core.specs.Passes.{state, key, call_of}
use Rattle.chunk_ops.specs.AskedRanges.{IsAsked}
use Rattle.chunk_ops.specs.PinRecords.{HasRoomPin, RoomPinned}
use Rattle.chunk_ops.specs.RoomPins.{PinsOpen, Unpins}
use Rattle.chunk_ops.proofs.FoundRooms.{has_pin, now_begun, no_claim_then, pins_asked, pinned_first, off_then, only_then, off_shut, shut_alone, off_alone}
use Rattle.chunk_ops.proofs.MeetingCalls.{only_in}
use Rattle.chunk_ops.proofs.PinSteps.{unpins_in}
use Rattle.chunk_ops.proofs.RoomTries.{pins_both}
use Rattle.chunk_ops.proofs.pin_search.try_room.Goals as goal

pub returns-in_default-clause-off : goal.returns-in_default-clause-off
returns-in_default-clause-off c = off_shut (key c.args.table.now) (call_of c.args.pass.now) c.args.room (IsAsked c.args.asked c.args.key.now) (state c.args.pass.now) (state c.pin_open.new.pass) c.in_default.ensures.shut

pub is_asked-requires-clause-pinned : goal.is_asked-requires-clause-pinned
is_asked-requires-clause-pinned c = let z : Sizes = key c.args.table.now in let o = c.in-Some.ensures.opened in
    subst (λ (r : ℕ). HasRoomPin z r (state c.pin_open.new.pass)) (sym o.0) (has_pin z (call_of c.args.pass.now) c.args.room (state c.args.pass.now) (state c.pin_open.new.pass) o.1)

pub returns-then-is_asked-clause-pinned : goal.returns-then-is_asked-clause-pinned
returns-then-is_asked-clause-pinned c = let z : Sizes = key c.args.table.now in let call = call_of c.args.pass.now in let o = c.in-Some.ensures.opened in let v = state c.args.pass.now in let w = state c.pin_open.new.pass in let x = state c.is_asked.new.pass in
    subst (λ (r : ℕ). PinsOpen z call r (IsAsked c.args.asked c.args.key.now) v x) (sym o.0)
    (pins_asked z call c.args.room v w o.1 x (IsAsked c.args.asked c.args.key.now) (only_in call (call_of c.pin_open.new.pass) w x c.in-Some.ensures.own.call c.if-is_asked.ensures.only) c.if-is_asked.ensures.asked)

pub unpin-requires-clause-pinned : goal.unpin-requires-clause-pinned
unpin-requires-clause-pinned c = let z : Sizes = key c.args.table.now in let o = c.in-Some.ensures.opened in
    subst (λ (a : RoomHolds). RoomPinned z c.in-Some.pin.room a) (sym c.if-is_asked.ensures.only.rooms)
    (subst (λ (r : ℕ). HasRoomPin z r (state c.pin_open.new.pass)) (sym o.0) (has_pin z (call_of c.args.pass.now) c.args.room (state c.args.pass.now) (state c.pin_open.new.pass) o.1))

pub unpin-requires-clause-claim : goal.unpin-requires-clause-claim
unpin-requires-clause-claim c = let o = c.in-Some.ensures.opened in ap (λ (a : RoomHolds). a.claim) c.if-is_asked.ensures.only.rooms ∙ no_claim_then (key c.args.table.now) (call_of c.args.pass.now) c.args.room (state c.args.pass.now) (state c.pin_open.new.pass) o.1

-- the end of the pin, in the call
ends : (z : Sizes) (call now r k : ℕ) (x u : PassState) → now ≡ call → k ≡ r → Unpins z now k x u → Unpins z call r x u
ends z call now r k x u e f n = subst (λ (j : ℕ). Unpins z call j x u) f (unpins_in z call now k x u e n)

pub returns-clause-off : goal.returns-clause-off
returns-clause-off c = let z : Sizes = key c.args.table.now in let call = call_of c.args.pass.now in let o = c.in-Some.ensures.opened in let v = state c.args.pass.now in let w = state c.pin_open.new.pass in let x = state c.is_asked.new.pass in let u = state c.unpin.new.pass in
    off_then z call c.args.room v w o.1 x u (IsAsked c.args.asked c.args.key.now) (only_in call (call_of c.pin_open.new.pass) w x c.in-Some.ensures.own.call c.if-is_asked.ensures.only) c.if-is_asked.ensures.asked
    (ends z call (call_of c.is_asked.new.pass) c.args.room c.in-Some.pin.room x u (c.if-is_asked.ensures.own.call ∙ c.in-Some.ensures.own.call) o.0 c.unpin.ensures.unpinned)

pub returns-clause-only : goal.returns-clause-only
returns-clause-only c = let z : Sizes = key c.args.table.now in let call = call_of c.args.pass.now in let o = c.in-Some.ensures.opened in let v = state c.args.pass.now in let w = state c.pin_open.new.pass in let x = state c.is_asked.new.pass in let u = state c.unpin.new.pass in
    only_then z call c.args.room v w o.1 x u (only_in call (call_of c.pin_open.new.pass) w x c.in-Some.ensures.own.call c.if-is_asked.ensures.only)
    (ends z call (call_of c.is_asked.new.pass) c.args.room c.in-Some.pin.room x u (c.if-is_asked.ensures.own.call ∙ c.in-Some.ensures.own.call) o.0 c.unpin.ensures.unpinned)

pub returns-clause-begun : goal.returns-clause-begun
returns-clause-begun c = now_begun (key c.args.table.now) (call_of c.args.pass.now) c.args.room (state c.args.pass.now) (state c.pin_open.new.pass) c.in-Some.ensures.opened.1

pub returns-in_default-clause-alone : goal.returns-in_default-clause-alone
returns-in_default-clause-alone c = shut_alone (key c.args.table.now) (call_of c.args.pass.now) c.args.room (IsAsked c.args.asked c.args.key.now) (state c.args.pass.now) (state c.pin_open.new.pass) c.in_default.ensures.shut

pub returns-clause-alone : goal.returns-clause-alone
returns-clause-alone c = let z : Sizes = key c.args.table.now in let call = call_of c.args.pass.now in let o = c.in-Some.ensures.opened in let v = state c.args.pass.now in let w = state c.pin_open.new.pass in let x = state c.is_asked.new.pass in let u = state c.unpin.new.pass in
    off_alone z call c.args.room v w x u o.1 (IsAsked c.args.asked c.args.key.now) (only_in call (call_of c.pin_open.new.pass) w x c.in-Some.ensures.own.call c.if-is_asked.ensures.only) c.if-is_asked.ensures.asked
    (ends z call (call_of c.is_asked.new.pass) c.args.room c.in-Some.pin.room x u (c.if-is_asked.ensures.own.call ∙ c.in-Some.ensures.own.call) o.0 c.unpin.ensures.unpinned)

pub returns-then-is_asked-clause-first : goal.returns-then-is_asked-clause-first
returns-then-is_asked-clause-first c = let z : Sizes = key c.args.table.now in let call = call_of c.args.pass.now in let v = state c.args.pass.now in let w = state c.pin_open.new.pass in let x = state c.is_asked.new.pass in
    pinned_first z call c.args.room v w c.in-Some.ensures.opened.1 x (only_in call (call_of c.pin_open.new.pass) w x c.in-Some.ensures.own.call c.if-is_asked.ensures.only)

pub returns-then-is_asked-clause-tries : goal.returns-then-is_asked-clause-tries
returns-then-is_asked-clause-tries c = pins_both (key c.args.table.now) 1 0 c.args.pass.now c.pin_open.new.pass c.is_asked.new.pass c.in-Some.ensures.tries c.if-is_asked.ensures.tries

pub returns-clause-tries : goal.returns-clause-tries
returns-clause-tries c = let z : Sizes = key c.args.table.now in let p = c.args.pass.now in let q = c.is_asked.new.pass in
    pins_both z 1 0 p q c.unpin.new.pass (pins_both z 1 0 p c.pin_open.new.pass q c.in-Some.ensures.tries c.if-is_asked.ensures.tries) c.unpin.ensures.tries
