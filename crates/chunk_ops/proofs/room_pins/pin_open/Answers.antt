use Rattle.std.proofs.Common.{◌∙◌}
use Rattle.oak_model.specs.Limits.{Sizes}
use Rattle.oak_core.specs.Passes.{state, key, call_of}
use Rattle.chunk_ops.proofs.FoundRooms.{found_shut}
use Rattle.chunk_ops.proofs.PinSteps.{pin_on, unpins_in}
use Rattle.chunk_ops.proofs.RoomTries.{pins_both, pins_pin}
use Rattle.chunk_ops.proofs.room_pins.pin_open.Goals as goal

pub undo-requires-clause-pinned : goal.undo-requires-clause-pinned
undo-requires-clause-pinned c = pin_on (key c.args.table.now) (call_of c.args.pass.now) c.args.room c.pin_room-found.result (state c.args.pass.now) (state c.pin_room-found.new.pass)
    (c.pin_room-found.ensures.told c.args.room record { inside = c.requires.inside; word_is = c.room_at-word.ensures })

pub returns-then-state-ne-OPEN-clause-shut : goal.returns-then-state-ne-OPEN-clause-shut
returns-then-state-ne-OPEN-clause-shut c = let z : Sizes = key c.args.table.now in let call = call_of c.args.pass.now in
    found_shut z call c.args.room c.pin_room-found.result (state c.args.pass.now) (state c.pin_room-found.new.pass) (state c.undo.new.pass)
    (c.pin_room-found.ensures.told c.args.room record { inside = c.requires.inside; word_is = c.room_at-word.ensures }) (λ e. c.if-state-ne-OPEN.true (c.state.ensures ∙ e))
    (unpins_in z call (call_of c.pin_room-found.new.pass) c.args.room (state c.pin_room-found.new.pass) (state c.undo.new.pass) c.pin_room-found.ensures.own.call c.undo.ensures.undone)

pub returns-then-state-ne-OPEN-clause-tries : goal.returns-then-state-ne-OPEN-clause-tries
returns-then-state-ne-OPEN-clause-tries c = let z : Sizes = key c.args.table.now in let p = c.args.pass.now in let q = c.pin_room-found.new.pass in
    pins_both z 1 0 p q c.undo.new.pass
    (pins_pin z (call_of p) c.args.room c.pin_room-found.result p q (c.pin_room-found.ensures.told c.args.room record { inside = c.requires.inside; word_is = c.room_at-word.ensures }) c.pin_room-found.ensures.tries)
    c.undo.ensures.tries

pub returns-clause-tries : goal.returns-clause-tries
returns-clause-tries c = pins_pin (key c.args.table.now) (call_of c.args.pass.now) c.args.room c.pin_room-found.result c.args.pass.now c.pin_room-found.new.pass
    (c.pin_room-found.ensures.told c.args.room record { inside = c.requires.inside; word_is = c.room_at-word.ensures }) c.pin_room-found.ensures.tries
