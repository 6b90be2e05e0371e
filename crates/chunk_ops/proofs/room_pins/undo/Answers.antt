use Rattle.std.proofs.Common.{refl}
use Rattle.oak_core.specs.Passes.{state, key, call_of}
use Rattle.chunk_ops.proofs.PinSteps.{may_unpin, unpins}
use Rattle.chunk_ops.proofs.RoomTries.{pins_unpin}
use Rattle.chunk_ops.proofs.room_pins.undo.Goals as goal

pub unpin_room-requires-clause-names : goal.unpin_room-requires-clause-names
unpin_room-requires-clause-names c = (c.args.room, record { inside = c.requires.pinned.inside; word_is = c.room_at-word.ensures }, refl, may_unpin (key c.args.table.now) (call_of c.args.pass.now) c.args.room (state c.args.pass.now) c.requires.pinned)

pub returns-clause-undone : goal.returns-clause-undone
returns-clause-undone c = unpins (key c.args.table.now) (call_of c.args.pass.now) c.args.room c.unpin_room.result (state c.args.pass.now) (state c.unpin_room.new.pass)
    (c.unpin_room.ensures.told c.args.room record { inside = c.requires.pinned.inside; word_is = c.room_at-word.ensures })

pub returns-clause-tries : goal.returns-clause-tries
returns-clause-tries c = pins_unpin (key c.args.table.now) (call_of c.args.pass.now) c.args.room c.unpin_room.result c.args.pass.now c.unpin_room.new.pass
    (c.unpin_room.ensures.told c.args.room record { inside = c.requires.pinned.inside; word_is = c.room_at-word.ensures }) c.unpin_room.ensures.tries
