use Rattle.std.proofs.Common.{◌∙◌, arith}
use Rattle.oak_core.specs.Passes.{state, key, call_of}
use Rattle.rebalance.proofs.OpenedRooms.{opens}
use Rattle.rebalance.proofs.RoomExchanges.{packed_states}
use Rattle.rebalance.proofs.room_steps.open_held.Goals as goal

pub open_room-requires-clause-names : goal.open_room-requires-clause-names
open_room-requires-clause-names c = (c.args.room, record { inside = c.requires.inside; word_is = c.room_at-word.ensures }, c.pack.ensures ∙ packed_states 2, record { inside = (c.requires.inside, omega arith); rooms = (c.requires.held, c.requires.may) })

pub returns-clause-opens : goal.returns-clause-opens
returns-clause-opens c = opens (key c.args.table.now) (call_of c.args.pass.now) c.args.room c.open_room.result (state c.args.pass.now) (state c.open_room.new.pass) (c.open_room.ensures.told c.args.room record { inside = c.requires.inside; word_is = c.room_at-word.ensures })
