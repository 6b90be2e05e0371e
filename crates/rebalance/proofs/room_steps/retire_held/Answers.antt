use Rattle.std.proofs.Common.{◌∙◌, arith}
use Rattle.chunk_core.specs.declared.states.TheConstants.{HELD}
use Rattle.oak_core.specs.Passes.{state, key, call_of}
use Rattle.rebalance.proofs.OpenedRooms.{retires}
use Rattle.rebalance.proofs.RoomExchanges.{packed_states}
use Rattle.rebalance.proofs.room_steps.retire_held.Goals as goal

pub retire_room-requires-clause-names : goal.retire_room-requires-clause-names
retire_room-requires-clause-names c = (c.args.room, record { inside = c.requires.inside; word_is = c.room_at-word.ensures }, c.pack.ensures ∙ packed_states HELD, record { inside = (c.requires.inside, omega arith); rooms = (c.requires.held, c.requires.may) })

pub returns-clause-retires : goal.returns-clause-retires
returns-clause-retires c = retires (key c.args.table.now) (call_of c.args.pass.now) c.args.room c.retire_room.result (state c.args.pass.now) (state c.retire_room.new.pass) (c.retire_room.ensures.told c.args.room record { inside = c.requires.inside; word_is = c.room_at-word.ensures })
