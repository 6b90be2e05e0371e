use Rattle.std.proofs.Common.{◌∙◌, Option, Some, None, IfNone}
use Rattle.std.proofs.lemmas.Option.{IfSome_then}
use Rattle.chunk_core.specs.Rooms.{at_room_pin}
use Rattle.oak_core.specs.AloneWords.{Runs}
use Rattle.oak_core.specs.Memory.{in_rooms}
use Rattle.oak_core.specs.Passes.{state, key, call_of}
use Rattle.oak_core.proofs.memory.RoomNames.{room_pin_below}
use Rattle.chunk_ops.specs.AskedRanges.{IsAsked}
use Rattle.chunk_ops.specs.LoneRooms.{IsOff, LoneTry}
use Rattle.chunk_ops.specs.PinRecords.{OnlyMeets}
use Rattle.chunk_ops.specs.RoomPins.{MissesFirst}
use Rattle.chunk_ops.proofs.FoundRooms.{off_first, off_in, off_since, opens_in}
use Rattle.chunk_ops.proofs.MeetingCalls.{only_both, only_in}
use Rattle.chunk_ops.proofs.RoomTries.{pins_both, pins_load}
use Rattle.chunk_ops.proofs.ShutRooms.{alone_then, load_alone, load_ended, load_off, load_only, opens_then, told}
use Rattle.chunk_ops.proofs.pin_search.try_if_open.Goals as goal

-- what follows where there is none
none_then : {A P Q : Type 0} (o : Option A) → (P → Q) → IfNone o P → IfNone o Q
none_then (Some a) f p = tt
none_then None f p = f p

pub load-found-requires-clause-inside : goal.load-found-requires-clause-inside
load-found-requires-clause-inside c = room_pin_below (key c.args.table.now) c.args.room c.room_at-word.result record { inside = c.requires.inside; word_is = c.room_at-word.ensures }

pub returns-then-state-ne-OPEN-clause-tries : goal.returns-then-state-ne-OPEN-clause-tries
returns-then-state-ne-OPEN-clause-tries c = let z = key c.args.table.now in let p = c.args.pass.now in let q = c.load-found.new.pass in
    (0, pins_load z (call_of p) (in_rooms (at_room_pin c.args.room)) c.load-found.result p q (told z (call_of p) c.args.room c.room_at-word.result c.load-found.result (state p) (state q) record { inside = c.requires.inside; word_is = c.room_at-word.ensures } c.load-found.ensures.loaded) c.load-found.ensures.tries)

pub returns-then-state-ne-OPEN-clause-off : goal.returns-then-state-ne-OPEN-clause-off
returns-then-state-ne-OPEN-clause-off c = let z = key c.args.table.now in let p = c.args.pass.now in
    load_off z (call_of p) c.args.room c.room_at-word.result c.load-found.result (state p) (state c.load-found.new.pass) record { inside = c.requires.inside; word_is = c.room_at-word.ensures } c.load-found.ensures.loaded (IsAsked c.args.asked c.args.key.now) (λ e. c.if-state-ne-OPEN.true (c.state.ensures ∙ e))

pub returns-then-state-ne-OPEN-clause-only : goal.returns-then-state-ne-OPEN-clause-only
returns-then-state-ne-OPEN-clause-only c = let z = key c.args.table.now in let p = c.args.pass.now in
    load_only z (call_of p) c.args.room c.room_at-word.result c.load-found.result (state p) (state c.load-found.new.pass) record { inside = c.requires.inside; word_is = c.room_at-word.ensures } c.load-found.ensures.loaded

pub returns-then-state-ne-OPEN-clause-ended : goal.returns-then-state-ne-OPEN-clause-ended
returns-then-state-ne-OPEN-clause-ended c = let z = key c.args.table.now in let p = c.args.pass.now in
    load_ended z (call_of p) c.args.room c.room_at-word.result c.load-found.result (state p) (state c.load-found.new.pass) record { inside = c.requires.inside; word_is = c.room_at-word.ensures } c.load-found.ensures.loaded

pub returns-then-state-ne-OPEN-clause-alone : goal.returns-then-state-ne-OPEN-clause-alone
returns-then-state-ne-OPEN-clause-alone c = let z = key c.args.table.now in let p = c.args.pass.now in
    load_alone z (call_of p) c.args.room c.room_at-word.result c.load-found.result (state p) (state c.load-found.new.pass) record { inside = c.requires.inside; word_is = c.room_at-word.ensures } c.load-found.ensures.loaded (IsAsked c.args.asked c.args.key.now) (λ e. c.if-state-ne-OPEN.true (c.state.ensures ∙ e))

-- the room is tried behind the load

pub returns-clause-tries : goal.returns-clause-tries
returns-clause-tries c = let z = key c.args.table.now in let p = c.args.pass.now in let q = c.load-found.new.pass in (
  1,
  pins_both z 0 1 p q c.try_room.new.pass
      (pins_load z (call_of p) (in_rooms (at_room_pin c.args.room)) c.load-found.result p q (told z (call_of p) c.args.room c.room_at-word.result c.load-found.result (state p) (state q) record { inside = c.requires.inside; word_is = c.room_at-word.ensures } c.load-found.ensures.loaded) c.load-found.ensures.tries)
      c.try_room.ensures.tries,
)

pub returns-clause-pinned : goal.returns-clause-pinned
returns-clause-pinned c = let z = key c.args.table.now in let call = call_of c.args.pass.now in let P = IsAsked c.args.asked c.args.key.now in let u = state c.args.pass.now in let v = state c.load-found.new.pass in let w = state c.try_room.new.pass in
    IfSome_then c.try_room.result c.try_room.ensures.pinned
    (λ k p. opens_then z call c.args.room c.room_at-word.result c.load-found.result u v record { inside = c.requires.inside; word_is = c.room_at-word.ensures } c.load-found.ensures.loaded P w k.room
    (opens_in z call (call_of c.load-found.new.pass) k.room P v w c.load-found.ensures.own.call p))

pub returns-clause-off : goal.returns-clause-off
returns-clause-off c = let z = key c.args.table.now in let call = call_of c.args.pass.now in let P = IsAsked c.args.asked c.args.key.now in let u = state c.args.pass.now in let v = state c.load-found.new.pass in let w = state c.try_room.new.pass in
    none_then c.try_room.result
    (λ (m : MissesFirst z (call_of c.load-found.new.pass) c.args.room P v w).
    off_since z call c.args.room P u v w (load_only z call c.args.room c.room_at-word.result c.load-found.result u v record { inside = c.requires.inside; word_is = c.room_at-word.ensures } c.load-found.ensures.loaded)
    (off_in z call (call_of c.load-found.new.pass) c.args.room P v w c.load-found.ensures.own.call (off_first z (call_of c.load-found.new.pass) c.args.room P v w m)))
    c.try_room.ensures.off

pub returns-clause-only : goal.returns-clause-only
returns-clause-only c = let z = key c.args.table.now in let call = call_of c.args.pass.now in let u = state c.args.pass.now in let v = state c.load-found.new.pass in let w = state c.try_room.new.pass in
    none_then c.try_room.result
    (λ (o : OnlyMeets (call_of c.load-found.new.pass) v w).
    only_both call u v w (load_only z call c.args.room c.room_at-word.result c.load-found.result u v record { inside = c.requires.inside; word_is = c.room_at-word.ensures } c.load-found.ensures.loaded)
    (only_in call (call_of c.load-found.new.pass) v w c.load-found.ensures.own.call o))
    c.try_room.ensures.only

pub returns-clause-alone : goal.returns-clause-alone
returns-clause-alone c = let z = key c.args.table.now in let call = call_of c.args.pass.now in let P = IsAsked c.args.asked c.args.key.now in let u = state c.args.pass.now in let v = state c.load-found.new.pass in let w = state c.try_room.new.pass in
    none_then c.try_room.result
    (λ (a : Runs (LoneTry z (IsOff z c.args.room P) v.rooms) v w).
    alone_then z call c.args.room c.room_at-word.result c.load-found.result u v record { inside = c.requires.inside; word_is = c.room_at-word.ensures } c.load-found.ensures.loaded P w a)
    c.try_room.ensures.alone
