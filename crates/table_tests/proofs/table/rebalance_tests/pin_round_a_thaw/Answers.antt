use Rattle.std.proofs.Common.{◌≡◌, ℕ, refl, sym, ap, ◌∙◌, subst, arith, Some, None}
use Rattle.oak_model.specs.Limits.{Sizes}
use Rattle.oak_model.proofs.Counting.{one_at-same}
use Rattle.chunk_core.specs.declared.holds.RoomHolds.{RoomHolds}
use Rattle.chunk_core.specs.RoomHolds.{no_rooms}
use Rattle.chunk_core.specs.RoomReads.{pinned_at}
use Rattle.chunk_core.specs.RoomRule.{room_pins}
use Rattle.chunk_core.specs.RoomStep.{pin_room, unpin_room}
use Rattle.oak_core.specs.declared.states.PassState.{PassState}
use Rattle.oak_core.specs.Memory.{memory}
use Rattle.oak_core.specs.PassState.{HoldsNothing}
use Rattle.oak_core.specs.Passes.{state, key, call_of}
use Rattle.oak_core.specs.RoomCalls.{NamesRoomPin}
use Rattle.oak_core.specs.Step.{on_rooms, Told, MayOnRooms}
use Rattle.oak_core.proofs.openings.ReopenedPass.{StaysElse, else_then, holds_nothing}
use Rattle.table_tests.proofs.table.rebalance_tests.pin_round_a_thaw.Goals as goal

module _ (z : Sizes) (call next n k : ℕ) (u v w : PassState) (idle : HoldsNothing u) (t : Told z call (on_rooms (pin_room 0)) u n v) where
  -- the pass has a pin on the room, and nothing else of rooms
  has_pin : v.rooms ≡ record no_rooms { pin = Some (pinned_at (memory z t.table.words).rooms 0) }
  has_pin = (λ i. (t.after i).rooms) ∙ ap (λ (a : RoomHolds). record a { pin = Some (pinned_at (memory z t.table.words).rooms 0) }) idle.rooms

  -- so it may undo it
  may_unpin : MayOnRooms z next (unpin_room 0) v
  may_unpin = record { inside = t.may.inside; rooms = subst (λ (a : RoomHolds). (room_pins 0 a ≡ 1) × (a.claim ≡ None)) (sym has_pin) (one_at-same 0 0 refl, refl) }

  -- and holds nothing then
  module _ (d : Told z next (on_rooms (unpin_room 0)) v k w) where
    stays : StaysElse u w
    stays = else_then u v w record { numbers = λ i. (t.after i).numbers; blocks = λ i. (t.after i).blocks; headers = λ i. (t.after i).headers } record { numbers = λ i. (d.after i).numbers; blocks = λ i. (d.after i).blocks; headers = λ i. (d.after i).headers }

    idle_again : HoldsNothing w
    idle_again = holds_nothing u w stays ((λ i. (d.after i).rooms) ∙ ap (λ (a : RoomHolds). record a { pin = None }) has_pin) idle

pub pin_room-before-requires-clause-names : goal.pin_room-before-requires-clause-names
pin_room-before-requires-clause-names g c = let z : Sizes = key c.args.table.now in let some_room = c.rooms-rooms.ensures.some in let are = c.rooms-rooms.ensures.is in
    let names : NamesRoomPin z 0 c.room_at-word.result = record { inside = omega arith; word_is = c.room_at-word.ensures } in
    (0, names, refl, record { inside = (names.inside, (omega arith)); rooms = λ i. (c.requires.idle.1.rooms i).pin })

pub unpin_room-stood-requires-clause-names : goal.unpin_room-stood-requires-clause-names
unpin_room-stood-requires-clause-names g c = let z : Sizes = key c.args.table.now in let some_room = c.rooms-rooms.ensures.some in let are = c.rooms-rooms.ensures.is in
    let names : NamesRoomPin z 0 c.room_at-word.result = record { inside = omega arith; word_is = c.room_at-word.ensures } in
    let v0 : PassState = state c.args.other.now in let v1 : PassState = state c.pin_room-before.new.pass in
    (0, names, refl, may_unpin z (call_of c.args.other.now) (call_of c.pin_room-before.new.pass) c.pin_room-before.result 0 v0 v1 v1 c.requires.idle.1 (c.pin_room-before.ensures.told 0 names))

pub pin_room-again-requires-clause-names : goal.pin_room-again-requires-clause-names
pin_room-again-requires-clause-names g c = let z : Sizes = key c.args.table.now in let some_room = c.rooms-rooms.ensures.some in let are = c.rooms-rooms.ensures.is in
    let names : NamesRoomPin z 0 c.room_at-word.result = record { inside = omega arith; word_is = c.room_at-word.ensures } in
    let v0 : PassState = state c.args.other.now in let v1 : PassState = state c.pin_room-before.new.pass in let v2 : PassState = state c.unpin_room-stood.new.pass in
    let idle = idle_again z (call_of c.args.other.now) (call_of c.pin_room-before.new.pass) c.pin_room-before.result c.unpin_room-stood.result v0 v1 v2 c.requires.idle.1 (c.pin_room-before.ensures.told 0 names) (c.unpin_room-stood.ensures.told 0 names) in
    (0, names, refl, record { inside = (names.inside, (omega arith)); rooms = λ i. (idle.rooms i).pin })

pub unpin_room-last-requires-clause-names : goal.unpin_room-last-requires-clause-names
unpin_room-last-requires-clause-names g c = let z : Sizes = key c.args.table.now in let some_room = c.rooms-rooms.ensures.some in let are = c.rooms-rooms.ensures.is in
    let names : NamesRoomPin z 0 c.room_at-word.result = record { inside = omega arith; word_is = c.room_at-word.ensures } in
    let v0 : PassState = state c.args.other.now in let v1 : PassState = state c.pin_room-before.new.pass in let v2 : PassState = state c.unpin_room-stood.new.pass in let v3 : PassState = state c.pin_room-again.new.pass in
    let idle = idle_again z (call_of c.args.other.now) (call_of c.pin_room-before.new.pass) c.pin_room-before.result c.unpin_room-stood.result v0 v1 v2 c.requires.idle.1 (c.pin_room-before.ensures.told 0 names) (c.unpin_room-stood.ensures.told 0 names) in
    (0, names, refl, may_unpin z (call_of c.unpin_room-stood.new.pass) (call_of c.pin_room-again.new.pass) c.pin_room-again.result 0 v2 v3 v3 idle (c.pin_room-again.ensures.told 0 names))

pub returns-clause-idle : goal.returns-clause-idle
returns-clause-idle g c = let z : Sizes = key c.args.table.now in let some_room = c.rooms-rooms.ensures.some in let are = c.rooms-rooms.ensures.is in
    let names : NamesRoomPin z 0 c.room_at-word.result = record { inside = omega arith; word_is = c.room_at-word.ensures } in
    let v0 : PassState = state c.args.other.now in let v1 : PassState = state c.pin_room-before.new.pass in let v2 : PassState = state c.unpin_room-stood.new.pass in let v3 : PassState = state c.pin_room-again.new.pass in let v4 : PassState = state c.unpin_room-last.new.pass in
    let idle = idle_again z (call_of c.args.other.now) (call_of c.pin_room-before.new.pass) c.pin_room-before.result c.unpin_room-stood.result v0 v1 v2 c.requires.idle.1 (c.pin_room-before.ensures.told 0 names) (c.unpin_room-stood.ensures.told 0 names) in
    (c.freeze_and_thaw.ensures.idle, idle_again z (call_of c.unpin_room-stood.new.pass) (call_of c.pin_room-again.new.pass) c.pin_room-again.result c.unpin_room-last.result v2 v3 v4 idle (c.pin_room-again.ensures.told 0 names) (c.unpin_room-last.ensures.told 0 names))

pub returns-clause-numbers : goal.returns-clause-numbers
returns-clause-numbers g c = let z : Sizes = key c.args.table.now in let some_room = c.rooms-rooms.ensures.some in let are = c.rooms-rooms.ensures.is in
    let names : NamesRoomPin z 0 c.room_at-word.result = record { inside = omega arith; word_is = c.room_at-word.ensures } in
    let one = c.pin_room-before.ensures.told 0 names in let two = c.unpin_room-stood.ensures.told 0 names in let three = c.pin_room-again.ensures.told 0 names in let four = c.unpin_room-last.ensures.told 0 names in
    (c.freeze_and_thaw.ensures.numbers, (λ i. (four.after i).numbers) ∙ ((λ i. (three.after i).numbers) ∙ ((λ i. (two.after i).numbers) ∙ (λ i. (one.after i).numbers))))
