use Rattle.std.proofs.Common.{◌≡◌, sym, refl, ap, ◌∙◌, subst, arith, Some, None}
use Rattle.oak_model.specs.Limits.{Sizes}
use Rattle.oak_model.proofs.Counting.{one_at-same}
use Rattle.chunk_core.specs.declared.holds.RoomHolds.{RoomHolds}
use Rattle.chunk_core.specs.RoomHolds.{no_rooms}
use Rattle.chunk_core.specs.RoomReads.{pinned_at}
use Rattle.chunk_core.specs.RoomRule.{room_pins}
use Rattle.oak_core.specs.Memory.{memory}
use Rattle.oak_core.specs.Passes.{state, key}
use Rattle.oak_core.specs.RoomCalls.{NamesRoomPin}
use Rattle.table_tests.proofs.table.pass_tests.pin_and_unpin.Goals as goal

pub unpin_room-pinned-requires-clause-names : goal.unpin_room-pinned-requires-clause-names
unpin_room-pinned-requires-clause-names g c = let z : Sizes = key c.args.table.now in let some_room = c.rooms-rooms.ensures.some in let are = c.rooms-rooms.ensures.is in
    let names : NamesRoomPin z 0 c.room_at-word.result = record { inside = omega arith; word_is = c.room_at-word.ensures } in
    let t = c.pin_room-before.ensures.told 0 names in
    let held : (state c.pin_room-before.new.pass).rooms ≡ record no_rooms { pin = Some (pinned_at (memory z t.table.words).rooms 0) } =
    (λ i. (t.after i).rooms) ∙ ap (λ (a : RoomHolds). record a { pin = Some (pinned_at (memory z t.table.words).rooms 0) }) c.requires.idle.rooms in
    (0, names, refl, record { inside = (names.inside, (omega arith)); rooms = subst (λ (a : RoomHolds). (room_pins 0 a ≡ 1) × (a.claim ≡ None)) (sym held) (one_at-same 0 0 refl, refl) })
