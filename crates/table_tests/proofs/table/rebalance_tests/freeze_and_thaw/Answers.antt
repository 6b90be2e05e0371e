use Rattle.std.proofs.Common.{◌≡◌, ℕ, ◌+◌, ◌-◌, ◌*◌, cond, Bool, ◌∷◌, eq-eqb, refl, sym, ap, ◌∙◌, subst, arith}
use Rattle.pin_word.specs.PinWord.{STATE, packed, state_of}
use Rattle.pin_word.proofs.Laws.{state_of-packed}
use Rattle.oak_model.specs.Limits.{Sizes}
use Rattle.chunk_core.specs.declared.states.TheConstants.{OPEN, FROZEN}
use Rattle.chunk_core.specs.declared.holds.RoomHeldAs.TheVariants.{Frozen}
use Rattle.chunk_core.specs.declared.holds.RoomHolds.{RoomHolds}
use Rattle.chunk_core.specs.RoomCopies.{without_room}
use Rattle.chunk_core.specs.RoomHolds.{no_rooms}
use Rattle.chunk_core.specs.RoomRule.{in_room_state}
use Rattle.chunk_core.specs.RoomStep.{freeze_room}
use Rattle.chunk_core.specs.Rooms.{at_room_pin}
use Rattle.oak_core.specs.declared.states.PassState.{PassState}
use Rattle.oak_core.specs.Memory.{in_rooms, memory}
use Rattle.oak_core.specs.Passes.{state, key, call_of}
use Rattle.oak_core.specs.RoomCalls.{NamesRoomPin}
use Rattle.oak_core.specs.Step.{on_rooms, Told}
use Rattle.oak_core.specs.Thawing.{ThawsRoom}
use Rattle.oak_core.proofs.openings.ReopenedPass.{else_then, else_frozen, holds_nothing}
use Rattle.oak_core.proofs.openings.ReopenedRoom.{freezing}
use Rattle.oak_core.proofs.openings.ReopenedSteps.{frozen_once}
use Rattle.oak_core.proofs.memory.Words.{memory_read}
use Rattle.table_tests.proofs.table.rebalance_tests.freeze_and_thaw.Goals as goal

-- the words of a room with one pin, open and frozen
next_pinned : packed 0 FROZEN 1 ≡ packed 0 OPEN 1 + STATE
unfolding packed
next_pinned = refl

one_state : packed 0 (FROZEN - OPEN) 0 ≡ (FROZEN - OPEN) * STATE
unfolding packed
one_state = refl

-- the step found the word, so the pass has the room frozen
frozen_by : (z : Sizes) (call old n : ℕ) (v w : PassState) → v.rooms ≡ no_rooms → Told z call (on_rooms (freeze_room 0 old)) v n w → n ≡ old → w.rooms ≡ freezing
frozen_by z call old n v w none t e = (λ i. (t.after i).rooms)
    ∙ (ap (λ (b : Bool). record v.rooms { held = cond b (record { room = 0; held_as = Frozen } ∷ v.rooms.held) v.rooms.held }) (eq-eqb ((memory z t.table.words).rooms.pin 0) old (memory_read z t.table.words (in_rooms (at_room_pin 0)) t.may.inside ∙ (t.finds ∙ e)))
    ∙ ap (λ (a : RoomHolds). record a { held = record { room = 0; held_as = Frozen } ∷ a.held }) none)

-- and behind the next step it has nothing of rooms
thawed_none : (z : Sizes) (call n : ℕ) (v w : PassState) → v.rooms ≡ freezing → ThawsRoom z call 0 v n w → w.rooms ≡ no_rooms
unfolding without_room
thawed_none z call n v w e t = t.rooms ∙ ap (λ (a : RoomHolds). record a { held = without_room 0 a.held }) e

pub freeze-requires-clause-names : goal.freeze-requires-clause-names
freeze-requires-clause-names g c = let some_room = c.rooms-rooms.ensures.some in let are = c.rooms-rooms.ensures.is in
    let names : NamesRoomPin (key c.args.table.now) 0 c.room_at-word.result = record { inside = omega arith; word_is = c.room_at-word.ensures } in
    (0, names, c.pack-frozen.ensures ∙ (next_pinned ∙ ap (λ (n : ℕ). n + STATE) (sym c.pack-open.ensures)), record { inside = (names.inside, (omega arith)); rooms = ap state_of c.pack-open.ensures ∙ state_of-packed 0 OPEN 1 (omega arith) (omega arith) })

pub thaw_room-found-requires-clause-names : goal.thaw_room-found-requires-clause-names
thaw_room-found-requires-clause-names g c = let z : Sizes = key c.args.table.now in let some_room = c.rooms-rooms.ensures.some in let are = c.rooms-rooms.ensures.is in
    let names : NamesRoomPin z 0 c.room_at-word.result = record { inside = omega arith; word_is = c.room_at-word.ensures } in
    let frozen = frozen_by z (call_of c.args.pass.now) c.pack-open.result c.freeze.result (state c.args.pass.now) (state c.freeze.new.pass) c.requires.idle.rooms (c.freeze.ensures.told 0 names) c.if-freeze-open.false in
    (0, names, c.pack.ensures ∙ one_state, record { inside = (names.inside, (omega arith)); rooms = subst (λ (a : RoomHolds). in_room_state 0 FROZEN a ≡ 1) (sym frozen) frozen_once })

pub returns-clause-idle : goal.returns-clause-idle
returns-clause-idle g c = let z : Sizes = key c.args.table.now in let some_room = c.rooms-rooms.ensures.some in let are = c.rooms-rooms.ensures.is in
    let names : NamesRoomPin z 0 c.room_at-word.result = record { inside = omega arith; word_is = c.room_at-word.ensures } in
    let v0 : PassState = state c.args.pass.now in let v1 : PassState = state c.freeze.new.pass in let v2 : PassState = state c.thaw_room-found.new.pass in
    let t = c.freeze.ensures.told 0 names in let u = c.thaw_room-found.ensures.told 0 names in
    let frozen = frozen_by z (call_of c.args.pass.now) c.pack-open.result c.freeze.result v0 v1 c.requires.idle.rooms t c.if-freeze-open.false in
    holds_nothing v0 v2 (else_then v0 v1 v2 (else_frozen z (call_of c.args.pass.now) c.freeze.result v0 v1 c.pack-open.result t) record { numbers = u.numbers; blocks = u.blocks; headers = u.headers })
    (thawed_none z (call_of c.freeze.new.pass) c.thaw_room-found.result v1 v2 frozen u) c.requires.idle

pub returns-clause-numbers : goal.returns-clause-numbers
returns-clause-numbers g c = let z : Sizes = key c.args.table.now in let some_room = c.rooms-rooms.ensures.some in let are = c.rooms-rooms.ensures.is in
    let names : NamesRoomPin z 0 c.room_at-word.result = record { inside = omega arith; word_is = c.room_at-word.ensures } in
    let t = c.freeze.ensures.told 0 names in let u = c.thaw_room-found.ensures.told 0 names in
    u.numbers ∙ (λ i. (t.after i).numbers)
