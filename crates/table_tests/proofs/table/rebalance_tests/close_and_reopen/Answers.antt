use Rattle.std.proofs.Common.{◌≡◌, ℕ, ◌+◌, ◌-◌, ◌*◌, refl, sym, ap, ◌∙◌, subst, arith}
use Rattle.pin_word.specs.PinWord.{STATE, packed, state_of}
use Rattle.pin_word.proofs.Laws.{state_of-packed}
use Rattle.oak_model.specs.Limits.{Sizes}
use Rattle.chunk_core.specs.declared.states.TheConstants.{OPEN, FROZEN, HELD}
use Rattle.chunk_core.specs.Rooms.{at_base}
use Rattle.chunk_core.specs.RoomStep.{freeze_room}
use Rattle.oak_core.specs.declared.states.PassState.{PassState}
use Rattle.oak_core.specs.Passes.{state, key, call_of}
use Rattle.oak_core.specs.RoomCalls.{NamesRoomPin, NamesRoomWord}
use Rattle.oak_core.specs.Schedule.{opening}
use Rattle.oak_core.proofs.openings.ReopenedPass.{next_word, may_hold, comes_to_hold, may_store, holds_stored, may_open, holds_no_more, else_then, else_frozen, else_held, else_stored, else_opened, else_loaded, holds_nothing, alone_still}
use Rattle.oak_core.proofs.openings.ReopenedSteps.{HasPin, opened_pin, pin_stands, frozen_rooms}
use Rattle.oak_core.proofs.memory.RoomNames.{room_pin_below}
use Rattle.table_tests.proofs.table.rebalance_tests.close_and_reopen.Goals as goal

pub freeze-before-requires-clause-names : goal.freeze-before-requires-clause-names
freeze-before-requires-clause-names g c = let some_room = c.rooms-rooms.ensures.some in let are = c.rooms-rooms.ensures.is in
    let names : NamesRoomPin (key c.args.table.now) 0 c.room_at-word.result = record { inside = omega arith; word_is = c.room_at-word.ensures } in
    (0, names, c.pack-2.ensures ∙ (next_word OPEN ∙ ap (λ (n : ℕ). n + STATE) (sym c.pack.ensures)), record { inside = (names.inside, (omega arith)); rooms = ap state_of c.pack.ensures ∙ state_of-packed 0 OPEN 0 (omega arith) (omega arith) })

pub hold_room-frozen-requires-clause-names : goal.hold_room-frozen-requires-clause-names
hold_room-frozen-requires-clause-names g c = let z : Sizes = key c.args.table.now in let some_room = c.rooms-rooms.ensures.some in let are = c.rooms-rooms.ensures.is in
    let names : NamesRoomPin z 0 c.room_at-word.result = record { inside = omega arith; word_is = c.room_at-word.ensures } in
    let t = c.freeze-before.ensures.told 0 names in
    let has = subst (λ (n : ℕ). HasPin z n (opening z 0).words) (sym c.pack.ensures) (opened_pin z 0 (opening z 0).words c.requires.opened) in
    let first = pin_stands z (call_of c.args.pass.now) (state c.args.pass.now) c.freeze-before.result (state c.freeze-before.new.pass) (freeze_room 0 c.pack.result) (opening z 0).words c.pack.result c.requires.words has t in
    let rooms = frozen_rooms z (call_of c.args.pass.now) (state c.args.pass.now) c.freeze-before.result (state c.freeze-before.new.pass) c.pack.result c.requires.idle.rooms t first in
    (0, names, c.pack-4.ensures ∙ (next_word FROZEN ∙ ap (λ (n : ℕ). n + STATE) (sym c.pack-3.ensures)), record { inside = (names.inside, (omega arith)); rooms = may_hold c.pack-3.result (state c.freeze-before.new.pass) c.pack-3.ensures rooms })

pub store_room-requires-clause-names : goal.store_room-requires-clause-names
store_room-requires-clause-names g c = let z : Sizes = key c.args.table.now in let some_room = c.rooms-rooms.ensures.some in let are = c.rooms-rooms.ensures.is in
    let names : NamesRoomPin z 0 c.room_at-word.result = record { inside = omega arith; word_is = c.room_at-word.ensures } in
    let base : NamesRoomWord z (at_base 0) c.base_at-base.result = record { inside = (omega arith, omega arith); word_is = c.base_at-base.ensures } in
    let v0 : PassState = state c.args.pass.now in let v1 : PassState = state c.freeze-before.new.pass in let v2 : PassState = state c.hold_room-frozen.new.pass in
    let has = subst (λ (n : ℕ). HasPin z n (opening z 0).words) (sym c.pack.ensures) (opened_pin z 0 (opening z 0).words c.requires.opened) in
    let mid = ap (λ (n : ℕ). n + STATE) c.pack.ensures ∙ (sym (next_word OPEN) ∙ sym c.pack-3.ensures) in
    let holds = comes_to_hold z (call_of c.args.pass.now) (call_of c.freeze-before.new.pass) c.pack.result c.pack-3.result c.freeze-before.result c.hold_room-frozen.result v0 v1 v2 (opening z 0).words (omega arith) c.requires.alone c.requires.idle.rooms c.requires.words has mid (c.freeze-before.ensures.told 0 names) (c.hold_room-frozen.ensures.told 0 names) in
    (at_base 0, base, record { inside = base.inside; rooms = may_store z 0 v2 holds 0 (omega arith) })

two_states : packed 0 (HELD - OPEN) 0 ≡ (HELD - OPEN) * STATE
unfolding packed
two_states = refl

pub open_room-held-requires-clause-names : goal.open_room-held-requires-clause-names
open_room-held-requires-clause-names g c = let z : Sizes = key c.args.table.now in let some_room = c.rooms-rooms.ensures.some in let are = c.rooms-rooms.ensures.is in
    let names : NamesRoomPin z 0 c.room_at-word.result = record { inside = omega arith; word_is = c.room_at-word.ensures } in
    let base : NamesRoomWord z (at_base 0) c.base_at-base.result = record { inside = (omega arith, omega arith); word_is = c.base_at-base.ensures } in
    let v0 : PassState = state c.args.pass.now in let v1 : PassState = state c.freeze-before.new.pass in let v2 : PassState = state c.hold_room-frozen.new.pass in
    let has = subst (λ (n : ℕ). HasPin z n (opening z 0).words) (sym c.pack.ensures) (opened_pin z 0 (opening z 0).words c.requires.opened) in
    let mid = ap (λ (n : ℕ). n + STATE) c.pack.ensures ∙ (sym (next_word OPEN) ∙ sym c.pack-3.ensures) in
    let holds = comes_to_hold z (call_of c.args.pass.now) (call_of c.freeze-before.new.pass) c.pack.result c.pack-3.result c.freeze-before.result c.hold_room-frozen.result v0 v1 v2 (opening z 0).words (omega arith) c.requires.alone c.requires.idle.rooms c.requires.words has mid (c.freeze-before.ensures.told 0 names) (c.hold_room-frozen.ensures.told 0 names) in
    let v3 : PassState = state c.store_room.new.pass in
    let stored = holds_stored z 0 v2 holds (call_of c.hold_room-frozen.new.pass) 0 _ v3 (c.store_room.ensures.told (at_base 0) base).1 in
    (0, names, c.pack-5.ensures ∙ two_states, record { inside = (names.inside, (omega arith)); rooms = may_open z v3 stored })

pub load-opened-requires-clause-inside : goal.load-opened-requires-clause-inside
load-opened-requires-clause-inside g c = let z : Sizes = key c.args.table.now in let some_room = c.rooms-rooms.ensures.some in let are = c.rooms-rooms.ensures.is in
    room_pin_below z 0 c.room_at-word.result record { inside = omega arith; word_is = c.room_at-word.ensures }

pub returns-clause-idle : goal.returns-clause-idle
returns-clause-idle g c = let z : Sizes = key c.args.table.now in let some_room = c.rooms-rooms.ensures.some in let are = c.rooms-rooms.ensures.is in
    let names : NamesRoomPin z 0 c.room_at-word.result = record { inside = omega arith; word_is = c.room_at-word.ensures } in
    let base : NamesRoomWord z (at_base 0) c.base_at-base.result = record { inside = (omega arith, omega arith); word_is = c.base_at-base.ensures } in
    let v0 : PassState = state c.args.pass.now in let v1 : PassState = state c.freeze-before.new.pass in let v2 : PassState = state c.hold_room-frozen.new.pass in
    let has = subst (λ (n : ℕ). HasPin z n (opening z 0).words) (sym c.pack.ensures) (opened_pin z 0 (opening z 0).words c.requires.opened) in
    let mid = ap (λ (n : ℕ). n + STATE) c.pack.ensures ∙ (sym (next_word OPEN) ∙ sym c.pack-3.ensures) in
    let holds = comes_to_hold z (call_of c.args.pass.now) (call_of c.freeze-before.new.pass) c.pack.result c.pack-3.result c.freeze-before.result c.hold_room-frozen.result v0 v1 v2 (opening z 0).words (omega arith) c.requires.alone c.requires.idle.rooms c.requires.words has mid (c.freeze-before.ensures.told 0 names) (c.hold_room-frozen.ensures.told 0 names) in
    let v3 : PassState = state c.store_room.new.pass in
    let stored = holds_stored z 0 v2 holds (call_of c.hold_room-frozen.new.pass) 0 _ v3 (c.store_room.ensures.told (at_base 0) base).1 in
    let v4 : PassState = state c.open_room-held.new.pass in let v5 : PassState = state c.load-opened.new.pass in
    let told = c.open_room-held.ensures.told 0 names in let loaded = else_loaded z (call_of c.open_room-held.new.pass) c.load-opened.result v4 v5 c.room_at-word.result names c.load-opened.ensures.loaded in
    let stays = else_then v0 v1 v5 (else_frozen z (call_of c.args.pass.now) c.freeze-before.result v0 v1 c.pack.result (c.freeze-before.ensures.told 0 names))
    (else_then v1 v2 v5 (else_held z (call_of c.freeze-before.new.pass) c.hold_room-frozen.result v1 v2 c.pack-3.result (c.hold_room-frozen.ensures.told 0 names))
    (else_then v2 v3 v5 (else_stored z (call_of c.hold_room-frozen.new.pass) _ v2 v3 0 (c.store_room.ensures.told (at_base 0) base).1)
    (else_then v3 v4 v5 (else_opened z (call_of c.store_room.new.pass) c.open_room-held.result v3 v4 told) loaded.0))) in
    holds_nothing v0 v5 stays (loaded.1 ∙ holds_no_more z (call_of c.store_room.new.pass) c.open_room-held.result v3 v4 stored told) c.requires.idle

pub returns-clause-alone : goal.returns-clause-alone
returns-clause-alone g c = let z : Sizes = key c.args.table.now in let some_room = c.rooms-rooms.ensures.some in let are = c.rooms-rooms.ensures.is in
    let names : NamesRoomPin z 0 c.room_at-word.result = record { inside = omega arith; word_is = c.room_at-word.ensures } in
    let base : NamesRoomWord z (at_base 0) c.base_at-base.result = record { inside = (omega arith, omega arith); word_is = c.base_at-base.ensures } in
    let v0 : PassState = state c.args.pass.now in let v1 : PassState = state c.freeze-before.new.pass in let v2 : PassState = state c.hold_room-frozen.new.pass in
    let v3 : PassState = state c.store_room.new.pass in
    let v4 : PassState = state c.open_room-held.new.pass in let v5 : PassState = state c.load-opened.new.pass in
    let told = c.open_room-held.ensures.told 0 names in let loaded = else_loaded z (call_of c.open_room-held.new.pass) c.load-opened.result v4 v5 c.room_at-word.result names c.load-opened.ensures.loaded in
    let stays = else_then v0 v1 v5 (else_frozen z (call_of c.args.pass.now) c.freeze-before.result v0 v1 c.pack.result (c.freeze-before.ensures.told 0 names))
    (else_then v1 v2 v5 (else_held z (call_of c.freeze-before.new.pass) c.hold_room-frozen.result v1 v2 c.pack-3.result (c.hold_room-frozen.ensures.told 0 names))
    (else_then v2 v3 v5 (else_stored z (call_of c.hold_room-frozen.new.pass) _ v2 v3 0 (c.store_room.ensures.told (at_base 0) base).1)
    (else_then v3 v4 v5 (else_opened z (call_of c.store_room.new.pass) c.open_room-held.result v3 v4 told) loaded.0))) in
    alone_still v0 v5 stays c.requires.alone
