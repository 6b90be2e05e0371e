use Rattle.std.proofs.Common.{ℕ, eqb-true, ap, ◌∙◌, subst, arith}
use Rattle.std.proofs.lemmas.Bool.{eqb-false}
use Rattle.pin_word.specs.PinWord.{generation_of}
use Rattle.pin_word.proofs.Laws.{generation_of-packed}
use Rattle.oak_model.specs.Limits.{Sizes}
use Rattle.chunk_core.specs.declared.states.TheConstants.{FREE, HELD}
use Rattle.chunk_core.specs.RoomHolds.{had_room}
use Rattle.oak_core.specs.Passes.{state, key, call_of}
use Rattle.oak_core.specs.RoomCalls.{NamesRoomPin, ClaimsRoom}
use Rattle.chunk_core.specs.RoomStep.{claim_room}
use Rattle.chunk_core.specs.Rooms.{at_room_pin}
use Rattle.oak_core.specs.Memory.{in_rooms}
use Rattle.oak_core.specs.Step.{load, on_rooms}
use Rattle.oak_core.proofs.seats.AloneRuns.{moment_after}
use Rattle.oak_core.proofs.memory.RoomNames.{room_pin_below}
use Rattle.rebalance.proofs.ClaimedRooms.{load_used, exchange_used, claims}
use Rattle.rebalance.proofs.FrozenRooms.{pin_load, pin_load_only}
use Rattle.rebalance.proofs.HeldAlone.{bare_word}
use Rattle.rebalance.proofs.OtherClaims.{claim_others, load_others, others_both}
use Rattle.rebalance.proofs.RoomExchanges.{packed_states, claim_misses}
use Rattle.rebalance.proofs.TakenRooms.{exchange_taken, load_taken}
use Rattle.rebalance.specs.Resting.{OnlyRests, only_tries, trying_both}
use Rattle.rebalance.proofs.room_steps.try_claim.Goals as goal

pub load-requires-clause-inside : goal.load-requires-clause-inside
load-requires-clause-inside c = room_pin_below (key c.args.table.now) c.args.room c.room_at-word.result record { inside = c.requires.inside; word_is = c.room_at-word.ensures }

pub returns-then-load-free-clause-used : goal.returns-then-load-free-clause-used
returns-then-load-free-clause-used c _ none = let z : Sizes = key c.args.table.now in let call = call_of c.args.pass.now in let r = c.args.room in let v = state c.args.pass.now in let w = state c.load.new.pass in
    load_used z call r c.pack-free.result c.load.result v w (pin_load z call r c.room_at-word.result c.load.result v w record { inside = c.requires.inside; word_is = c.room_at-word.ensures } c.load.ensures.loaded)
    (ap generation_of c.pack-free.ensures ∙ generation_of-packed 0 FREE 0 (omega arith) (omega arith)) (bare_word FREE c.pack-free.result (omega arith) c.pack-free.ensures) c.if-load-free.true none

pub returns-then-load-free-clause-only : goal.returns-then-load-free-clause-only
returns-then-load-free-clause-only c _ = only_tries (call_of c.args.pass.now) (state c.args.pass.now) (state c.load.new.pass) (pin_load_only (key c.args.table.now) (call_of c.args.pass.now) c.args.room c.room_at-word.result c.load.result (state c.args.pass.now) (state c.load.new.pass) record { inside = c.requires.inside; word_is = c.room_at-word.ensures } c.load.ensures.loaded)

pub returns-then-load-free-clause-others : goal.returns-then-load-free-clause-others
returns-then-load-free-clause-others c but ne = let z : Sizes = key c.args.table.now in let call = call_of c.args.pass.now in let r = c.args.room in let v = state c.args.pass.now in let w = state c.load.new.pass in
    load_others z call r c.load.result v w (pin_load z call r c.room_at-word.result c.load.result v w record { inside = c.requires.inside; word_is = c.room_at-word.ensures } c.load.ensures.loaded) c.requires.inside but ne

pub claim_room-requires-clause-names : goal.claim_room-requires-clause-names
claim_room-requires-clause-names c = let free = c.pack-free.ensures ∙ packed_states FREE in let held = c.pack.ensures ∙ packed_states HELD in
    (c.args.room, record { inside = c.requires.inside; word_is = c.room_at-word.ensures }, (omega arith), record { inside = (c.requires.inside, omega arith); rooms = bare_word FREE c.pack-free.result (omega arith) c.pack-free.ensures })

pub returns-clause-claims : goal.returns-clause-claims
returns-clause-claims c e = let z : Sizes = key c.args.table.now in let call = call_of c.args.pass.now in let r = c.args.room in let u = state c.args.pass.now in let v = state c.load.new.pass in let w = state c.claim_room.new.pass in
    let names : NamesRoomPin z r c.room_at-word.result = record { inside = c.requires.inside; word_is = c.room_at-word.ensures } in
    claims z call r c.pack-free.result c.claim_room.result u v w (pin_load_only z call r c.room_at-word.result c.load.result u v names c.load.ensures.loaded)
    (subst (λ (k : ℕ). ClaimsRoom z k r c.pack-free.result v c.claim_room.result w) c.load.ensures.own.call (c.claim_room.ensures.told r names)) (eqb-true c.claim_room.result c.pack-free.result e)

pub returns-clause-used : goal.returns-clause-used
returns-clause-used c e none = let z : Sizes = key c.args.table.now in let call = call_of c.args.pass.now in let r = c.args.room in let u = state c.args.pass.now in let v = state c.load.new.pass in let w = state c.claim_room.new.pass in
    let names : NamesRoomPin z r c.room_at-word.result = record { inside = c.requires.inside; word_is = c.room_at-word.ensures } in
    let only : OnlyRests call u v = pin_load_only z call r c.room_at-word.result c.load.result u v names c.load.ensures.loaded in
    exchange_used z call r c.pack-free.result c.claim_room.result u v w only.stands.met (ap generation_of c.pack-free.ensures ∙ generation_of-packed 0 FREE 0 (omega arith) (omega arith))
    (subst (λ (k : ℕ). ClaimsRoom z k r c.pack-free.result v c.claim_room.result w) c.load.ensures.own.call (c.claim_room.ensures.told r names)) (eqb-false c.claim_room.result c.pack-free.result e) (ap (had_room r) only.rooms ∙ none)

pub returns-clause-only : goal.returns-clause-only
returns-clause-only c e = let z : Sizes = key c.args.table.now in let call = call_of c.args.pass.now in let r = c.args.room in let u = state c.args.pass.now in let v = state c.load.new.pass in let w = state c.claim_room.new.pass in
    let names : NamesRoomPin z r c.room_at-word.result = record { inside = c.requires.inside; word_is = c.room_at-word.ensures } in
    trying_both call u v w (only_tries call u v (pin_load_only z call r c.room_at-word.result c.load.result u v names c.load.ensures.loaded))
    (claim_misses z call r c.pack-free.result c.claim_room.result v w (subst (λ (k : ℕ). ClaimsRoom z k r c.pack-free.result v c.claim_room.result w) c.load.ensures.own.call (c.claim_room.ensures.told r names)) (eqb-false c.claim_room.result c.pack-free.result e))

pub returns-clause-others : goal.returns-clause-others
returns-clause-others c but ne = let z : Sizes = key c.args.table.now in let call = call_of c.args.pass.now in let r = c.args.room in let u = state c.args.pass.now in let v = state c.load.new.pass in let w = state c.claim_room.new.pass in
    let names : NamesRoomPin z r c.room_at-word.result = record { inside = c.requires.inside; word_is = c.room_at-word.ensures } in
    others_both z but u v w (load_others z call r c.load.result u v (pin_load z call r c.room_at-word.result c.load.result u v names c.load.ensures.loaded) c.requires.inside but ne)
    (claim_others z call r c.pack-free.result c.claim_room.result v w (subst (λ (k : ℕ). ClaimsRoom z k r c.pack-free.result v c.claim_room.result w) c.load.ensures.own.call (c.claim_room.ensures.told r names)) c.requires.inside but ne)

pub returns-then-load-free-clause-moment : goal.returns-then-load-free-clause-moment
returns-then-load-free-clause-moment c _ = let z : Sizes = key c.args.table.now in let call = call_of c.args.pass.now in let r = c.args.room in let v = state c.args.pass.now in let w = state c.load.new.pass in
    (_, moment_after z call (load (in_rooms (at_room_pin r))) v c.load.result w (pin_load z call r c.room_at-word.result c.load.result v w record { inside = c.requires.inside; word_is = c.room_at-word.ensures } c.load.ensures.loaded))

pub returns-clause-moment : goal.returns-clause-moment
returns-clause-moment c e = let z : Sizes = key c.args.table.now in let call = call_of c.args.pass.now in let r = c.args.room in let v = state c.load.new.pass in let w = state c.claim_room.new.pass in
    let names : NamesRoomPin z r c.room_at-word.result = record { inside = c.requires.inside; word_is = c.room_at-word.ensures } in
    let told : ClaimsRoom z call r c.pack-free.result v c.claim_room.result w = subst (λ (k : ℕ). ClaimsRoom z k r c.pack-free.result v c.claim_room.result w) c.load.ensures.own.call (c.claim_room.ensures.told r names) in
    (_, moment_after z call (on_rooms (claim_room r c.pack-free.result)) v c.claim_room.result w told)

pub returns-then-load-free-clause-alone : goal.returns-then-load-free-clause-alone
returns-then-load-free-clause-alone c _ none = let z : Sizes = key c.args.table.now in let call = call_of c.args.pass.now in let r = c.args.room in let v = state c.args.pass.now in let w = state c.load.new.pass in
    load_taken z call r c.pack-free.result c.load.result v w (pin_load z call r c.room_at-word.result c.load.result v w record { inside = c.requires.inside; word_is = c.room_at-word.ensures } c.load.ensures.loaded)
    (ap generation_of c.pack-free.ensures ∙ generation_of-packed 0 FREE 0 (omega arith) (omega arith)) (bare_word FREE c.pack-free.result (omega arith) c.pack-free.ensures) c.if-load-free.true none

pub returns-clause-alone : goal.returns-clause-alone
returns-clause-alone c e _ = let z : Sizes = key c.args.table.now in let call = call_of c.args.pass.now in let r = c.args.room in let u = state c.args.pass.now in let v = state c.load.new.pass in let w = state c.claim_room.new.pass in
    let names : NamesRoomPin z r c.room_at-word.result = record { inside = c.requires.inside; word_is = c.room_at-word.ensures } in
    exchange_taken z call r c.pack-free.result c.claim_room.result c.load.result u v w (pin_load z call r c.room_at-word.result c.load.result u v names c.load.ensures.loaded) c.if-load-free.false
    (subst (λ (k : ℕ). ClaimsRoom z k r c.pack-free.result v c.claim_room.result w) c.load.ensures.own.call (c.claim_room.ensures.told r names)) (eqb-false c.claim_room.result c.pack-free.result e)
