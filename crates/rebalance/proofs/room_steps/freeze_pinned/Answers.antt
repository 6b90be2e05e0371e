use Rattle.std.proofs.Common.{◌≡◌, ℕ, ◌+◌, refl, sym, ap, ◌∙◌, subst, arith}
use Rattle.pin_word.specs.PinWord.{state_of}
use Rattle.oak_model.specs.Limits.{Sizes}
use Rattle.chunk_core.specs.declared.states.TheConstants.{OPEN}
use Rattle.oak_core.specs.Passes.{state, key, call_of}
use Rattle.oak_core.specs.RoomCalls.{NamesRoomPin, FreezesRoom}
use Rattle.oak_core.specs.Splitting.{Loads}
use Rattle.oak_core.proofs.covers.PinExchanges.{next_small}
use Rattle.oak_core.proofs.memory.RoomNames.{room_pin_below}
use Rattle.oak_core.proofs.seats.SamePass.{stays_both}
use Rattle.rebalance.proofs.Repeated.{repeats_more}
use Rattle.rebalance.proofs.FrozenRooms.{pin_load, pin_load_only, pinned_still, finds_changed, finds_frozen, freezes, leaves_changed, never_changed}
use Rattle.rebalance.proofs.RoomExchanges.{packed_states, freeze_misses}
use Rattle.chunk_ops.specs.AddsAlone.{Never}
use Rattle.chunk_ops.proofs.MeetingCalls.{stays_then}
use Rattle.rebalance.specs.Holding.{FindsChanged}
use Rattle.rebalance.specs.Repeating.{Repeats}
use Rattle.rebalance.specs.Resting.{OnlyRests, resting_both}
use Rattle.rebalance.proofs.room_steps.freeze_pinned.Goals as goal

pub load-open-requires-clause-inside : goal.load-open-requires-clause-inside
load-open-requires-clause-inside c = room_pin_below (key c.args.table.now) c.args.pin.now.room c.room_at-word.result record { inside = c.requires.pinned.inside; word_is = c.room_at-word.ensures }

pub returns-then-state-ne-OPEN-clause-leaves : goal.returns-then-state-ne-OPEN-clause-leaves
returns-then-state-ne-OPEN-clause-leaves c _ = let z : Sizes = key c.args.table.now in let call = call_of c.args.pass.now in let r = c.args.pin.now.room in let u = state c.args.pass.now in let v = state c.loop.pass in let i = c.loop.invariant in
    finds_frozen z call c.args.looks r c.room_at-word.result c.load-open.result u v (state c.load-open.new.pass) record { inside = c.requires.pinned.inside; word_is = c.room_at-word.ensures } (pinned_still z call r u v i.only c.requires.pinned) i.only
    (subst (λ (k : ℕ). Loads z k c.room_at-word.result v c.load-open.result (state c.load-open.new.pass)) i.stays.call c.load-open.ensures.loaded) (λ e. c.if-state-ne-OPEN.true (c.state.ensures ∙ e))

pub overflow_add-frozen : goal.overflow_add-frozen
overflow_add-frozen c = let is_open : state_of c.load-open.result ≡ OPEN = sym c.state.ensures ∙ c.if-state-ne-OPEN.false in let one = c.pack.ensures ∙ packed_states 1 in
    let small = next_small c.load-open.result (omega arith) (omega (arith, c.load-open.type_inv)) in omega arith

pub freeze-requires-clause-names : goal.freeze-requires-clause-names
freeze-requires-clause-names c = let z : Sizes = key c.args.table.now in
    (c.args.pin.now.room, record { inside = c.requires.pinned.inside; word_is = c.room_at-word.ensures }, ap (λ (k : ℕ). c.load-open.result + k) (c.pack.ensures ∙ packed_states 1), record { inside = (c.requires.pinned.inside, omega arith); rooms = sym c.state.ensures ∙ c.if-state-ne-OPEN.false })

pub returns-then-freeze-open-clause-frozen : goal.returns-then-freeze-open-clause-frozen
returns-then-freeze-open-clause-frozen c _ = let z : Sizes = key c.args.table.now in let call = call_of c.args.pass.now in let r = c.args.pin.now.room in let u = state c.args.pass.now in let v = state c.loop.pass in let x = state c.load-open.new.pass in let w = state c.freeze.new.pass in let i = c.loop.invariant in
    let names : NamesRoomPin z r c.room_at-word.result = record { inside = c.requires.pinned.inside; word_is = c.room_at-word.ensures } in
    let loaded : OnlyRests call v x = pin_load_only z call r c.room_at-word.result c.load-open.result v x names (subst (λ (k : ℕ). Loads z k c.room_at-word.result v c.load-open.result x) i.stays.call c.load-open.ensures.loaded) in
    freezes z call r c.load-open.result c.freeze.result u x w c.requires.pinned (resting_both call u v x i.only loaded)
    (subst (λ (k : ℕ). FreezesRoom z k r c.load-open.result x c.freeze.result w) (c.load-open.ensures.own.call ∙ i.stays.call) (c.freeze.ensures.told r names)) c.if-freeze-open.true

pub loop-preserved : goal.loop-preserved
loop-preserved c = let z : Sizes = key c.args.table.now in let call = call_of c.args.pass.now in let r = c.args.pin.now.room in let u = state c.args.pass.now in let v = state c.loop.pass in let x = state c.load-open.new.pass in let w = state c.freeze.new.pass in let i = c.loop.invariant in
    let names : NamesRoomPin z r c.room_at-word.result = record { inside = c.requires.pinned.inside; word_is = c.room_at-word.ensures } in
    let loaded : OnlyRests call v x = pin_load_only z call r c.room_at-word.result c.load-open.result v x names (subst (λ (k : ℕ). Loads z k c.room_at-word.result v c.load-open.result x) i.stays.call c.load-open.ensures.loaded) in
    let tells = subst (λ (k : ℕ). FreezesRoom z k r c.load-open.result x c.freeze.result w) (c.load-open.ensures.own.call ∙ i.stays.call) (c.freeze.ensures.told r names) in
    let looked = pin_load z call r c.room_at-word.result c.load-open.result v x names (subst (λ (k : ℕ). Loads z k c.room_at-word.result v c.load-open.result x) i.stays.call c.load-open.ensures.loaded) in record {
      stays = stays_both i.stays (stays_both c.load-open.ensures.own c.freeze.ensures.own);
      only = resting_both call u x w (resting_both call u v x i.only loaded) (freeze_misses z call r c.load-open.result c.freeze.result x w tells c.if-freeze-open.false);
      changed = repeats_more (FindsChanged z call r) c.loop.counter u v w i.changed (finds_changed z call r c.load-open.result c.freeze.result c.load-open.result v x w looked tells c.if-freeze-open.false);
      alone = λ _. stays_then Never u v w i.only.still (never_changed z call r c.load-open.result c.freeze.result c.load-open.result v x w looked refl tells c.if-freeze-open.false);
    }

pub returns-clause-leaves : goal.returns-clause-leaves
returns-clause-leaves c _ = let z : Sizes = key c.args.table.now in let i = c.loop.invariant in
    let no = c.loop-test.false in let most = c.loop.auto.counter-end in let some = c.requires.some in let call = call_of c.args.pass.now in let r = c.args.pin.now.room in let v = state c.args.pass.now in let w = state c.loop.pass in
    leaves_changed z call c.args.looks r v w (subst (λ (n : ℕ). Repeats (FindsChanged z call r) v n w) (let e : c.loop.counter ≡ c.args.looks = omega arith in e) i.changed) (i.alone (omega arith)) i.only
