use Rattle.std.proofs.Common.{◌≡◌, ℕ, ap, ◌∙◌, subst, arith}
use Rattle.pin_word.specs.PinWord.{generation_of}
use Rattle.pin_word.proofs.Laws.{generation_of-packed}
use Rattle.oak_model.specs.Limits.{Sizes}
use Rattle.chunk_core.specs.declared.states.TheConstants.{FROZEN}
use Rattle.oak_core.specs.Passes.{state, key, call_of}
use Rattle.oak_core.specs.RoomCalls.{HoldsRoomWord}
use Rattle.oak_core.specs.Thawing.{ThawsRoom}
use Rattle.oak_core.proofs.seats.SamePass.{stays_both}
use Rattle.chunk_core.specs.declared.holds.RoomHolds.{RoomHolds}
use Rattle.chunk_ops.specs.AddsAlone.{Never}
use Rattle.chunk_ops.proofs.MeetingCalls.{stays_then}
use Rattle.rebalance.specs.Holding.{FindsPinned}
use Rattle.rebalance.specs.Repeating.{Repeats}
use Rattle.rebalance.proofs.Repeated.{repeats_more}
use Rattle.rebalance.proofs.HeldAlone.{bare_word, finds_pinned, frozen_still, holds, never_pinned, thaws}
use Rattle.rebalance.proofs.RoomExchanges.{next_state, hold_misses, packed_states}
use Rattle.rebalance.specs.Resting.{resting_both}
use Rattle.rebalance.proofs.room_steps.hold_frozen.Goals as goal

pub hold_room-requires-clause-names : goal.hold_room-requires-clause-names
hold_room-requires-clause-names c = (
  c.args.room,
  record { inside = c.requires.inside; word_is = c.room_at-word.ensures },
  next_state FROZEN c.pack-frozen.result c.pack-held.result c.pack-frozen.ensures c.pack-held.ensures,
  record {
    inside = (c.requires.inside, omega arith);
    rooms = (bare_word FROZEN c.pack-frozen.result (omega arith) c.pack-frozen.ensures, frozen_still (call_of c.args.pass.now) c.args.room (state c.args.pass.now) (state c.loop.pass) c.loop.invariant.only c.requires.frozen);
  },
)

pub returns-then-hold_room-frozen-clause-holds : goal.returns-then-hold_room-frozen-clause-holds
returns-then-hold_room-frozen-clause-holds c _ = let z : Sizes = key c.args.table.now in let call = call_of c.args.pass.now in let r = c.args.room in let v = state c.loop.pass in let w = state c.hold_room.new.pass in let i = c.loop.invariant in
    holds z call r c.pack-frozen.result c.hold_room.result (state c.args.pass.now) v w i.only
    (subst (λ (k : ℕ). HoldsRoomWord z k r c.pack-frozen.result v c.hold_room.result w) i.stays.call (c.hold_room.ensures.told r record { inside = c.requires.inside; word_is = c.room_at-word.ensures })) c.if-hold_room-frozen.true

pub loop-preserved : goal.loop-preserved
loop-preserved c = let z : Sizes = key c.args.table.now in let call = call_of c.args.pass.now in let r = c.args.room in let u = state c.args.pass.now in let v = state c.loop.pass in let w = state c.hold_room.new.pass in let i = c.loop.invariant in
    let tells = subst (λ (k : ℕ). HoldsRoomWord z k r c.pack-frozen.result v c.hold_room.result w) i.stays.call (c.hold_room.ensures.told r record { inside = c.requires.inside; word_is = c.room_at-word.ensures }) in
    let first = ap generation_of c.pack-frozen.ensures ∙ generation_of-packed 0 FROZEN 0 (omega arith) (omega arith) in record {
      stays = stays_both i.stays c.hold_room.ensures.own;
      only = resting_both call u v w i.only (hold_misses z call r c.pack-frozen.result c.hold_room.result v w tells c.if-hold_room-frozen.false);
      pinned = repeats_more (FindsPinned z call r) c.loop.counter u v w i.pinned (finds_pinned z call r c.pack-frozen.result c.hold_room.result v w tells first c.if-hold_room-frozen.false);
      alone = λ _. stays_then Never u v w i.only.still (never_pinned z call r c.pack-frozen.result c.hold_room.result v w tells first c.if-hold_room-frozen.false (ap (λ (a : RoomHolds). a.pin) i.only.rooms ∙ c.requires.unpinned));
    }

pub thaw_room-requires-clause-names : goal.thaw_room-requires-clause-names
thaw_room-requires-clause-names c = (
  c.args.room,
  record { inside = c.requires.inside; word_is = c.room_at-word.ensures },
  c.pack.ensures ∙ packed_states 1,
  record { inside = (c.requires.inside, omega arith); rooms = frozen_still (call_of c.args.pass.now) c.args.room (state c.args.pass.now) (state c.loop.pass) c.loop.invariant.only c.requires.frozen },
)

pub returns-clause-thaws : goal.returns-clause-thaws
returns-clause-thaws c _ = let z : Sizes = key c.args.table.now in let call = call_of c.args.pass.now in let r = c.args.room in let v = state c.loop.pass in let w = state c.thaw_room.new.pass in let i = c.loop.invariant in
    let no = c.loop-test.false in let most = c.loop.auto.counter-end in let some = c.requires.some in let u = state c.args.pass.now in
    thaws z call c.args.looks r c.thaw_room.result u v w (subst (λ (n : ℕ). Repeats (FindsPinned z call r) u n v) (let e : c.loop.counter ≡ c.args.looks = omega arith in e) i.pinned) (i.alone (omega arith)) i.only
    (subst (λ (k : ℕ). ThawsRoom z k r v c.thaw_room.result w) i.stays.call (c.thaw_room.ensures.told r record { inside = c.requires.inside; word_is = c.room_at-word.ensures }))
