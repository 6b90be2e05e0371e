-- A pass comes to hold a room alone that it has frozen, with the range of the room.
use Rattle.std.proofs.Common.{None, ◌≡◌, ℕ, ◌+◌, ◌<◌, cond, Bool, List, ◌∷◌, map, sym, refl, ap, ◌∙◌, subst, arith, eq-eqb, Some, ◌≢◌, [], inl}
use lib.ListN.{get_elem?}
use Rattle.pin_word.specs.PinWord.{packed, state_of, count_of, HasNoPin, generation_of}
use Rattle.pin_word.proofs.Laws.{state_of-packed, count_of-packed, parts_equal}
use Rattle.oak_model.specs.Limits.{Sizes}
use Rattle.oak_model.proofs.Counting.{one_at-same, one_at-true, total_at}
use Rattle.arena_core.specs.Place.{content}
use Rattle.chunk_core.specs.declared.holds.HeldRoom.{HeldRoom}
use Rattle.chunk_core.specs.declared.holds.MovingRange.{MovingRange}
use Rattle.chunk_core.specs.declared.holds.RoomCopy.{RoomCopy}
use Rattle.chunk_core.specs.declared.holds.RoomHeldAs.TheVariants.{Held}
use Rattle.chunk_core.specs.declared.holds.RoomHolds.{RoomHolds}
use Rattle.chunk_core.specs.declared.states.TheConstants.{FROZEN, HELD}
use Rattle.chunk_core.specs.RoomCopies.{copy_of, without_room}
use Rattle.chunk_core.specs.CoverSums.{weight}
use Rattle.chunk_core.specs.RoomReads.{copy_at, moving_at}
use Rattle.chunk_core.specs.RoomRule.{in_room_state, IsWholeCopy}
use Rattle.chunk_core.specs.RoomStep.{hold_room, thaw_room}
use Rattle.chunk_core.proofs.HeldRooms.{room_rows, row_here, without_here}
use Rattle.chunk_core.proofs.RoomKinds.{whole_copy}
use Rattle.chunk_core.proofs.Weights.{weight_frozen}
use Rattle.oak_core.specs.declared.states.PassState.{PassState}
use Rattle.oak_core.specs.Memory.{Memory, memory}
use Rattle.oak_core.specs.PassState.{rooms_held}
use Rattle.oak_core.specs.RoomCalls.{HoldsRoomWord}
use Rattle.oak_core.specs.Step.{on_rooms, Told}
use Rattle.oak_core.proofs.seats.AloneRuns.{moment_after, DoesStep, runs_as, step_runs}
use Rattle.oak_core.proofs.calls.CallSteps.{met_none, step_alone, step_since}
use Rattle.chunk_ops.specs.RoomPins.{HadMoment}
use Rattle.chunk_ops.proofs.MeetingCalls.{stays_then}
use Rattle.chunk_ops.proofs.PinSteps.{pin_found}
use Rattle.rebalance.specs.Holding.{HasHeld, Holds, with_moving, FindsPinned, StandsBeside, Thaws}
use Rattle.rebalance.specs.Repeating.{Repeats}
use Rattle.rebalance.specs.LoneWords.{MovesWith}
use Rattle.rebalance.specs.Mirrors.{RangeStands}
use Rattle.rebalance.proofs.LoneSteps.{room_moves_with, StepAt, moment_at, step_at}
use Rattle.rebalance.proofs.MirroredRooms.{mirrors_at, reach_at}
use Rattle.rebalance.proofs.RangesStand.{range_stands}
use Rattle.rebalance.proofs.RoomExchanges.{beside_since, exchanged_state, hold_beside, hold_takes}
use Rattle.rebalance.specs.Resting.{OnlyRests}
use mathlib.Core.Logic.{dite}
use native.Mathlib.Decide.{ℕ_discrete}
use Rattle.oak_model.proofs.Lists.{at_map}
use Rattle.oak_core.specs.AloneWords.{Runs}
use Rattle.oak_core.specs.Thawing.{ThawsRoom}
use Rattle.chunk_ops.specs.AddsAlone.{Never}
use Rattle.rebalance.proofs.LoneChunks.{lone_count}
use Rattle.rebalance.proofs.NeverRuns.{never_first}

-- a word of a state and no pin
packed_bare : (s : ℕ) → s < 16 → HasNoPin s (packed 0 s 0)
packed_bare s lt = record { state = state_of-packed 0 s 0 lt (omega arith); count = count_of-packed 0 s 0 lt (omega arith) }

-- the first room that the pass has is the one that it holds
pub copy_first : (r : ℕ) (w : RoomCopy) (hs : List HeldRoom) → copy_of r (record { room = r; held_as = Held w } ∷ hs) ≡ Some w
unfolding copy_of
copy_first r w hs = ap (λ (b : Bool). cond b (Some w) (copy_of r hs)) (eq-eqb r r refl)

-- it holds it once
has_moving : (z : Sizes) (r : ℕ) (w : RoomCopy) (g : MovingRange) (a : RoomHolds) → IsWholeCopy z w → HasHeld z r w (with_moving r w g a)
unfolding room_rows
has_moving z r w g a whole = record {
  held = let h = row_here r r HELD (record { room = r; held_as = Held w }) (without_room r a.held) refl refl in let n = without_here r HELD a.held in let one = one_at-same HELD HELD refl in omega arith;
  copy = copy_first r w (without_room r a.held);
  whole = whole;
}

-- a step of the call that found the frozen room without a pin
module _ (z : Sizes) (call r old n : ℕ) (u v w : PassState) (only : OnlyRests call u v) (t : HoldsRoomWord z call r old v n w) (e : n ≡ old) where
  abbrev m : Memory
  m = memory z t.table.words

  abbrev copy : RoomCopy
  copy = copy_at z m.rooms r

  abbrev range : MovingRange
  range = moving_at m.rooms (content m.arena.bytes) r

  found : m.rooms.pin r ≡ old
  found = pin_found z call r (hold_room r old) refl v n w t t.may.inside.0 ∙ e

  rooms_are : w.rooms ≡ with_moving r (copy_at z m.rooms r) (moving_at m.rooms (content m.arena.bytes) r) v.rooms
  rooms_are = hold_takes z call r old n v w t e

  behind : HadMoment z w
  behind = (_, moment_after z call (on_rooms (hold_room r old)) v n w t)

  stands : RangeStands (moving_at m.rooms (content m.arena.bytes) r)
  stands = range_stands z w behind 0 (moving_at m.rooms (content m.arena.bytes) r) (ap (λ (a : RoomHolds). get_elem? a.moving 0) rooms_are)

  -- the room was a cover without a pin

  cover : weight (m.rooms.pin r) ≡ 1
  cover = weight_frozen (m.rooms.pin r) (ap state_of found ∙ t.may.rooms.0.state)

  unpinned : count_of (m.rooms.pin r) ≡ 0
  unpinned = ap count_of found ∙ t.may.rooms.0.count

  pub holds : (c : RoomCopy) × (g : MovingRange) × Holds z call r c g u w
  holds = (
    copy,
    range,
    record {
      word = old;
      step = step_since z call (on_rooms (hold_room r old)) u v w only.stands.met (step_alone z call (on_rooms (hold_room r old)) v n w t);
      was = e;
      unpinned = t.may.rooms.0;
      before = only;
      last = refl;
      copy_is = refl;
      range_is = refl;
      beside = beside_since call u v w only (hold_beside z call r old n v w t);
      rooms = rooms_are ∙ ap (with_moving r copy range) only.rooms;
      has = subst (HasHeld z r copy) (sym rooms_are) (has_moving z r copy range v.rooms (whole_copy z m.rooms r));
      mirrors = mirrors_at z m.rooms (content m.arena.bytes) (map rooms_held t.table.states) t.rule.rooms r cover unpinned stands;
      linked = reach_at z m.rooms (content m.arena.bytes) (map rooms_held t.table.states) t.rule.rooms r cover unpinned stands;
      stands = stands;
      ended = behind;
      alone = stays_then (MovesWith z r FROZEN HELD copy) u v w only.still (room_moves_with z call r (hold_room r old) refl v n w t t.may.inside.0 FROZEN HELD copy (ap state_of e ∙ t.may.rooms.0.state)
          (exchanged_state n old 1 e (let o = t.may.rooms.0.state in omega arith) ∙ ap (λ (k : ℕ). k + 1) t.may.rooms.0.state) refl);
    },
  )

-- a pass that only met more has the room frozen still
pub frozen_still : (call r : ℕ) (v w : PassState) → OnlyRests call v w → in_room_state r FROZEN v.rooms ≡ 1 → in_room_state r FROZEN w.rooms ≡ 1
frozen_still call r v w only e = subst (λ (a : RoomHolds). in_room_state r FROZEN a ≡ 1) (sym only.rooms) e

-- the word that it looks for is that of a room without a pin
pub bare_word : (s n : ℕ) → s < 16 → n ≡ packed 0 s 0 → HasNoPin s n
bare_word s n lt e = subst (HasNoPin s) (sym e) (packed_bare s lt)

-- ---- a frozen room that is pinned

-- A room that the pass has frozen has a pin, where its word is not that of a room without one.
module _ (z : Sizes) (call r old n : ℕ) (v w : PassState) (t : HoldsRoomWord z call r old v n w) (first : generation_of old ≡ 0) (ne : n ≢ old) where
  found_is : (memory z t.table.words).rooms.pin r ≡ n
  found_is = pin_found z call r (hold_room r old) refl v n w t t.may.inside.0

  found_frozen : state_of n ≡ FROZEN
  found_frozen = ap state_of (sym found_is) ∙ (let mine = t.may.rooms.1 in let l = total_at (in_room_state r FROZEN) (map rooms_held t.table.states) t.seat v.rooms (at_map rooms_held t.table.states t.seat v t.here) in let s = t.rule.rooms.held r FROZEN (inl refl) in one_at-true (state_of ((memory z t.table.words).rooms.pin r)) FROZEN (omega arith))

  found_pinned : 0 < count_of n
  found_pinned = dite (ℕ_discrete (count_of n) 0)
      (λ e. absurd (ne (parts_equal n old (ap generation_of (sym found_is) ∙ (t.rule.rooms.generations r ∙ sym first)) (found_frozen ∙ sym t.may.rooms.0.state) (e ∙ sym t.may.rooms.0.count))))
      (λ some. omega arith)

  -- a pass that is alone and has no pin finds none
  pub never_pinned : v.rooms.pin ≡ None → Runs Never v w
  never_pinned none = runs_as (StepAt z call (on_rooms (hold_room r old)) v n w t) Never v w
      (λ a b s. let c = lone_count z a v (moment_at z call (on_rooms (hold_room r old)) v n w t a b s) s.alone none r in
      let e : count_of ((memory z a).rooms.pin r) ≡ count_of n = ap (λ (ws : List ℕ). count_of ((memory z ws).rooms.pin r)) s.was ∙ ap count_of found_is in let p = found_pinned in absurd (omega arith))
      (step_at z call (on_rooms (hold_room r old)) v n w tt t)

  -- a look that found it so
  pub finds_pinned : FindsPinned z call r v w
  finds_pinned = record { word = old; step = step_alone z call (on_rooms (hold_room r old)) v n w t; frozen = found_frozen; pinned = found_pinned }

-- ---- a frozen room that is opened again

thaw_beside : (z : Sizes) (call r n : ℕ) (v w : PassState) → Told z call (on_rooms (thaw_room r)) v n w → StandsBeside call v w
thaw_beside z call r n v w t = subst (StandsBeside call v) (sym t.after) (record {
  stands = record { met = record { more = _ ∷ []; met = refl; calls = (refl, tt) }; numbers = refl; knowledge = refl; fulls = refl; swept = refl; sights = refl; gones = refl; claims = refl };
  blocks = refl;
  headers = refl;
})

-- behind so many looks that found it pinned
pub thaws : (z : Sizes) (call looks r n : ℕ) (u v w : PassState) → Repeats (FindsPinned z call r) u looks v → Runs Never u v → OnlyRests call u v → ThawsRoom z call r v n w → Thaws z call looks r u w
thaws z call looks r n u v w pinned never only t = let b = thaw_beside z call r n v w t.told in record {
  pinned = record { from = u; to = v; begun = met_none call u; parts = pinned; ended = b.stands.met };
  step = step_since z call (on_rooms (thaw_room r)) u v w only.stands.met (step_alone z call (on_rooms (thaw_room r)) v n w t.told);
  last = refl;
  beside = beside_since call u v w only b;
  rooms = t.rooms ∙ ap (λ (a : RoomHolds). record a { held = without_room r a.held }) only.rooms;
  ended = (_, moment_after z call (on_rooms (thaw_room r)) v n w t.told);
  alone = never_first (DoesStep z (on_rooms (thaw_room r)) n) u v w never (step_runs z call (on_rooms (thaw_room r)) v n w tt t.told);
}
