-- What the steps that open a held room and retire one leave.
use Rattle.std.proofs.Common.{◌≡◌, ℕ, ◌-◌, [], ◌∷◌, map, sym, refl, ap, ◌∙◌, subst, arith, inr}
use mathlib.Core.Option.{some}
use lib.ListN.{get_elem?}
use Rattle.pin_word.specs.PinWord.{state_of}
use Rattle.pin_word.proofs.StepLaws.{state_back}
use Rattle.oak_model.specs.Limits.{Sizes}
use Rattle.oak_model.proofs.Lists.{at_map}
use Rattle.arena_core.specs.Place.{content}
use Rattle.chunk_core.specs.declared.states.TheConstants.{FREE, OPEN, HELD}
use Rattle.chunk_core.specs.RoomRule.{in_room_state}
use Rattle.chunk_core.specs.RoomStep.{open_room, retire_room}
use Rattle.chunk_core.proofs.Weights.{is_so}
use Rattle.oak_core.specs.declared.states.PassState.{PassState}
use Rattle.oak_core.specs.Memory.{memory}
use Rattle.oak_core.specs.PassState.{rooms_held}
use Rattle.oak_core.specs.RoomCalls.{OpensRoom, RetiresRoom}
use Rattle.oak_core.specs.Rule.{Rule}
use Rattle.oak_core.specs.Step.{on_rooms}
use Rattle.oak_core.specs.TableState.{TableState}
use Rattle.oak_core.proofs.seats.AloneRuns.{moment_after}
use Rattle.oak_core.proofs.calls.CallSteps.{step_alone}
use Rattle.chunk_ops.proofs.PinSteps.{pin_found, small}
use Rattle.rebalance.specs.Holding.{StandsBeside, SweepsBeside, Opens, Retires}
use Rattle.rebalance.proofs.LoneSteps.{room_moves, room_moves_with}
use Rattle.rebalance.proofs.RoomWorks.{copy_stands}

-- a room that a pass holds is in that state
held_state : (z : Sizes) (s : TableState) → Rule z s → (seat : ℕ) (v : PassState) → get_elem? s.states seat ≡ some v → (r : ℕ) → in_room_state r HELD v.rooms ≡ 1 → state_of ((memory z s.words).rooms.pin r) ≡ HELD
held_state z s rule seat v here r held = is_so z (memory z s.words).rooms (content (memory z s.words).arena.bytes) (map rooms_held s.states) rule.rooms seat v.rooms (at_map rooms_held s.states seat v here) r HELD (inr refl) (omega arith)

-- the room was opened
pub opens : (z : Sizes) (call r n : ℕ) (v w : PassState) → OpensRoom z call r v n w → Opens z call r v w
opens z call r n v w t = record {
  step = step_alone z call (on_rooms (open_room r)) v n w t;
  first = refl;
  last = refl;
  beside = subst (SweepsBeside call r v) (sym t.after) (record { met = record { more = _ ∷ []; met = refl; calls = (refl, tt) }; numbers = refl; knowledge = refl; fulls = refl; swept = refl; sights = refl; gones = refl; claims = refl; blocks = refl; headers = refl });
  rooms = ap (λ (y : PassState). y.rooms) t.after;
  ended = (_, moment_after z call (on_rooms (open_room r)) v n w t);
  alone = λ copy is. let found = pin_found z call r (open_room r) refl v n w t t.may.inside.0 in let held = held_state z t.table t.rule t.seat v t.here r t.may.rooms.0 in
      let was : state_of n ≡ HELD = ap state_of (sym found) ∙ held in let back = state_back n (HELD - OPEN) (omega arith) (small z call r (open_room r) refl v n w t t.may.inside.0) in
      room_moves_with z call r (open_room r) refl v n w t t.may.inside.0 HELD OPEN copy was (omega arith) (copy_stands z t.table t.rule t.seat v t.here r copy is);
}

-- the room was retired
pub retires : (z : Sizes) (call r n : ℕ) (v w : PassState) → RetiresRoom z call r v n w → Retires z call r v w
retires z call r n v w t = record {
  step = step_alone z call (on_rooms (retire_room r)) v n w t;
  first = refl;
  last = refl;
  beside = subst (StandsBeside call v) (sym t.after) (record {
    stands = record { met = record { more = _ ∷ []; met = refl; calls = (refl, tt) }; numbers = refl; knowledge = refl; fulls = refl; swept = refl; sights = refl; gones = refl; claims = refl };
    blocks = refl;
    headers = refl;
  });
  rooms = ap (λ (y : PassState). y.rooms) t.after;
  ended = (_, moment_after z call (on_rooms (retire_room r)) v n w t);
  alone = let found = pin_found z call r (retire_room r) refl v n w t t.may.inside.0 in let held = held_state z t.table t.rule t.seat v t.here r t.may.rooms.0 in
      let was : state_of n ≡ HELD = ap state_of (sym found) ∙ held in let back = state_back n HELD (omega arith) (small z call r (retire_room r) refl v n w t t.may.inside.0) in
      room_moves z call r (retire_room r) refl v n w t t.may.inside.0 HELD FREE was (omega arith);
}
