-- A step of a rebalance leaves the history of each key, and a pin that finds a room held is a dud.
use Rattle.std.proofs.Common.{◌≡◌, ℕ, List, map, sym, refl, ap, ◌∙◌, subst, arith}
use mathlib.Core.Option.{some}
use lib.ListN.{get_elem?}
use Rattle.pin_word.specs.PinWord.{state_of}
use Rattle.oak_model.specs.Limits.{Sizes}
use Rattle.oak_model.proofs.Lists.{map_set_same, set_there}
use Rattle.chunk_core.specs.declared.states.TheConstants.{HELD}
use Rattle.chunk_core.specs.RoomReads.{pinned_at}
use Rattle.chunk_core.specs.RoomStep.{RoomStep, pin_room, unpin_room, claim_entry, own_entry, link_entry, set_value, unlink_entry, freeze_room, thaw_room, hold_room, claim_room, store_room, open_room, retire_room}
use Rattle.oak_core.specs.declared.states.Knowledge.{Knowledge}
use Rattle.oak_core.specs.declared.states.PassState.{PassState}
use Rattle.oak_core.specs.KeyHistories.{state_behind}
use Rattle.oak_core.specs.Memory.{Memory, memory}
use Rattle.oak_core.specs.PassState.{history, knowledge_of}
use Rattle.oak_core.specs.Rebalancing.{IsRebalance, KeepsKeys, HasDud}
use Rattle.oak_core.specs.RoomTeaching.{knows_by_room}
use Rattle.oak_core.specs.Schedule.{Goes, steps}
use Rattle.oak_core.specs.Step.{on_rooms, state_after}
use Rattle.oak_core.specs.TableState.{TableState}

-- the pass knows what it did
knows_same : (call : ℕ) (x : RoomStep) → IsRebalance x → (m : Memory) (qs : List Knowledge) (v : PassState) → knows_by_room call x m qs v ≡ v.knowledge
knows_same call (freeze_room k old) is m qs v = refl
knows_same call (thaw_room k) is m qs v = refl
knows_same call (hold_room k old) is m qs v = refl
knows_same call (claim_room k old) is m qs v = refl
knows_same call (store_room p x) is m qs v = refl
knows_same call (open_room k) is m qs v = refl
knows_same call (retire_room k) is m qs v = refl
knows_same call (pin_room k) is m qs v = absurd is
knows_same call (unpin_room k) is m qs v = absurd is
knows_same call (claim_entry k old) is m qs v = absurd is
knows_same call (own_entry f k i x) is m qs v = absurd is
knows_same call (link_entry k from i old) is m qs v = absurd is
knows_same call (set_value k i old new kind) is m qs v = absurd is
knows_same call (unlink_entry k i x) is m qs v = absurd is

-- behind a step of a rebalance each key has the history that it had
pub rebalance_keys : (z : Sizes) (s t : TableState) (seat call : ℕ) (x : RoomStep) → IsRebalance x → Goes z (steps seat call (on_rooms x)) s t → KeepsKeys s t
rebalance_keys z s t seat call x is g = record { histories = λ k. ap (history k) all_know; states = λ k. ap (λ (qs : List Knowledge). state_behind (history k qs)) all_know }
  where
    all_know : map knowledge_of t.states ≡ map knowledge_of s.states
    all_know = ap (λ (u : TableState). map knowledge_of u.states) g.after
        ∙ map_set_same knowledge_of s.states seat g.state (state_after z call (on_rooms x) s g.state) g.here (knows_same call x is (memory z s.words) (map knowledge_of s.states) g.state)

-- a pin that finds the room held is a dud
pub held_dud : (z : Sizes) (s t : TableState) (seat call r : ℕ) → Goes z (steps seat call (on_rooms (pin_room r))) s t → state_of ((memory z s.words).rooms.pin r) ≡ HELD → HasDud seat r t
held_dud z s t seat call r g held = let w : PassState = state_after z call (on_rooms (pin_room r)) s g.state in record {
  state = w;
  here = subst (λ (u : TableState). get_elem? u.states seat ≡ some w) (sym g.after) (set_there s.states seat g.state w g.here);
  pin = pinned_at (memory z s.words).rooms r;
  is = refl;
  room = refl;
  dud = λ good. absurd (omega arith);
}
