-- A pass that comes to hold a frozen room alone keeps the rule: the range moves with the pass.
use Rattle.std.proofs.Common.{◌≡◌, ℕ, ◌+◌, cond, Bool, false, List, ◌∷◌, map, set, refl, sym, ap, ◌∙◌, arith}
use mathlib.Core.Option.{some}
use lib.ListN.{get_elem?}
use Rattle.pin_word.specs.PinWord.{STATE, generation_of, state_of, count_of}
use Rattle.pin_word.proofs.StepLaws.{state_set}
use Rattle.oak_model.specs.Limits.{Sizes}
use Rattle.arena_core.specs.Place.{content}
use Rattle.chunk_core.specs.declared.holds.RoomHeldAs.TheVariants.{Held}
use Rattle.chunk_core.specs.declared.holds.RoomHolds.{RoomHolds}
use Rattle.chunk_core.specs.RoomCopies.{without_room}
use Rattle.chunk_core.specs.RoomReads.{copy_at, moving_at}
use Rattle.chunk_core.specs.RoomStep.{hold_room, put_room}
use Rattle.chunk_core.specs.Rooms.{at_room_pin}
use Rattle.chunk_core.proofs.KeptHeldRooms.{hold_kept}
use Rattle.chunk_core.proofs.RoomKinds.{hold_rooms, hold_covers, hold_owners}
use Rattle.oak_core.specs.declared.states.PassState.{PassState}
use Rattle.oak_core.specs.EntryOwners.{is_key_word}
use Rattle.oak_core.specs.Memory.{Memory, memory}
use Rattle.oak_core.specs.PassState.{rooms_held}
use Rattle.oak_core.specs.Rule.{Rule}
use Rattle.oak_core.specs.Step.{on_rooms, MayOnRoom, table_after}
use Rattle.oak_core.specs.TableState.{TableState}
use Rattle.oak_core.proofs.kinds.KeepsRoomPins.{at_rooms, step_rule}
use Rattle.oak_core.proofs.covers.PinExchanges.{next_small, RoomsBehind, rooms_behind, exchanged, old_small, exchange_small}
use Rattle.oak_core.proofs.known.PinsKnown.{pins_same}

module _ (z : Sizes) (s : TableState) (seat : ℕ) (v : PassState) (r : Rule z s) (here : get_elem? s.states seat ≡ some v) (call : ℕ) (going : v.numbers.spent ≡ false) where
  abbrev m : Memory
  m = memory z s.words

  abbrev hs : List RoomHolds
  hs = map rooms_held s.states

  own : get_elem? hs seat ≡ some v.rooms
  own = at_rooms z s seat v r here

  -- what the pass has of rooms, where the word was the number and where not
  abbrev holding : ℕ → Bool → RoomHolds
  holding k t = record v.rooms {
    held = cond t (record { room = k; held_as = Held (copy_at z m.rooms k) } ∷ without_room k v.rooms.held) v.rooms.held;
    moving = cond t (moving_at m.rooms (content m.arena.bytes) k ∷ v.rooms.moving) v.rooms.moving;
  }

  -- a frozen room without a pin becomes held, where its word is the number, and else nothing changes
  pub hold_keeps : (k old : ℕ) → MayOnRoom z (hold_room k old) v → Rule z (table_after z call (on_rooms (hold_room k old)) seat v s)
  hold_keeps k old may = let u = exchanged z s seat v r here k old (old + STATE) may.inside (holding k) refl held in
      step_rule z s seat v r here call going (hold_room k old) may.inside refl refl refl (exchange_small z s seat v r here k old (old + STATE) may.inside (λ e. next_small old (let o = may.rooms.0.state in omega arith) (old_small z s seat v r here k old (old + STATE) may.inside e)))
      u.bundles u.blocks u.covers (pins_same v _ refl refl (r.heard.pins seat v here)) (r.passes seat v here).claim
    where
      held : m.rooms.pin k ≡ old → RoomsBehind z s seat v r here (put_room m.rooms (at_room_pin k) (old + STATE)) (set hs seat (record v.rooms { held = record { room = k; held_as = Held (copy_at z m.rooms k) } ∷ without_room k v.rooms.held; moving = moving_at m.rooms (content m.arena.bytes) k ∷ v.rooms.moving }))
      held e = let frozen_is = may.rooms.0.state in let u = state_set old (omega arith) in let c = ap count_of e ∙ may.rooms.0.count in let generation = u.2 ∙ sym (ap generation_of e) in let count = u.0 ∙ may.rooms.0.count in
          rooms_behind z s seat v r here (put_room m.rooms (at_room_pin k) (old + STATE)) (set hs seat (record v.rooms { held = record { room = k; held_as = Held (copy_at z m.rooms k) } ∷ without_room k v.rooms.held; moving = moving_at m.rooms (content m.arena.bytes) k ∷ v.rooms.moving }))
          (hold_rooms z m.rooms (content m.arena.bytes) is_key_word hs r.rooms r.covers seat v.rooms own k (old + STATE) generation may.inside.0 may.rooms.1 (let n = u.1 in omega arith) c count)
          (hold_covers z m.rooms (content m.arena.bytes) is_key_word hs r.rooms r.covers seat v.rooms own k (old + STATE) generation may.inside.0 may.rooms.1 (let n = u.1 in omega arith) c count)
          (hold_owners z m.rooms (content m.arena.bytes) is_key_word hs r.rooms r.covers seat v.rooms own k (old + STATE) generation may.inside.0 may.rooms.1 (let n = u.1 in omega arith) c count)
          (hold_kept z m.rooms (content m.arena.bytes) hs r.rooms r.kept_in_rooms seat v.rooms own k (old + STATE) c (ap state_of e ∙ frozen_is) (moving_at m.rooms (content m.arena.bytes) k ∷ v.rooms.moving))
