-- A pass that opens a room again that it has frozen keeps the rule.
use Rattle.std.proofs.Common.{◌≡◌, ℕ, ◌+◌, ◌-◌, ◌*◌, ◌%◌, ◌^◌, false, List, map, set, refl, subst, inl, arith}
use mathlib.Core.Option.{some}
use lib.ListN.{get_elem?}
use Rattle.pin_word.specs.PinWord.{STATE, generation_of, state_of, count_of}
use Rattle.pin_word.proofs.StepLaws.{state_back}
use Rattle.oak_model.specs.Limits.{Sizes}
use Rattle.arena_core.specs.Place.{content}
use Rattle.chunk_core.specs.declared.holds.RoomHolds.{RoomHolds}
use Rattle.chunk_core.specs.declared.states.TheConstants.{OPEN, FROZEN}
use Rattle.chunk_core.specs.RoomCopies.{without_room}
use Rattle.chunk_core.specs.RoomStep.{thaw_room, put_room}
use Rattle.chunk_core.specs.Rooms.{at_room_pin}
use Rattle.chunk_core.proofs.KeptHeldRooms.{thaw_kept}
use Rattle.chunk_core.proofs.RoomKinds.{thaw_rooms, thaw_covers, thaw_owners}
use Rattle.chunk_core.proofs.Weights.{is_so}
use Rattle.oak_core.specs.declared.states.PassState.{PassState}
use Rattle.oak_core.specs.EntryOwners.{is_key_word}
use Rattle.oak_core.specs.Memory.{Memory, in_rooms, memory}
use Rattle.oak_core.specs.PassState.{rooms_held}
use Rattle.oak_core.specs.Rule.{Rule}
use Rattle.oak_core.specs.Step.{on_rooms, MayOnRoom, table_after}
use Rattle.oak_core.specs.TableState.{TableState}
use Rattle.oak_core.proofs.held.HeaderStanding.{number_small}
use Rattle.oak_core.proofs.kinds.KeepsRoomPins.{at_rooms, step_rule}
use Rattle.oak_core.proofs.covers.PinExchanges.{RoomsBehind, rooms_behind}
use Rattle.oak_core.proofs.known.PinsKnown.{pins_same}
use Rattle.oak_core.proofs.memory.Words.{memory_read}

module _ (z : Sizes) (s : TableState) (seat : ℕ) (v : PassState) (r : Rule z s) (here : get_elem? s.states seat ≡ some v) where
  abbrev m : Memory
  m = memory z s.words

  abbrev hs : List RoomHolds
  hs = map rooms_held s.states

  own : get_elem? hs seat ≡ some v.rooms
  own = at_rooms z s seat v r here

  module _ (k : ℕ) (may : MayOnRoom z (thaw_room k) v) where
    -- the pin word behind the step
    abbrev x : ℕ
    x = (m.rooms.pin k + (2 ^ 64 - (FROZEN - OPEN) * STATE)) % 2 ^ 64

    -- what the pass has of rooms then
    abbrev b : RoomHolds
    b = record v.rooms { held = without_room k v.rooms.held }

    -- the room was frozen
    pub was_frozen : state_of ((memory z s.words).rooms.pin k) ≡ FROZEN
    was_frozen = is_so z m.rooms (content m.arena.bytes) hs r.rooms seat v.rooms own k FROZEN (inl refl) (let mine = may.rooms in omega arith)

    -- the word has the state open then, and else what it had
    pub thawed : (count_of ((((memory z s.words).rooms.pin k) + (2 ^ 64 - (FROZEN - OPEN) * STATE)) % 2 ^ 64) ≡ count_of ((memory z s.words).rooms.pin k)) × (state_of ((((memory z s.words).rooms.pin k) + (2 ^ 64 - (FROZEN - OPEN) * STATE)) % 2 ^ 64) ≡ OPEN) × (generation_of ((((memory z s.words).rooms.pin k) + (2 ^ 64 - (FROZEN - OPEN) * STATE)) % 2 ^ 64) ≡ generation_of ((memory z s.words).rooms.pin k))
    thawed = let was = was_frozen in let d = state_back (m.rooms.pin k) (FROZEN - OPEN) (omega arith) (number_small z s.words r.words.small (in_rooms (at_room_pin k))) in (d.0, (omega arith), d.2)

    pub behind : RoomsBehind z s seat v r here (put_room (memory z s.words).rooms (at_room_pin k) (((memory z s.words).rooms.pin k + (2 ^ 64 - (FROZEN - OPEN) * STATE)) % 2 ^ 64)) (set (map rooms_held s.states) seat (record v.rooms { held = without_room k v.rooms.held }))
    behind = let d = thawed in rooms_behind z s seat v r here (put_room m.rooms (at_room_pin k) x) (set hs seat b)
        (thaw_rooms z m.rooms (content m.arena.bytes) is_key_word hs r.rooms r.covers seat v.rooms own k x d.2 may.rooms d.1 d.0)
        (thaw_covers z m.rooms (content m.arena.bytes) is_key_word hs r.rooms r.covers seat v.rooms own k x d.2 may.rooms d.1 d.0)
        (thaw_owners z m.rooms (content m.arena.bytes) is_key_word hs r.rooms r.covers seat v.rooms own k x d.2 may.rooms d.1 d.0)
        (thaw_kept z m.rooms (content m.arena.bytes) hs r.rooms r.kept_in_rooms seat v.rooms own k x was_frozen)

  -- the rule stands after a frozen room was opened again
  pub thaw_keeps : (call : ℕ) → v.numbers.spent ≡ false → (k : ℕ) → MayOnRoom z (thaw_room k) v → Rule z (table_after z call (on_rooms (thaw_room k)) seat v s)
  thaw_keeps call going k may = let f : ℕ → ℕ = (λ n. (n + (2 ^ 64 - (FROZEN - OPEN) * STATE)) % 2 ^ 64) in
      let u = subst (λ (n : ℕ). RoomsBehind z s seat v r here (put_room m.rooms (at_room_pin k) (f n)) (set hs seat (b k may))) (memory_read z s.words (in_rooms (at_room_pin k)) may.inside) (behind k may) in
      step_rule z s seat v r here call going (thaw_room k) may.inside refl refl refl (omega arith)
      u.bundles u.blocks u.covers (pins_same v _ refl refl (r.heard.pins seat v here)) (r.passes seat v here).claim
