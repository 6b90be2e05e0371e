-- A pass that freezes a room, or claims a free one, keeps the rule.
use Rattle.std.proofs.Common.{◌≡◌, ℕ, ◌+◌, ◌*◌, ◌^◌, ◌<◌, cond, false, List, ◌∷◌, map, set, refl, sym, ap, ◌∙◌, arith}
use mathlib.Core.Option.{some}
use lib.ListN.{get_elem?}
use Rattle.pin_word.specs.PinWord.{STATE, generation_of, state_of, count_of}
use Rattle.pin_word.proofs.StepLaws.{state_set}
use Rattle.oak_model.specs.Limits.{Sizes}
use Rattle.arena_core.specs.Place.{content}
use Rattle.chunk_core.specs.declared.holds.RoomHeldAs.TheVariants.{Frozen, Held}
use Rattle.chunk_core.specs.declared.holds.RoomHolds.{RoomHolds}
use Rattle.chunk_core.specs.declared.states.TheConstants.{FREE, HELD}
use Rattle.chunk_core.specs.RoomReads.{copy_at}
use Rattle.chunk_core.specs.RoomStep.{freeze_room, claim_room, put_room}
use Rattle.chunk_core.specs.Rooms.{at_room_pin}
use Rattle.chunk_core.proofs.KeptHeldRooms.{freeze_kept, claim_kept}
use Rattle.chunk_core.proofs.RoomKinds.{freeze_rooms, freeze_covers, claim_rooms, claim_covers, freeze_owners, claim_owners}
use Rattle.oak_core.specs.declared.states.PassState.{PassState}
use Rattle.oak_core.specs.EntryOwners.{is_key_word}
use Rattle.oak_core.specs.Memory.{Memory, memory}
use Rattle.oak_core.specs.PassState.{rooms_held}
use Rattle.oak_core.specs.Rule.{Rule}
use Rattle.oak_core.specs.Step.{on_rooms, MayOnRoom, table_after}
use Rattle.oak_core.specs.TableState.{TableState}
use Rattle.oak_core.proofs.kinds.KeepsRoomPins.{at_rooms, step_rule}
use Rattle.oak_core.proofs.covers.PinExchanges.{next_small, RoomsBehind, rooms_behind, exchanged, old_small, exchange_small}
use Rattle.oak_core.proofs.known.PinsKnown.{pins_same}

-- a free room's word, three states further
pub claimed : (w : ℕ) → state_of w ≡ FREE → w < 2 ^ 64 → (count_of (w + HELD * STATE) ≡ count_of w) × (state_of (w + HELD * STATE) ≡ HELD) × (generation_of (w + HELD * STATE) ≡ generation_of w) × (w + HELD * STATE < 2 ^ 64)
unfolding count_of state_of generation_of
claimed w h b = ((omega arith), (omega arith), (omega arith), (omega arith))

module _ (z : Sizes) (s : TableState) (seat : ℕ) (v : PassState) (r : Rule z s) (here : get_elem? s.states seat ≡ some v) (call : ℕ) (going : v.numbers.spent ≡ false) where
  abbrev m : Memory
  m = memory z s.words

  abbrev hs : List RoomHolds
  hs = map rooms_held s.states

  own : get_elem? hs seat ≡ some v.rooms
  own = at_rooms z s seat v r here

  -- an open room becomes frozen, where its word is the number, and else nothing changes
  pub freeze_keeps : (k old : ℕ) → MayOnRoom z (freeze_room k old) v → Rule z (table_after z call (on_rooms (freeze_room k old)) seat v s)
  freeze_keeps k old may = let u = exchanged z s seat v r here k old (old + STATE) may.inside (λ t. record v.rooms { held = cond t (record { room = k; held_as = Frozen } ∷ v.rooms.held) v.rooms.held }) refl frozen in
      step_rule z s seat v r here call going (freeze_room k old) may.inside refl refl refl (exchange_small z s seat v r here k old (old + STATE) may.inside (λ e. next_small old (let o = may.rooms in omega arith) (old_small z s seat v r here k old (old + STATE) may.inside e)))
      u.bundles u.blocks u.covers (pins_same v _ refl refl (r.heard.pins seat v here)) (r.passes seat v here).claim
    where
      frozen : m.rooms.pin k ≡ old → RoomsBehind z s seat v r here (put_room m.rooms (at_room_pin k) (old + STATE)) (set hs seat (record v.rooms { held = record { room = k; held_as = Frozen } ∷ v.rooms.held }))
      frozen e = let open_is = may.rooms in let u = state_set old (omega arith) in let g = ap generation_of e in let c = ap count_of e in let was = ap state_of e ∙ open_is in
          rooms_behind z s seat v r here (put_room m.rooms (at_room_pin k) (old + STATE)) (set hs seat (record v.rooms { held = record { room = k; held_as = Frozen } ∷ v.rooms.held }))
          (freeze_rooms z m.rooms (content m.arena.bytes) is_key_word hs r.rooms r.covers seat v.rooms own k (old + STATE) (u.2 ∙ sym g) was (let n = u.1 in omega arith) (u.0 ∙ sym c))
          (freeze_covers z m.rooms (content m.arena.bytes) is_key_word hs r.rooms r.covers seat v.rooms own k (old + STATE) (u.2 ∙ sym g) was (let n = u.1 in omega arith) (u.0 ∙ sym c))
          (freeze_owners z m.rooms (content m.arena.bytes) is_key_word hs r.rooms r.covers seat v.rooms own k (old + STATE) (u.2 ∙ sym g) was (let n = u.1 in omega arith) (u.0 ∙ sym c))
          (freeze_kept z m.rooms (content m.arena.bytes) hs r.rooms r.kept_in_rooms seat v.rooms own k (old + STATE))

  -- a free room without a pin becomes held, where its word is the number, and else nothing changes
  pub claim_keeps : (k old : ℕ) → MayOnRoom z (claim_room k old) v → Rule z (table_after z call (on_rooms (claim_room k old)) seat v s)
  claim_keeps k old may = let x : ℕ = old + HELD * STATE in let u = exchanged z s seat v r here k old x may.inside (λ t. record v.rooms { held = cond t (record { room = k; held_as = Held (copy_at z m.rooms k) } ∷ v.rooms.held) v.rooms.held }) refl held in
      step_rule z s seat v r here call going (claim_room k old) may.inside refl refl refl (exchange_small z s seat v r here k old x may.inside (λ e. (claimed old may.rooms.state (old_small z s seat v r here k old x may.inside e)).3))
      u.bundles u.blocks u.covers (pins_same v _ refl refl (r.heard.pins seat v here)) (r.passes seat v here).claim
    where
      held : m.rooms.pin k ≡ old → RoomsBehind z s seat v r here (put_room m.rooms (at_room_pin k) (old + HELD * STATE)) (set hs seat (record v.rooms { held = record { room = k; held_as = Held (copy_at z m.rooms k) } ∷ v.rooms.held }))
      held e = let x : ℕ = old + HELD * STATE in let u = claimed old may.rooms.state (old_small z s seat v r here k old x may.inside e) in let g = ap generation_of e in let c = ap count_of e in let was = ap state_of e ∙ may.rooms.state in
          rooms_behind z s seat v r here (put_room m.rooms (at_room_pin k) x) (set hs seat (record v.rooms { held = record { room = k; held_as = Held (copy_at z m.rooms k) } ∷ v.rooms.held }))
          (claim_rooms z m.rooms (content m.arena.bytes) is_key_word hs r.rooms r.covers seat v.rooms own k x (u.2 ∙ sym g) was u.1 (u.0 ∙ sym c))
          (claim_covers z m.rooms (content m.arena.bytes) is_key_word hs r.rooms r.covers seat v.rooms own k x (u.2 ∙ sym g) was u.1 (u.0 ∙ sym c))
          (claim_owners z m.rooms (content m.arena.bytes) is_key_word hs r.rooms r.covers seat v.rooms own k x (u.2 ∙ sym g) was u.1 (u.0 ∙ sym c))
          (claim_kept z m.rooms (content m.arena.bytes) hs r.rooms r.kept_in_rooms seat v.rooms own k x (c ∙ may.rooms.count) was)
