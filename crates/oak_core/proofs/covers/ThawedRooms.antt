-- What a step tells that opens a frozen room again.
use Rattle.std.proofs.Common.{◌≡◌, ℕ, ◌+◌, ◌-◌, ◌*◌, ◌%◌, ◌^◌, ◌++◌, ◌∷◌, [], List, map, set, Some, refl, sym, ap, ◌∙◌, subst}
use Rattle.std.proofs.Math.Option.{some-injective}
use mathlib.Core.Logic.{dite}
use native.Mathlib.Decide.{ℕ_discrete}
use lib.ListN.{get_elem?}
use Rattle.pin_word.specs.PinWord.{STATE, generation_of, state_of, count_of}
use Rattle.oak_model.specs.Limits.{Sizes}
use Rattle.oak_model.proofs.Lists.{at_map, map_set, set_else, set_there}
use Rattle.arena_core.specs.Place.{content}
use Rattle.chunk_core.specs.declared.holds.PinnedRoom.{PinnedRoom}
use Rattle.chunk_core.specs.declared.holds.RoomHolds.{RoomHolds}
use Rattle.chunk_core.specs.declared.states.TheConstants.{OPEN, FROZEN}
use Rattle.chunk_core.specs.CoverSums.{all_of}
use Rattle.chunk_core.specs.PinnedRooms.{IsGoodRoom, OnRoomPin, RoomPinHolds}
use Rattle.chunk_core.specs.RoomRule.{in_room_state}
use Rattle.chunk_core.specs.Rooms.{at_room_pin}
use Rattle.chunk_core.specs.RoomStep.{put_room, thaw_room}
use Rattle.chunk_core.proofs.HeldRooms.{room_rows, without_here, without_else}
use Rattle.oak_core.specs.declared.states.PassState.{PassState}
use Rattle.oak_core.specs.Finding.{finding}
use Rattle.oak_core.specs.Memory.{Memory, in_rooms, memory}
use Rattle.oak_core.specs.PassState.{rooms_held}
use Rattle.oak_core.specs.Rule.{Rule}
use Rattle.oak_core.specs.Step.{on_rooms, found, state_after, table_after, Told}
use Rattle.oak_core.specs.TableState.{TableState}
use Rattle.oak_core.specs.Thawing.{KeepsCovers, KeepsPins, ThawsRoom}
use Rattle.oak_core.proofs.kinds.EachEvent.{rule_keeps}
use Rattle.oak_core.proofs.kinds.KeepsThaws.{behind, was_frozen, thawed}
use Rattle.oak_core.proofs.covers.Rebalances.{rebalance_keys}
use Rattle.oak_core.proofs.memory.Words.{memory_read, memory_set}

module _ (z : Sizes) (call r : ℕ) (v : PassState) (n : ℕ) (w : PassState) (t : Told z call (on_rooms (thaw_room r)) v n w) where
  abbrev m : Memory
  m = memory z t.table.words

  -- the word that the step leaves
  abbrev x : ℕ → ℕ
  x y = (y + (2 ^ 64 - (FROZEN - OPEN) * STATE)) % 2 ^ 64

  -- the number found is that of the memory
  found_is : (memory z t.table.words).rooms.pin r ≡ n
  found_is = memory_read z t.table.words (in_rooms (at_room_pin r)) t.may.inside ∙ t.finds

  covers : KeepsCovers z t.table (table_after z call (on_rooms (thaw_room r)) t.seat v t.table)
  covers F = let u : PassState = state_after z call (on_rooms (thaw_room r)) t.table v in let y : ℕ = x (found z (on_rooms (thaw_room r)) t.table) in
      subst (λ (p : Memory × List RoomHolds). all_of z p.0.rooms (content p.0.arena.bytes) p.1 F ≡ all_of z m.rooms (content m.arena.bytes) (map rooms_held t.table.states) F)
      (λ i. (sym (memory_set z t.table.words (in_rooms (at_room_pin r)) y t.rule.words.counted t.may.inside) i, sym (map_set rooms_held t.table.states t.seat u) i))
      (subst (λ (k : ℕ). all_of z (put_room m.rooms (at_room_pin r) (x k)) (content m.arena.bytes) (set (map rooms_held t.table.states) t.seat u.rooms) F ≡ all_of z m.rooms (content m.arena.bytes) (map rooms_held t.table.states) F)
      (memory_read z t.table.words (in_rooms (at_room_pin r)) t.may.inside) ((behind z t.table t.seat v t.rule t.here r t.may).covers F))

  kept : Rule z (table_after z call (on_rooms (thaw_room r)) t.seat v t.table)
  kept = rule_keeps z t.table call t.seat v t.rule t.here t.going (on_rooms (thaw_room r)) t.may

  -- another pass is what it was, and the pass's own pin is
  pins : KeepsPins z t.table (table_after z call (on_rooms (thaw_room r)) t.seat v t.table)
  pins j u at = let w' : PassState = state_after z call (on_rooms (thaw_room r)) t.table v in let after : TableState = table_after z call (on_rooms (thaw_room r)) t.seat v t.table in dite (ℕ_discrete j t.seat)
      (λ e. let same : u ≡ v = some-injective u v (sym at ∙ (ap (get_elem? t.table.states) e ∙ t.here)) in
      subst (λ (y : PassState). OnRoomPin (λ (p : PinnedRoom). IsGoodRoom p → RoomPinHolds z (memory z after.words).rooms (content (memory z after.words).arena.bytes) p) y.rooms.pin) (sym same)
      (kept.rooms.good t.seat w'.rooms (at_map rooms_held after.states t.seat w' (set_there t.table.states t.seat v w' t.here))))
      (λ ne. kept.rooms.good j u.rooms (at_map rooms_held after.states j u (set_else t.table.states t.seat j w' ne ∙ at)))

  none_here : (s : ℕ) → in_room_state r s w.rooms ≡ 0
  unfolding room_rows
  none_here s = ap (λ (y : PassState). in_room_state r s y.rooms) t.after ∙ without_here r s v.rooms.held

  pub thaws : ThawsRoom z call r v n w
  unfolding room_rows
  thaws = let d = thawed z t.table t.seat v t.rule t.here r t.may in record {
    told = t;
    mine = t.may.rooms;
    was = ap state_of (sym found_is) ∙ was_frozen z t.table t.seat v t.rule t.here r t.may;
    left = x n;
    opened = ap (λ (y : ℕ). state_of (x y)) (sym found_is) ∙ d.1;
    count = subst (λ (y : ℕ). count_of (x y) ≡ count_of y) found_is d.0;
    generation = subst (λ (y : ℕ). generation_of (x y) ≡ generation_of y) found_is d.2;
    met = ap (λ (y : PassState). y.findings.met) t.after ∙ ap (λ (k : ℕ). v.findings.met ++ finding z call (in_rooms (at_room_pin r)) (Some k) (x k) t.table.words v ∷ []) t.finds;
    rooms = ap (λ (y : PassState). y.rooms) t.after;
    none = none_here;
    others = λ j s ne. ap (λ (y : PassState). in_room_state j s y.rooms) t.after ∙ without_else r j s v.rooms.held ne;
    blocks = ap (λ (y : PassState). y.blocks) t.after;
    headers = ap (λ (y : PassState). y.headers) t.after;
    numbers = ap (λ (y : PassState). y.numbers) t.after;
    knowledge = ap (λ (y : PassState). y.knowledge) t.after;
    rule = kept;
    pins = pins;
    covers = covers;
    keys = rebalance_keys z t.table (table_after z call (on_rooms (thaw_room r)) t.seat v t.table) t.seat call (thaw_room r) tt record { state = v; here = t.here; going = t.going; may = t.may; after = refl };
  }
