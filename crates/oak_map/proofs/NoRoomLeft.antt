-- A key that holds something is not one for which there is no room.
use Rattle.std.proofs.Common.{◌≡◌, ℕ, true, List, Some, ◌∙◌, subst}
use Rattle.oak_model.specs.Key.{is_key}
use Rattle.oak_model.specs.KeyNumber.{key_number}
use Rattle.oak_model.specs.Limits.{Sizes}
use Rattle.arena_core.specs.Place.{content}
use Rattle.chunk_core.specs.Covers.{key_at}
use Rattle.oak_core.specs.declared.states.PassState.{PassState}
use Rattle.oak_core.specs.Memory.{Memory, memory}
use Rattle.chunk_ops.specs.FindsAlone.{IsLinked}
use Rattle.lone_counts.specs.LoneTable.{LoneTable}
use Rattle.lone_counts.specs.Maps.{last_states}
use Rattle.lone_counts.proofs.TableCounts.{present_has_value}
use Rattle.oak_map.specs.LonePuts.{HasNoRoomFor}
use Rattle.oak_map.proofs.RoomOfKey.{one_room, room_opens, linked_number}

module _ (z : Sizes) (key d : List ℕ) (x : PassState) (is : is_key key ≡ true) (table : LoneTable z d x) where
  abbrev mem : Memory
  mem = memory z d

  -- it has an entry in its room
  pub room_there : (b : List ℕ) → last_states x key ≡ Some b → HasNoRoomFor z key d → ⊥
  room_there b present n = let h = present_has_value z d x key b table is present in
      let same : h.room ≡ n.room = one_room z d key x h.room n.room table (room_opens z d key h) n.is_open h.covers n.covers in
      let once : IsLinked mem n.room h.entry = subst (λ (r : ℕ). IsLinked mem r h.entry) same h.linked in
      n.missing h.entry once (linked_number z d x n.room h.entry table n.is_open once ∙ subst (λ (r : ℕ). key_at (content mem.arena.bytes) (mem.rooms.key r h.entry) ≡ key_number key) same h.key_is)
