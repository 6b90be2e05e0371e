-- An entry that a pass found under a good pin: what stands of it, and the key that its pass knows of it.
use Rattle.std.proofs.Common.{◌≡◌, ℕ, ◌+◌, ◌<◌, List, map, sym, subst, ap, ◌∙◌, Some}
use mathlib.Core.Option.{some}
use lib.ListN.{get_elem?}
use Rattle.oak_model.specs.Counts.{one_at, total}
use Rattle.oak_model.specs.KeyNumber.{key_number}
use Rattle.oak_model.specs.Limits.{Sizes}
use Rattle.arena_core.specs.Place.{content}
use Rattle.chunk_core.specs.declared.holds.FoundEntry.{FoundEntry}
use Rattle.chunk_core.specs.declared.holds.PinnedRoom.{PinnedRoom}
use Rattle.chunk_core.specs.CoverRule.{CoversPartition}
use Rattle.chunk_core.specs.Covers.{key_at}
use Rattle.chunk_core.specs.CoverSums.{weight}
use Rattle.chunk_core.specs.KeyWords.{key_bytes}
use Rattle.chunk_core.specs.LinkedEntries.{linked}
use Rattle.chunk_core.specs.MayOnRooms.{FindsEntry}
use Rattle.chunk_core.specs.PinnedRooms.{RoomPinHolds, found_in}
use Rattle.chunk_core.specs.RoomRule.{RoomsStand}
use Rattle.oak_core.specs.declared.states.PassState.{PassState}
use Rattle.oak_core.specs.EntryOwners.{is_key_word}
use Rattle.oak_core.specs.FoundKeys.{entry_key, pinned_key}
use Rattle.oak_core.specs.KeyHistories.{IsKeyOf}
use Rattle.oak_core.specs.KeyReads.{word_now}
use Rattle.oak_core.specs.Memory.{Memory}
use Rattle.oak_core.specs.PassState.{rooms_held}
use Rattle.oak_core.proofs.covers.FoundValues.{entry_key_is, found_key_is, is_key_there, key_there, linked_once, pin_holds, value_there}

module _ (z : Sizes) (m : Memory) (vs : List PassState) (rooms : RoomsStand z m.rooms (content m.arena.bytes) (map rooms_held vs)) (parts : CoversPartition z m.rooms (content m.arena.bytes) is_key_word (map rooms_held vs))
    (seat : ℕ) (v : PassState) (here : get_elem? vs seat ≡ some v) (r i : ℕ) (p : PinnedRoom) (e : FoundEntry) (finds : FindsEntry r i v.rooms p e) where
  abbrev key : List ℕ
  key = key_bytes e.word e.words

  holds : RoomPinHolds z m.rooms (content m.arena.bytes) p
  holds = pin_holds z m vs rooms parts seat v here p finds.pin.is finds.pin.good

  entry : entry_key i (found_in p) ≡ Some key
  entry = entry_key_is z m.rooms (content m.arena.bytes) p holds i e finds.there finds.number

  -- its room
  pub room_inside : r < z.chunks
  room_inside = subst (λ (j : ℕ). j < z.chunks) finds.pin.room holds.inside

  pub room_covers : weight (m.rooms.pin r) ≡ 1
  room_covers = subst (λ (j : ℕ). weight (m.rooms.pin j) ≡ 1) finds.pin.room holds.cover

  -- it is linked
  pub entry_once : total (λ j. one_at j i) (linked m.rooms r) ≡ 1
  entry_once = subst (λ (j : ℕ). total (λ l. one_at l i) (linked m.rooms j) ≡ 1) finds.pin.room (linked_once z m vs rooms parts seat v here p finds.pin.is finds.pin.good i key entry)

  -- its key, as it stands there, and as the pass knows it
  pub key_stands : key_number (key_bytes e.word e.words) ≡ key_at (content m.arena.bytes) (m.rooms.key r i)
  key_stands = sym (subst (λ (j : ℕ). key_at (content m.arena.bytes) (m.rooms.key j i) ≡ key_number key) finds.pin.room (key_there z m vs rooms parts seat v here p finds.pin.is finds.pin.good i key entry))

  pub key_of_number : IsKeyOf (key_at (content m.arena.bytes) (m.rooms.key r i)) (key_bytes e.word e.words)
  key_of_number = subst (λ (n : ℕ). IsKeyOf n key) key_stands (is_key_there z m vs rooms parts seat v here p finds.pin.is finds.pin.good i key entry)

  pub pinned_stands : pinned_key r i v.rooms.pin ≡ Some (key_bytes e.word e.words)
  pinned_stands = found_key_is r i v.rooms.pin p key finds.pin.is finds.pin.room finds.pin.good entry

  -- the value word is that of the key's entry
  pub value_stands : word_now z m vs (key_number (key_bytes e.word e.words)) ≡ m.rooms.value r i + 1
  value_stands = value_there z m vs rooms parts seat v here p finds.pin.is finds.pin.good i key entry ∙ ap (λ (j : ℕ). m.rooms.value j i + 1) finds.pin.room
