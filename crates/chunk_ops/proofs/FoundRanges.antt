-- The keys of the entries that a good pin has found lie in the range that it found.
use Rattle.std.proofs.Common.{◌≡◌, ℕ, List, map, sym, ◌∙◌, subst, arith}
use Rattle.oak_model.specs.Counts.{Has}
use Rattle.oak_model.specs.Limits.{Sizes}
use Rattle.oak_model.proofs.Lists.{at_map}
use Rattle.arena_core.specs.Place.{content}
use Rattle.chunk_core.specs.declared.holds.FoundEntry.{FoundEntry}
use Rattle.chunk_core.specs.declared.holds.PinnedRoom.{PinnedRoom}
use Rattle.chunk_core.specs.Covers.{key_at, span_in}
use Rattle.chunk_core.specs.CoverSums.{stray}
use Rattle.chunk_core.specs.MayOnRooms.{PinsRoom}
use Rattle.chunk_core.specs.PinnedRooms.{IsGoodRoom, OnRoomPin, RoomPinHolds, found_in, found_key, span_of}
use Rattle.chunk_core.specs.Spans.{within}
use Rattle.chunk_core.proofs.CountLoads.{span_same}
use Rattle.chunk_core.proofs.CoverFacts.{entry_adds}
use Rattle.chunk_core.proofs.RoomLinks.{found_key_is, found_stands}
use Rattle.chunk_core.proofs.SpanLaws.{within-le}
use Rattle.oak_core.specs.declared.states.PassState.{PassState}
use Rattle.oak_core.specs.AloneWords.{Moment}
use Rattle.oak_core.specs.Memory.{Memory, memory}
use Rattle.oak_core.specs.PassState.{rooms_held}
use Rattle.chunk_ops.specs.PinRecords.{room_pin}

module _ (z : Sizes) (words : List ℕ) (r : ℕ) (v : PassState) (t : Moment z words v) (pin : PinsRoom r v.rooms (room_pin v)) where
  abbrev m : Memory
  m = memory z words

  abbrev bytes : ℕ → List ℕ
  bytes = content (memory z words).arena.bytes

  abbrev q : PinnedRoom
  q = room_pin v

  holds : RoomPinHolds z m.rooms bytes q
  holds = subst (OnRoomPin (λ (p : PinnedRoom). IsGoodRoom p → RoomPinHolds z (memory z words).rooms (content (memory z words).arena.bytes) p)) pin.is (t.rule.rooms.good t.seat v.rooms (at_map rooms_held t.states t.seat v t.here)) pin.good

  pub found_within : (e : FoundEntry) → Has e (found_in (room_pin v)) → within (span_of (room_pin v)) (found_key e) ≡ 1
  found_within e has = let s = found_stands z m.rooms bytes q holds e has in
      let adds = entry_adds z m.rooms bytes (map rooms_held t.states) stray q.room e.number holds.inside holds.cover s.linked in let none = t.rule.covers.inside in
      let few = within-le (span_in m.rooms q.room) (key_at bytes (m.rooms.key q.room e.number)) in
      let is : within (span_in m.rooms q.room) (key_at bytes (m.rooms.key q.room e.number)) ≡ 1 = omega arith in
      (λ j. within (sym (span_same z m.rooms bytes q holds) j) (found_key_is z m.rooms bytes q holds e has j)) ∙ is
