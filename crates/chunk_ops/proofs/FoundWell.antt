-- What a pin found stands in the room, so each entry found is one of a room's, with a key in a block of the table, and no two have one number.
use Rattle.std.proofs.Common.{◌≡◌, ℕ, ◌<◌, length, sym, refl, ap, ◌∙◌, subst, arith}
use Rattle.oak_model.specs.Counts.{Each, Has}
use Rattle.oak_model.specs.KeyNumber.{key_number}
use Rattle.oak_model.specs.Limits.{Sizes}
use Rattle.oak_model.proofs.Lists.{rows_length}
use Rattle.arena_core.specs.Arena.{block_words, blocks}
use Rattle.arena_core.specs.Place.{class_in, block_in, length_in, content}
use Rattle.arena_core.proofs.ClassRooms.{place_room}
use Rattle.arena_core.proofs.PlaceLaws.{class_below}
use Rattle.chunk_core.specs.declared.holds.FoundEntry.{FoundEntry}
use Rattle.chunk_core.specs.declared.holds.PinnedRoom.{PinnedRoom}
use Rattle.chunk_core.specs.KeyWords.{key_bytes, key_in, key_length}
use Rattle.chunk_core.specs.LinkedEntries.{linked}
use Rattle.chunk_core.specs.PinnedRooms.{EntryStands, RoomPinHolds, found_in, found_key}
use Rattle.chunk_core.proofs.RoomLinks.{found_stands}
use Rattle.oak_core.specs.EntryOwners.{is_key_word}
use Rattle.oak_core.specs.Memory.{Memory, memory}
use Rattle.oak_core.specs.Rule.{Rule}
use Rattle.oak_core.specs.TableState.{TableState}
use Rattle.chunk_ops.specs.PinRecords.{IsFoundWell}
use Rattle.chunk_ops.proofs.EntryKeys.{each_has}
use Rattle.chunk_ops.proofs.KeyPlaces.{IsKeyPlace, key_place, linked_used, is_key_linked, block_linked}
use Rattle.chunk_ops.proofs.WordParts.{part_long, part_small}

module _ (z : Sizes) (s : TableState) (rule : Rule z s) (p : PinnedRoom) (h : RoomPinHolds z (memory z s.words).rooms (content (memory z s.words).arena.bytes) p) where
  abbrev m : Memory
  m = memory z s.words

  module _ (e : FoundEntry) (has : Has e (found_in p)) where
    stands : EntryStands (linked m.rooms p.room) (m.rooms.key p.room) (content m.arena.bytes) e
    stands = found_stands z m.rooms (content m.arena.bytes) p h e has

    key_named : is_key_word e.word ≡ 1
    key_named = subst (λ (y : ℕ). is_key_word y ≡ 1) stands.word (is_key_linked z s rule p.room e.number h.inside h.cover stands.linked)

    place_is : IsKeyPlace e.word
    place_is = key_place e.word key_named

    words_long : length e.words ≡ block_words (class_in e.word)
    words_long = ap length (sym stands.words) ∙ rows_length 0 (block_words (class_in e.word)) (m.arena.bytes (class_in e.word) (block_in e.word))

    key_long : length_in e.word ≡ length (key_bytes e.word e.words)
    unfolding length_in key_length
    key_long = let a = place_room e.word place_is.place in let l = words_long in let b : ℕ = block_words (class_in e.word) in sym (part_long (length_in e.word) e.words (omega arith))

    key_same : found_key e ≡ key_number (key_bytes e.word e.words)
    unfolding key_in
    key_same = refl

    pub entry_well : IsFoundWell z e
    entry_well = record {
      number = let u = linked_used z s rule p.room e.number h.inside h.cover stands.linked in let f = (rule.rooms.ordered p.room h.cover).few in omega arith;
      class = let c = class_below place_is.place.class in let i = place_is.place.is_in in omega arith;
      block = subst (λ (y : ℕ). block_in y < blocks z (class_in y)) stands.word (block_linked z s rule p.room e.number h.inside h.cover stands.linked);
      long = key_long;
      key = let l = key_long in let a = place_is.some_byte in let b = place_is.few in (omega arith, omega arith);
      bytes = part_small (key_length e.word) e.words;
      room = let l = key_long in let a = place_room e.word place_is.place in let b : ℕ = block_words (class_in e.word) in omega arith;
      same = key_same;
    }

  pub found_well : Each (IsFoundWell z) (found_in p)
  found_well = each_has (IsFoundWell z) (found_in p) entry_well

  pub found_alike : (e f : FoundEntry) → Has e (found_in p) → Has f (found_in p) → e.number ≡ f.number → e ≡ f
  found_alike e f has has' same = let a = stands e has in let b = stands f has' in let w : e.word ≡ f.word = sym a.word ∙ (ap (m.rooms.key p.room) same ∙ b.word) in
      let ws : e.words ≡ f.words = sym a.words ∙ (ap (content m.arena.bytes) w ∙ b.words) in λ i. record { number = same i; word = w i; words = ws i }
