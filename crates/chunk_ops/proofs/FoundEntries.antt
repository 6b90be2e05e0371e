-- What stands of an entry that a pin found: its key word names a block of the table, in which its key stands.
use Rattle.std.proofs.Common.{◌≡◌, ℕ, ◌+◌, ◌*◌, ◌/◌, ◌%◌, ◌<◌, ◌≤◌, List, map, length, get_or, take, sym, refl, ap, ◌∙◌, subst, arith}
use Rattle.oak_model.specs.declared.limits.TheConstants.{CLASSES}
use Rattle.oak_model.specs.Counts.{one_at, total}
use Rattle.oak_model.specs.Key.{IsKey}
use Rattle.oak_model.specs.Limits.{Sizes}
use Rattle.oak_model.specs.WordBytes.{word_bytes, bytes_of}
use Rattle.oak_model.proofs.Lists.{rows_length, rows_at}
use Rattle.arena_core.specs.Arena.{at_bytes, block_words, blocks, IsInArena}
use Rattle.arena_core.specs.Place.{class_in, block_in, length_in, content}
use Rattle.arena_core.proofs.PlaceLaws.{class_below}
use Rattle.chunk_core.specs.declared.holds.FoundEntry.{FoundEntry}
use Rattle.chunk_core.specs.declared.holds.RoomHolds.{RoomHolds}
use Rattle.chunk_core.specs.CoverSums.{weight}
use Rattle.chunk_core.specs.KeyWords.{key_length}
use Rattle.chunk_core.specs.LinkedEntries.{linked}
use Rattle.chunk_core.specs.MayOnRooms.{FindsEntry}
use Rattle.chunk_core.specs.PinnedRooms.{EntryStands, RoomPinHolds}
use Rattle.chunk_core.specs.Rooms.{at_key}
use Rattle.chunk_core.proofs.RoomLinks.{found_stands}
use Rattle.oak_core.specs.declared.states.PassState.{PassState}
use Rattle.oak_core.specs.EntryOwners.{is_key_word}
use Rattle.oak_core.specs.Memory.{Memory, Spot, in_arena, in_rooms, index, IsInside, memory}
use Rattle.oak_core.specs.PassState.{rooms_held}
use Rattle.oak_core.specs.Splitting.{Loads}
use Rattle.oak_core.specs.Step.{Step, load, Told}
use Rattle.chunk_ops.specs.PinRecords.{HasEntry, HasRoomPin, RoomPinned, OnlyMeets, pin_or, room_pin}
use Rattle.chunk_ops.specs.RoomWords.{FindsKeyWord}
use Rattle.chunk_ops.proofs.WordLoads.{pin_holds, load_at, load_reads}
use Rattle.chunk_ops.proofs.WordParts.{byte_in, part_long}
use Rattle.chunk_ops.proofs.KeyPlaces.{IsKeyPlace, key_place, is_key_linked, block_linked}
use Rattle.arena_core.proofs.ClassRooms.{place_room}

module _ (z : Sizes) (call r : ℕ) (x : Step) (v : PassState) (n : ℕ) (w : PassState) (p : HasRoomPin z r v) (t : Told z call x v n w) (i : ℕ) (k : List ℕ) (h : HasEntry r i k v) where
  abbrev m : Memory
  m = memory z t.table.words

  abbrev hs : List RoomHolds
  hs = map rooms_held t.table.states

  abbrev word : ℕ
  word = h.entry.word

  held : RoomPinHolds z m.rooms (content m.arena.bytes) (room_pin v)
  held = pin_holds z call r x v n w p t

  at_room : EntryStands (linked m.rooms r) (m.rooms.key r) (content m.arena.bytes) h.entry
  at_room = subst (λ (j : ℕ). EntryStands (linked m.rooms j) (m.rooms.key j) (content m.arena.bytes) h.entry) p.pin.room
      (found_stands z m.rooms (content m.arena.bytes) (room_pin v) held h.entry h.finds.there)

  pub word_there : m.rooms.key r i ≡ word
  word_there = ap (m.rooms.key r) (sym h.finds.number) ∙ at_room.word

  weighs : weight (m.rooms.pin r) ≡ 1
  weighs = subst (λ (j : ℕ). weight (m.rooms.pin j) ≡ 1) p.pin.room held.cover

  entry_once : total (λ j. one_at j i) (linked m.rooms r) ≡ 1
  entry_once = ap (λ (k : ℕ). total (λ j. one_at j k) (linked m.rooms r)) (sym h.finds.number) ∙ at_room.linked

  pub is_key_there : is_key_word word ≡ 1
  is_key_there = subst (λ (y : ℕ). is_key_word y ≡ 1) word_there (is_key_linked z t.table t.rule r i p.inside weighs entry_once)

  pub key_there : IsKeyPlace word
  key_there = key_place word is_key_there

  pub block_there : block_in word < blocks z (class_in word)
  block_there = subst (λ (y : ℕ). block_in y < blocks z (class_in y)) word_there (block_linked z t.table t.rule r i p.inside weighs entry_once)

  pub class_there : class_in word < CLASSES
  class_there = let c = class_below key_there.place.class in let e = key_there.place.is_in in omega arith

  abbrev words : List ℕ
  words = h.entry.words

  words_long : length words ≡ block_words (class_in word)
  words_long = ap length (sym at_room.words) ∙ rows_length 0 (block_words (class_in word)) (m.arena.bytes (class_in word) (block_in word))

  pub room_there : length_in word ≤ 8 * length words
  room_there = let a = place_room word key_there.place in let l = words_long in let b : ℕ = block_words (class_in word) in omega arith

  pub key_is_there : take (length_in word) (bytes_of words) ≡ k
  unfolding length_in key_length
  key_is_there = h.key_is

  pub key_long : length_in word ≡ length k
  key_long = sym (part_long (length_in word) words room_there) ∙ ap length key_is_there

  pub key_whole : IsKey k
  key_whole = let l = key_long in let q = key_there in let a = q.some_byte in let b = q.few in ((omega arith), (omega arith))

  -- a word of the block
  pub block_word_there : (j : ℕ) → j < block_words (class_in word) → m.arena.bytes (class_in word) (block_in word) j ≡ get_or words j 0
  block_word_there j lt = sym (ap (λ (ws : List ℕ). get_or ws j 0) (sym at_room.words) ∙ (rows_at 0 (block_words (class_in word)) j (m.arena.bytes (class_in word) (block_in word)) 0 lt
      ∙ ap (m.arena.bytes (class_in word) (block_in word)) (let e : 0 + j ≡ j = omega arith in e)))

  -- a byte of the key, in the word that has it
  pub key_byte_there : (j y : ℕ) → j < length k → y ≡ get_or words (j / 8) 0 → get_or (word_bytes y) (j % 8) 0 ≡ get_or k j 0
  key_byte_there j y lt e = ap (λ (q : ℕ). get_or (word_bytes q) (j % 8) 0) e ∙ (byte_in words (length_in word) j (let l = key_long in omega arith) room_there ∙ ap (λ (bs : List ℕ). get_or bs j 0) key_is_there)

  pub in_block : (j : ℕ) → j < length k → j / 8 < block_words (class_in word)
  in_block j lt = let l = key_long in let a = room_there in let q = words_long in let b : ℕ = block_words (class_in word) in omega arith

-- the word that has a byte of the key is one of the table's
pub block_inside : (z : Sizes) (k : List ℕ) (e : FoundEntry) (word : ℕ) → FindsKeyWord z k e word → (j : ℕ) → j < length k → IsInArena z (at_bytes (class_in word) (block_in word) (j / 8))
block_inside z k e word f j lt = let a = f.room in let b : ℕ = block_words (class_in word) in (f.class, f.block, (let q : j / 8 < b = omega arith in q))

-- ---- the loads

module _ (z : Sizes) (call r n : ℕ) (v w : PassState) (p : HasRoomPin z r v) (i : ℕ) (k : List ℕ) (h : HasEntry r i k v) where
  pub key_word_is : Told z call (load (in_rooms (at_key r i))) v n w → n ≡ h.entry.word
  key_word_is t = sym (load_reads z call n v w (in_rooms (at_key r i)) t) ∙ word_there z call r (load (in_rooms (at_key r i))) v n w p t i k h

  pub block_word_is : (j : ℕ) → j < block_words (class_in h.entry.word) → Told z call (load (in_arena (at_bytes (class_in h.entry.word) (block_in h.entry.word) j))) v n w → n ≡ get_or h.entry.words j 0
  block_word_is j lt t = sym (load_reads z call n v w (in_arena (at_bytes (class_in h.entry.word) (block_in h.entry.word) j)) t) ∙ block_word_there z call r (load (in_arena (at_bytes (class_in h.entry.word) (block_in h.entry.word) j))) v n w p t i k h j lt

  pub key_word_found : Told z call (load (in_rooms (at_key r i))) v n w → FindsKeyWord z k h.entry n
  key_word_found t = let x : Step = load (in_rooms (at_key r i)) in let e = key_word_is t in subst (FindsKeyWord z k h.entry) (sym e) (record {
    is = refl;
    class = class_there z call r x v n w p t i k h;
    block = block_there z call r x v n w p t i k h;
    long = key_long z call r x v n w p t i k h;
    key = key_whole z call r x v n w p t i k h;
    room = let l = key_long z call r x v n w p t i k h in let a = place_room h.entry.word (key_there z call r x v n w p t i k h).place in let b : ℕ = block_words (class_in h.entry.word) in omega arith;
  })

  -- a byte of the key, by a load of the word of its block
  pub byte_found : (j at word : ℕ) → FindsKeyWord z k h.entry word → j < length k → at ≡ index z (in_arena (at_bytes (class_in word) (block_in word) (j / 8))) → Loads z call at v n w → get_or (word_bytes n) (j % 8) 0 ≡ get_or k j 0
  byte_found j at word f lt is l = let q : Spot = in_arena (at_bytes (class_in h.entry.word) (block_in h.entry.word) (j / 8)) in
      let inside : IsInside z q = subst (λ (e : ℕ). IsInside z (in_arena (at_bytes (class_in e) (block_in e) (j / 8)))) f.is (block_inside z k h.entry word f j lt) in
      let t : Told z call (load q) v n w = load_at z call at n v w q inside (is ∙ ap (λ (e : ℕ). index z (in_arena (at_bytes (class_in e) (block_in e) (j / 8)))) f.is) l in
      key_byte_there z call r (load q) v n w p t i k h j n lt (block_word_is (j / 8) (in_block z call r (load q) v n w p t i k h j lt) t)

-- loads leave it as it was found

pub pin_still : (z : Sizes) (call r : ℕ) (v w : PassState) → OnlyMeets call v w → HasRoomPin z r v → HasRoomPin z r w
pin_still z call r v w o p = subst (RoomPinned z r) (sym o.rooms) p

abbrev pub entry_still : (call r i : ℕ) (k : List ℕ) (v w : PassState) → OnlyMeets call v w → HasEntry r i k v → HasEntry r i k w
entry_still call r i k v w o h = record { entry = h.entry; finds = subst (λ (a : RoomHolds). FindsEntry r i a (pin_or a.pin) h.entry) (sym o.rooms) h.finds; key_is = h.key_is }
