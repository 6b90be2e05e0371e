-- Where only words change that nobody has, the bits of blocks, the pin words of headers and the keys of entries stay.
use Rattle.std.proofs.Common.{◌≡◌, ℕ, ◌+◌, ◌/◌, ◌%◌, ◌<◌, ◌≤◌, List, map, ap, ◌∙◌, arith, ⊎_elim}
use Rattle.std.specs.Int.{bit_at}
use Rattle.oak_model.specs.Counts.{total}
use Rattle.oak_model.specs.Limits.{Sizes}
use Rattle.oak_model.proofs.Lists.{rows_length}
use Rattle.oak_model.proofs.RowLaws.{rows_same}
use Rattle.arena_core.specs.Arena.{at_bits, at_bytes, block_words}
use Rattle.arena_core.specs.Blocks.{holds}
use Rattle.arena_core.specs.Place.{block_in, class_in, content}
use Rattle.chunk_core.specs.CoverSums.{weight}
use Rattle.chunk_core.specs.KeyWords.{key_bytes, key_in}
use Rattle.chunk_core.specs.Rooms.{RoomSpot, at_first, at_key, at_next, read_room}
use Rattle.chunk_core.specs.LinkedEntries.{linked, reached}
use Rattle.header_core.specs.Headers.{at_pin}
use Rattle.oak_core.specs.declared.states.PassState.{PassState}
use Rattle.oak_core.specs.AloneWords.{Moment}
use Rattle.oak_core.specs.EntryOwners.{entry_owners, is_key_word}
use Rattle.oak_core.specs.KeyHistories.{IsKeyOf}
use Rattle.oak_core.specs.Memory.{Memory, in_arena, in_headers, in_rooms, memory}
use Rattle.oak_core.specs.Owners.{other_owners}
use Rattle.oak_core.specs.PassState.{blocks_of, rooms_held}
use Rattle.oak_core.proofs.keyed.KeyPlaces.{word_is_key}
use Rattle.chunk_ops.specs.FindsAlone.{IsLinked, linked_key}
use Rattle.chunk_ops.proofs.KeyPlaces.{is_key_linked, owner_linked}
use Rattle.point_ops.specs.LoneInserts.{IsClearIn, SpareOnly}

module _ (z : Sizes) (words : List ℕ) (v : PassState) (l : Moment z words v) where
  abbrev mem : Memory
  mem = memory z words

  -- the word of an entry's key names one
  pub key_word_is : (r i : ℕ) → r < z.chunks → weight (mem.rooms.pin r) ≡ 1 → IsLinked mem r i → is_key_word (mem.rooms.key r i) ≡ 1
  key_word_is r i lt one once = is_key_linked z (record { words = words; states = l.states }) l.rule r i lt one once

  -- the linked key is one, with its number
  pub linked_is_key : (r i : ℕ) → r < z.chunks → weight (mem.rooms.pin r) ≡ 1 → IsLinked mem r i → IsKeyOf (key_in (mem.rooms.key r i) (content mem.arena.bytes (mem.rooms.key r i))) (linked_key mem r i)
  linked_is_key r i lt one used = let w : ℕ = mem.rooms.key r i in word_is_key w (content mem.arena.bytes w) (key_word_is r i lt one used) (rows_length 0 (block_words (class_in w)) (mem.arena.bytes (class_in w) (block_in w)))

  -- the block of an entry's key is taken
  pub key_block_set : (r i : ℕ) → r < z.chunks → weight (mem.rooms.pin r) ≡ 1 → IsLinked mem r i → let w = mem.rooms.key r i in 0 < bit_at (mem.arena.bits (class_in w) (block_in w / 64)) (block_in w % 64)
  key_block_set r i lt one once = let w : ℕ = mem.rooms.key r i in
      let owner = owner_linked z (record { words = words; states = l.states }) l.rule r i lt one once in
      let owned = l.rule.blocks.owned (class_in w) (block_in w) in
      let bit : ℕ = bit_at (mem.arena.bits (class_in w) (block_in w / 64)) (block_in w % 64) in
      let h : ℕ = total (holds (class_in w) (block_in w)) (map blocks_of l.states) in let o : ℕ = other_owners z mem.headers (class_in w) (block_in w) in let e : ℕ = entry_owners z mem.rooms (content mem.arena.bytes) (map rooms_held l.states) (class_in w) (block_in w) in
      let owned' : bit ≡ h + (o + e) = owned in let owner' : 1 ≤ e = owner in let r : 0 < bit = omega arith in r

module _ (z : Sizes) (b c : List ℕ) (s : SpareOnly z b c) where
  pub bits_stay : (k i : ℕ) → (memory z c).arena.bits k i ≡ (memory z b).arena.bits k i
  bits_stay k i = ⊎_elim (λ (n : ⊥). absurd n) (λ (e : (memory z c).arena.bits k i ≡ (memory z b).arena.bits k i). e) (s.same (in_arena (at_bits k i)))

  pub bit_stays : (k n : ℕ) → bit_at ((memory z c).arena.bits k (n / 64)) (n % 64) ≡ bit_at ((memory z b).arena.bits k (n / 64)) (n % 64)
  bit_stays k n = ap (λ (w : ℕ). bit_at w (n % 64)) (bits_stay k (n / 64))

  pub pin_stays : (h : ℕ) → (memory z c).headers.pin h ≡ (memory z b).headers.pin h
  pin_stays h = ⊎_elim (λ (n : ⊥). absurd n) (λ (e : (memory z c).headers.pin h ≡ (memory z b).headers.pin h). e) (s.same (in_headers (at_pin h)))

  -- the bytes of a block that is taken
  pub bytes_stay : (k n j : ℕ) → 0 < bit_at ((memory z c).arena.bits k (n / 64)) (n % 64) → (memory z c).arena.bytes k n j ≡ (memory z b).arena.bytes k n j
  bytes_stay k n j set = ⊎_elim (λ (clear : IsClearIn z k n b). absurd (let e = bit_stays k n in let f : bit_at ((memory z b).arena.bits k (n / 64)) (n % 64) ≡ 0 = clear in omega arith))
      (λ (e : (memory z c).arena.bytes k n j ≡ (memory z b).arena.bytes k n j). e) (s.same (in_arena (at_bytes k n j)))

  pub content_stays : (w : ℕ) → 0 < bit_at ((memory z c).arena.bits (class_in w) (block_in w / 64)) (block_in w % 64) → content (memory z c).arena.bytes w ≡ content (memory z b).arena.bytes w
  content_stays w set = rows_same 0 (block_words (class_in w)) ((memory z c).arena.bytes (class_in w) (block_in w)) ((memory z b).arena.bytes (class_in w) (block_in w)) (λ j _ _. bytes_stay (class_in w) (block_in w) j set)

  room_word_stays : (p : RoomSpot) → read_room (memory z c).rooms p ≡ read_room (memory z b).rooms p
  room_word_stays p = ⊎_elim (λ (n : ⊥). absurd n) (λ (e : read_room (memory z c).rooms p ≡ read_room (memory z b).rooms p). e) (s.same (in_rooms p))

  key_word_stays : (r i : ℕ) → (memory z c).rooms.key r i ≡ (memory z b).rooms.key r i
  key_word_stays r i = room_word_stays (at_key r i)

  -- which entries are linked
  pub links_stay : (r : ℕ) → linked (memory z c).rooms r ≡ linked (memory z b).rooms r
  links_stay r = let first = room_word_stays (at_first r) in let next = λ (i : ℕ). room_word_stays (at_next r i) in λ j. reached (λ i. next i j) (first j)

  -- so the key of an entry
  pub linked_key_stays : (v : PassState) → Moment z c v → (r i : ℕ) → r < z.chunks → weight ((memory z c).rooms.pin r) ≡ 1 → IsLinked (memory z c) r i → linked_key (memory z c) r i ≡ linked_key (memory z b) r i
  linked_key_stays v l r i lt one used = let w : ℕ = (memory z c).rooms.key r i in ap (key_bytes w) (content_stays w (key_block_set z c v l r i lt one used)) ∙ ap (λ (n : ℕ). key_bytes n (content (memory z b).arena.bytes n)) (key_word_stays r i)
