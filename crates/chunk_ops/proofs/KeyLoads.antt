-- The loads of the key of an entry that a pin found.
use Rattle.std.proofs.Common.{◌≡◌, ℕ, ◌-◌, ◌*◌, ◌/◌, ◌<◌, List, length, take, sym, ap, ◌∙◌, subst, arith}
use Rattle.oak_model.specs.Key.{AreBytes}
use Rattle.oak_model.specs.Limits.{Sizes}
use Rattle.oak_model.specs.WordBytes.{word_bytes}
use Rattle.arena_core.specs.Arena.{at_bytes, block_words, IsInArena}
use Rattle.arena_core.specs.Place.{class_in, block_in, length_in}
use Rattle.arena_core.specs.Words.{bytes_in, word_at, word_of}
use Rattle.chunk_core.specs.KeyWords.{key_length}
use Rattle.oak_core.specs.declared.states.PassState.{PassState}
use Rattle.oak_core.specs.Memory.{Spot, in_arena, index, IsInside}
use Rattle.oak_core.specs.Splitting.{Loads}
use Rattle.oak_core.specs.Step.{Step, load, Told}
use Rattle.chunk_ops.specs.PinRecords.{HasEntry, HasRoomPin}
use Rattle.chunk_ops.specs.RoomWords.{FindsKeyWord}
use Rattle.chunk_ops.proofs.FoundEntries.{block_inside, block_word_is, in_block, key_is_there, key_long, room_there}
use Rattle.chunk_ops.proofs.WordLoads.{load_at}
use Rattle.chunk_ops.proofs.WordParts.{part_small, word_part}

-- the word with byte 8 * j of the key is one of the table's
pub key_inside : (z : Sizes) (r i : ℕ) (k : List ℕ) (v : PassState) (h : HasEntry r i k v) (word : ℕ) → FindsKeyWord z k h.entry word → (j : ℕ) → 8 * j < length k → IsInArena z (at_bytes (class_in word) (block_in word) j)
key_inside z r i k v h word f j lt = let a = block_inside z k h.entry word f (8 * j) lt in subst (λ (q : ℕ). IsInArena z (at_bytes (class_in word) (block_in word) q)) (let e : 8 * j / 8 ≡ j = omega arith in e) a

-- its bytes are bytes
pub key_bytes_small : (r i : ℕ) (k : List ℕ) (v : PassState) → HasEntry r i k v → AreBytes k
key_bytes_small r i k v h = subst AreBytes h.key_is (part_small (key_length h.entry.word) h.entry.words)

module _ (z : Sizes) (call r n : ℕ) (v w : PassState) (p : HasRoomPin z r v) (i : ℕ) (k : List ℕ) (h : HasEntry r i k v) where
  abbrev place : ℕ
  place = h.entry.word

  pub part_found : (j : ℕ) → 8 * j < length k → Told z call (load (in_arena (at_bytes (class_in h.entry.word) (block_in h.entry.word) j))) v n w → take (length k - 8 * j) (word_bytes n) ≡ bytes_in j k
  part_found j few t = let x : Step = load (in_arena (at_bytes (class_in place) (block_in place) j)) in let l = key_long z call r x v n w p t i k h in let a = room_there z call r x v n w p t i k h in
      let b : 8 * j / 8 < block_words (class_in place) = in_block z call r x v n w p t i k h (8 * j) few in let bw : ℕ = block_words (class_in place) in
      ap (λ (m : ℕ). take (m - 8 * j) (word_bytes n)) (sym l) ∙ (ap (λ (y : ℕ). take (length_in place - 8 * j) (word_bytes y)) (block_word_is z call r n v w p i k h j (let q : j < bw = omega arith in q) t)
      ∙ (word_part h.entry.words (length_in place) j (omega arith) a ∙ ap (bytes_in j) (key_is_there z call r x v n w p t i k h)))

  -- word j of the key, by a load of the word of its block
  pub key_word_part : (j at word : ℕ) → FindsKeyWord z k h.entry word → 8 * j < length k → at ≡ index z (in_arena (at_bytes (class_in word) (block_in word) j)) → Loads z call at v n w → word_of (take (length k - 8 * j) (word_bytes n)) ≡ word_at k j
  key_word_part j at word f lt is l = let q : Spot = in_arena (at_bytes (class_in place) (block_in place) j) in
      let inside : IsInside z q = subst (λ (e : ℕ). IsInside z (in_arena (at_bytes (class_in e) (block_in e) j))) f.is (key_inside z r i k v h word f j lt) in
      ap word_of (part_found j lt (load_at z call at n v w q inside (is ∙ ap (λ (e : ℕ). index z (in_arena (at_bytes (class_in e) (block_in e) j))) f.is) l))
