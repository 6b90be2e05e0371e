-- The bounds of a room, loaded word by word.
use Rattle.std.proofs.Common.{◌≡◌, ℕ, ◌+◌, ◌-◌, ◌*◌, ◌<◌, ◌≤◌, List, length, get_or, set, take, drop, sym, ap, ◌∙◌, arith}
use Rattle.std.proofs.lemmas.List.{length-drop, get_or-drop}
use Rattle.oak_model.specs.declared.limits.TheConstants.{GREATEST_KEY}
use Rattle.oak_model.specs.Key.{AreBytes}
use Rattle.oak_model.specs.WordBytes.{word_bytes}
use Rattle.oak_model.proofs.Lists.{rows_length, rows_at}
use Rattle.arena_core.specs.Words.{word_of}
use Rattle.chunk_core.specs.declared.layout.TheConstants.{BOUND_WORDS}
use Rattle.chunk_core.specs.Rooms.{RoomMemory, read_room}
use Rattle.chunk_ops.specs.declared.stored.StoredKey.{StoredKey}
use Rattle.chunk_ops.specs.Stored.{IsStored}
use Rattle.chunk_ops.proofs.StoredLaws.{Filled, filled_more, filled_all}
use Rattle.chunk_ops.proofs.WordParts.{word_part, part_small, part_long}
use Rattle.rebalance.specs.declared.ranges.Bound.{Bound}
use Rattle.rebalance.specs.declared.ranges.Bound.TheVariants.{Low, High}
use Rattle.rebalance.specs.declared.held_rooms.RoomWord.{RoomWord}
use Rattle.rebalance.specs.HeldRooms.{spot}
use Rattle.rebalance.specs.Ranges.{word_of_bound, bound_words, bound_bytes}

module _ (m : RoomMemory) (r : ℕ) where
  -- a word of a bound, among all of them
  pub bound_word_is : (b : Bound) (j : ℕ) → j < BOUND_WORDS → read_room m (spot r (word_of_bound b j)) ≡ get_or (bound_words b m r) j 0
  bound_word_is Low j lt = ap (m.low r) (let e : j ≡ 0 + j = omega arith in e) ∙ sym (rows_at 0 BOUND_WORDS j (m.low r) 0 lt)
  bound_word_is High j lt = ap (m.high r) (let e : j ≡ 0 + j = omega arith in e) ∙ sym (rows_at 0 BOUND_WORDS j (m.high r) 0 lt)

  whole : (b : Bound) → length (bound_words b m r) ≡ BOUND_WORDS
  whole Low = rows_length 0 BOUND_WORDS (m.low r)
  whole High = rows_length 0 BOUND_WORDS (m.high r)

  room_for : (b : Bound) (n : ℕ) → n ≤ GREATEST_KEY → n ≤ 8 * length (drop 1 (bound_words b m r))
  room_for b n few = let w = whole b in let d = length-drop 1 (bound_words b m r) in omega arith

  -- one word more of a bound was loaded, and cut behind the last byte
  pub bound_filled : (b : Bound) (n i x y : ℕ) (now : RoomMemory) (word : RoomWord) (ws : List ℕ) → n ≤ GREATEST_KEY → 8 * i < n → now ≡ m → word ≡ word_of_bound b (1 + i) → x ≡ read_room now (spot r word) → y ≡ word_of (take (n - 8 * i) (word_bytes x))
      → Filled (bound_bytes n (bound_words b m r)) i ws → Filled (bound_bytes n (bound_words b m r)) (i + 1) (set ws i y)
  bound_filled b n i x y now word ws few lt same is found cut filled = let all : List ℕ = bound_words b m r in
      let here : x ≡ get_or (drop 1 all) i 0 = found ∙ ((λ j. read_room (same j) (spot r (is j))) ∙ (bound_word_is b (1 + i) (omega arith) ∙ sym (get_or-drop 1 all i 0))) in
      filled_more (bound_bytes n all) ws i y filled (omega arith) (cut ∙ ap word_of (ap (λ (z : ℕ). take (n - 8 * i) (word_bytes z)) here ∙ word_part (drop 1 all) n i lt (room_for b n few)))

  bound_long : (b : Bound) (n : ℕ) → n ≤ GREATEST_KEY → length (bound_bytes n (bound_words b m r)) ≡ n
  bound_long b n few = part_long n (drop 1 (bound_words b m r)) (room_for b n few)

  bound_small : (b : Bound) (n : ℕ) → AreBytes (bound_bytes n (bound_words b m r))
  bound_small b n = part_small n (drop 1 (bound_words b m r))

  bound_few : (b : Bound) (n : ℕ) → n ≤ GREATEST_KEY → length (bound_bytes n (bound_words b m r)) ≤ GREATEST_KEY
  bound_few b n few = let l = bound_long b n few in omega arith

  -- the key of a bound, all of whose words were loaded
  pub bound_stored : (b : Bound) (n i : ℕ) (ws : List ℕ) (k : StoredKey) → n ≤ GREATEST_KEY → n ≤ 8 * i → Filled (bound_bytes n (bound_words b m r)) i ws → k ≡ record { words = ws; length = n } → IsStored k (bound_bytes n (bound_words b m r))
  bound_stored b n i ws k few all f is = let bytes : List ℕ = bound_bytes n (bound_words b m r) in let long = bound_long b n few in record {
    words = ap (λ (x : StoredKey). x.words) is ∙ filled_all bytes ws i f (omega arith);
    long = ap (λ (x : StoredKey). x.length) is ∙ sym long;
    few = bound_few b n few;
    bytes = bound_small b n;
  }
