-- The bytes of a key, copied from its words.
use Rattle.std.proofs.Common.{◌≡◌, ℕ, ◌+◌, ◌-◌, ◌*◌, ◌<◌, ◌≤◌, List, ◌++◌, length, get_or, take, sym, ap, ◌∙◌, subst, arith}
use Rattle.std.proofs.lemmas.List.{take-take}
use Rattle.oak_model.specs.declared.limits.TheConstants.{GREATEST_KEY}
use Rattle.oak_model.specs.Key.{AreBytes}
use Rattle.oak_model.specs.WordBytes.{word_bytes, bytes_of}
use Rattle.oak_model.proofs.Lists.{rows_length, rows_at}
use Rattle.arena_core.specs.Words.{word_at}
use Rattle.arena_core.proofs.WordLaws.{by_words, put_more, word_at-part}
use Rattle.chunk_ops.specs.declared.stored.StoredKey.{StoredKey}
use Rattle.chunk_ops.specs.declared.stored.TheConstants.{KEY_WORDS}
use Rattle.chunk_ops.specs.Stored.{IsStored, key_words}
use Rattle.chunk_ops.proofs.WordParts.{word_part, part_long}

-- one word more was copied
pub copied_more : (ws xs ys : List ℕ) (i n : ℕ) → length ws ≡ KEY_WORDS → length xs ≡ GREATEST_KEY → i < KEY_WORDS → n ≡ get_or ws i 0 → take (8 * i) xs ≡ take (8 * i) (take GREATEST_KEY (bytes_of ws))
    → take (8 * i + 8) ys ≡ take (8 * i) xs ++ take (length xs - 8 * i) (word_bytes n) → take (8 * (i + 1)) ys ≡ take (8 * (i + 1)) (take GREATEST_KEY (bytes_of ws))
copied_more ws xs ys i n wide long lt is before put = put_more ws xs ys GREATEST_KEY i n long (omega arith) (omega arith) is before put

module _ (b : List ℕ) (few : length b ≤ GREATEST_KEY) where
  room_for : length b ≤ 8 * length (key_words b)
  room_for = let w = rows_length 0 KEY_WORDS (word_at b) in omega arith

  as_long : length (take (length b) (bytes_of (key_words b))) ≡ length b
  as_long = part_long (length b) (key_words b) room_for

  -- the words of a key have its bytes
  pub words_back : AreBytes b → take (length b) (bytes_of (key_words b)) ≡ b
  words_back s = by_words (take (length b) (bytes_of (key_words b))) b as_long (λ i l. let lt : 8 * i < length b = subst (λ (m : ℕ). 8 * i < m) as_long l in
      sym (word_part (key_words b) (length b) i lt room_for)
      ∙ (ap (λ (w : ℕ). take (length b - 8 * i) (word_bytes w)) (rows_at 0 KEY_WORDS i (word_at b) 0 (omega arith) ∙ ap (word_at b) (let e : 0 + i ≡ i = omega arith in e)) ∙ word_at-part b s i lt))

-- all words were copied that the first n bytes reach
pub copied_words : (ws xs : List ℕ) (i n : ℕ) → n ≤ GREATEST_KEY → n ≤ 8 * i → take (8 * i) xs ≡ take (8 * i) (take GREATEST_KEY (bytes_of ws)) → take n xs ≡ take n (bytes_of ws)
copied_words ws xs i n few all copied =
    sym (take-take n (8 * i) xs all) ∙ (ap (take n) copied ∙ (take-take n (8 * i) (take GREATEST_KEY (bytes_of ws)) all ∙ take-take n GREATEST_KEY (bytes_of ws) few))

-- the bytes of a stored key stand in its words
pub stored_bytes : (k : StoredKey) (b : List ℕ) → IsStored k b → take k.length (bytes_of k.words) ≡ b
stored_bytes k b s = (λ j. take (s.long j) (bytes_of (s.words j))) ∙ words_back b s.few s.bytes
