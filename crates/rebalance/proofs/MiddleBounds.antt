-- The bounds at the key where a room is split.
use Rattle.std.proofs.Common.{◌≡◌, ℕ, zero, suc, ◌+◌, ◌-◌, ◌/◌, ◌<◌, cond, Bool, List, ◌∷◌, ◌++◌, length, take, ◌∙◌, ap, refl, arith, ne_eqb, Some, None}
use Rattle.oak_model.specs.Counts.{rows}
use Rattle.oak_model.specs.KeyNumber.{key_number}
use Rattle.oak_model.specs.WordBytes.{bytes_of}
use Rattle.oak_model.proofs.Lists.{rows_length}
use Rattle.oak_model.proofs.RowLaws.{rows_same}
use Rattle.arena_core.specs.Words.{word_at, words_of}
use Rattle.arena_core.proofs.WordLaws.{value_back}
use Rattle.chunk_core.specs.declared.layout.TheConstants.{BOUND_WORDS}
use Rattle.chunk_core.specs.KeyWords.{low_bytes, high_bytes, low_number}
use Rattle.chunk_ops.specs.declared.stored.TheConstants.{KEY_WORDS}
use Rattle.chunk_ops.specs.declared.stored.StoredKey.{StoredKey}
use Rattle.chunk_ops.specs.Stored.{IsStored}
use Rattle.rebalance.specs.Bounds.{bound_word}
use Rattle.rebalance.proofs.FilledCopies.{rows_back}

rows_shifted : {A : Type 0} (i n : ℕ) (f : ℕ → A) → rows (suc i) n f ≡ rows i n (λ j. f (suc j))
unfolding rows
rows_shifted i zero f = refl
rows_shifted i (suc n) f = ap (λ (l : List _). f (suc i) ∷ l) (rows_shifted (suc i) n f)

rows_parted : {A : Type 0} (i n k : ℕ) (f : ℕ → A) → rows i (n + k) f ≡ rows i n f ++ rows (i + n) k f
unfolding rows
rows_parted i zero k f = ap (λ (j : ℕ). rows i j f) (let q : 0 + k ≡ k = omega arith in q) ∙ ap (λ (j : ℕ). rows j k f) (let q : i ≡ i + 0 = omega arith in q)
rows_parted i (suc n) k f = ap (λ (j : ℕ). rows i j f) (let q : suc n + k ≡ suc (n + k) = omega arith in q) ∙ ap (λ (l : List _). f i ∷ l) (rows_parted (suc i) n k f ∙ ap (λ (j : ℕ). rows (suc i) n f ++ rows j k f) (let q : suc i + n ≡ i + suc n = omega arith in q))

-- a bound that was stored
pub bound_stored : (first : ℕ) (ws : List ℕ) (f : ℕ → ℕ) → length ws ≡ KEY_WORDS → ((j : ℕ) → j < BOUND_WORDS → f j ≡ bound_word first ws j) → rows 0 BOUND_WORDS f ≡ first ∷ ws
unfolding rows
bound_stored first ws f long is = rows_same 0 BOUND_WORDS f (bound_word first ws) (λ k le lt. is k (omega arith)) ∙ ap (λ (l : List ℕ). first ∷ l) (rows_shifted 0 KEY_WORDS (bound_word first ws) ∙ rows_back KEY_WORDS ws long)

module _ (k : StoredKey) (b : List ℕ) (stored : IsStored k b) where
  -- a stored key has all its words
  pub stored_long : length k.words ≡ KEY_WORDS
  stored_long = ap length stored.words ∙ rows_length 0 KEY_WORDS (word_at b)

  -- its bytes are read again
  pub stored_back : take (length b) (bytes_of k.words) ≡ b
  unfolding words_of
  stored_back = let n : ℕ = (length b + 7) / 8 in let few = stored.few in
      ap (λ (ws : List ℕ). take (length b) (bytes_of ws)) (stored.words ∙ (ap (λ (j : ℕ). rows 0 j (word_at b)) (let q : KEY_WORDS ≡ n + (KEY_WORDS - n) = omega arith in q) ∙ rows_parted 0 n (KEY_WORDS - n) (word_at b)))
      ∙ value_back b (rows (0 + n) (KEY_WORDS - n) (word_at b)) stored.bytes

  -- as a low bound
  pub middle_low_bytes : low_bytes (k.length ∷ k.words) ≡ b
  middle_low_bytes = ap (λ (n : ℕ). take n (bytes_of k.words)) stored.long ∙ stored_back

  -- as a high bound
  pub middle_high_bytes : high_bytes ((k.length + 1) ∷ k.words) ≡ Some b
  middle_high_bytes = ap (λ (t : Bool). cond t None (Some (take (k.length + 1 - 1) (bytes_of k.words)))) (ne_eqb (k.length + 1) 0 (λ e. absurd (omega arith)))
      ∙ ap Some (ap (λ (n : ℕ). take n (bytes_of k.words)) (let q : k.length + 1 - 1 ≡ k.length = omega arith in q) ∙ middle_low_bytes)

  -- and its number
  pub middle_low_number : low_number (k.length ∷ k.words) ≡ key_number b
  unfolding low_number
  middle_low_number = ap key_number middle_low_bytes
