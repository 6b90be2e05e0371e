-- Keys as words, and their order.
use Rattle.std.proofs.Common.{◌≡◌, ℕ, zero, suc, ◌+◌, ◌*◌, ◌<◌, ◌≤◌, inl, List, [], ◌∷◌, length, get_or, set, drop, take, replicate, sym, ◌∙◌, ap, refl, subst, arith, get_or-set_other, get_or-set_same}
use Rattle.std.proofs.lemmas.List.{drop-drop, drop_all, length-replicate}
use Rattle.std.proofs.Math.ListN.{length-set}
use Rattle.std.specs.Ordering.{nat_cmp, ordering_then}
use Rattle.std.specs.declared.cmp.Ordering.{Ordering}
use Rattle.std.specs.declared.cmp.Ordering.TheVariants.{Less, Equal, Greater}
use mathlib.Core.Logic.{dite}
use native.Mathlib.Decide.{ℕ_discrete, dec_lt}
use Rattle.oak_model.specs.Counts.{rows}
use Rattle.oak_model.specs.Key.{key_cmp, AreBytes}
use Rattle.oak_model.specs.declared.limits.TheConstants.{GREATEST_KEY}
use Rattle.chunk_ops.specs.declared.stored.TheConstants.{KEY_WORDS}
use Rattle.chunk_ops.specs.Stored.{key_words}
use Rattle.arena_core.specs.Words.{word_of, word_at}
use Rattle.chunk_ops.proofs.OrderLaws.{padded_cmp, padded_append, padded_decides, lengths_decide, words_cmp, dropped_bytes}

-- so many words have those of the bytes, and the others are zero
pub record Filled (b : List ℕ) (i : ℕ) (ws : List ℕ) : Type 0 where
  pub long : length ws ≡ KEY_WORDS
  pub done : (j : ℕ) → j < i → get_or ws j 0 ≡ word_at b j
  pub left : (j : ℕ) → i ≤ j → get_or ws j 0 ≡ 0

zeros_at : (n j : ℕ) → get_or (replicate {A = ℕ} n 0) j 0 ≡ zero
zeros_at zero j = refl
zeros_at (suc n) zero = refl
zeros_at (suc n) (suc j) = zeros_at n j

pub filled_none : (b : List ℕ) → Filled b 0 (replicate KEY_WORDS 0)
filled_none b = record { long = length-replicate {A = ℕ} KEY_WORDS 0; done = λ j l. absurd (omega arith); left = λ j _. zeros_at KEY_WORDS j }

pub filled_more : (b ws : List ℕ) (i n : ℕ) → Filled b i ws → i < KEY_WORDS → n ≡ word_at b i → Filled b (i + 1) (set ws i n)
filled_more b ws i n f lt e = let long = f.long in record {
  long = length-set ws i n ∙ f.long;
  done = λ j l. dite (ℕ_discrete j i) (λ s. subst (λ (k : ℕ). get_or (set ws i n) k 0 ≡ word_at b k) (sym s) (let h : i < length ws = omega arith in get_or-set_same ws i n 0 h ∙ e))
      (λ m. get_or-set_other ws i j n 0 m ∙ f.done j (omega arith));
  left = λ j l. get_or-set_other ws i j n 0 (λ s. omega arith) ∙ f.left j (omega arith);
}

same_rows : (xs : List ℕ) (i n : ℕ) (f : ℕ → ℕ) → length xs ≡ n → ((j : ℕ) → j < n → get_or xs j 0 ≡ f (i + j)) → xs ≡ rows i n f
unfolding rows
same_rows [] i zero f e h = refl
same_rows [] i (suc n) f e h = absurd (omega arith)
same_rows (x ∷ xs) i zero f e h = absurd (omega arith)
same_rows (x ∷ xs) i (suc n) f e h = let a : x ≡ f i = h 0 (omega arith) ∙ ap f (let g : i + 0 ≡ i = omega arith in g) in
    let r = same_rows xs (suc i) n f (omega arith) (λ j l. h (suc j) (omega arith) ∙ ap f (let g : i + suc j ≡ suc i + j = omega arith in g)) in λ k. a k ∷ r k

no_word : (b : List ℕ) (j : ℕ) → length b ≤ 8 * j → word_at b j ≡ 0
unfolding word_of
no_word b j le = ap (λ (xs : List ℕ). word_of (take 8 xs)) (drop_all (8 * j) b le)

-- all words that the bytes fill
pub filled_all : (b ws : List ℕ) (i : ℕ) → Filled b i ws → length b ≤ 8 * i → ws ≡ key_words b
filled_all b ws i f le = same_rows ws 0 KEY_WORDS (word_at b) f.long (λ j l. dite (dec_lt j i) (λ h. f.done j h ∙ ap (word_at b) (let e : j ≡ 0 + j = omega arith in e))
    (λ n. f.left j (omega arith) ∙ (sym (no_word b j (omega arith)) ∙ ap (word_at b) (let e : j ≡ 0 + j = omega arith in e))))

-- the order of words is that of padded bytes
rows_cmp : (a b : List ℕ) (i n : ℕ) → AreBytes a → AreBytes b → key_cmp (rows i n (word_at a)) (rows i n (word_at b)) ≡ padded_cmp (8 * n) (drop (8 * i) a) (drop (8 * i) b)
unfolding rows
rows_cmp a b i zero s t = refl
rows_cmp a b i (suc n) s t = let x = drop (8 * i) a in let y = drop (8 * i) b in
    (λ k. ordering_then (words_cmp x y (dropped_bytes (8 * i) a s) (dropped_bytes (8 * i) b t) k) (rows_cmp a b (suc i) n s t k))
    ∙ ((λ k. ordering_then (padded_cmp 8 x y) (padded_cmp (8 * n) (next a k) (next b k)))
    ∙ (sym (padded_append 8 (8 * n) x y) ∙ ap (λ (k : ℕ). padded_cmp k x y) (let e : 8 + 8 * n ≡ 8 * suc n = omega arith in e)))
  where
    next : (xs : List ℕ) → drop (8 * suc i) xs ≡ drop 8 (drop (8 * i) xs)
    next xs = ap (λ (k : ℕ). drop k xs) (let e : 8 * suc i ≡ 8 * i + 8 = omega arith in e) ∙ sym (drop-drop 8 (8 * i) xs)

-- the order of the words and then of the lengths is that of the bytes
pub words_then_lengths : (a b : List ℕ) → AreBytes a → AreBytes b → length a ≤ GREATEST_KEY → ordering_then (key_cmp (key_words a) (key_words b)) (nat_cmp (length a) (length b)) ≡ key_cmp a b
words_then_lengths a b s t le = ap (λ (o : Ordering). ordering_then o (nat_cmp (length a) (length b))) (rows_cmp a b 0 KEY_WORDS s t) ∙ by (padded_cmp GREATEST_KEY a b) refl
  where
    by : (o : Ordering) → padded_cmp GREATEST_KEY a b ≡ o → ordering_then o (nat_cmp (length a) (length b)) ≡ key_cmp a b
    by Less e = sym (padded_decides GREATEST_KEY a b Less e (λ f. cc))
    by Equal e = sym (lengths_decide GREATEST_KEY a b e (inl le))
    by Greater e = sym (padded_decides GREATEST_KEY a b Greater e (λ f. cc))
