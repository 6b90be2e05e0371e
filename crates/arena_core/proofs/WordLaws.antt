-- The words in which bytes stand, and the bytes that are copied out of words.
use Rattle.std.proofs.Common.{◌≡◌, ◌≢◌, ◌==◌, MatchBool, eqb-true, append-nil, ℕ, zero, suc, ◌+◌, ◌-◌, ◌*◌, ◌/◌, ◌^◌, ◌<◌, ◌≤◌, min, ⊎_elim, List, [], ◌∷◌, ◌++◌, length, get_or, take, drop, replicate, sym, refl, ap, ◌∙◌, subst, arith, w64, ◌%◌}
use Rattle.std.specs.Int.{from_be_bytes}
use Rattle.std.specs.List.{refill}
use Rattle.std.proofs.lemmas.List.{length-append, length-drop, length-take-le, length-take, length-replicate, take_all, take_at, take-take, drop_all, get_or-take, get_or-drop, get_or_append_left, get_or-append_right, get_or_past, drop-replicate}
use Rattle.std.proofs.lemmas.Nat.{be_bytes_8, from_be_bytes-to_be_bytes_8}
use Rattle.std.proofs.lemmas.Bool.{eqb-false}
use Rattle.oak_model.proofs.Counting.{test-cases}
use Rattle.std.proofs.Math.Nat.{min-eq_left}
use borrow.Rule.Slice.PartMut.{put_mid}
use lib.ListN.{set}
use mathlib.Core.Logic.{dite}
use native.Mathlib.Decide.{dec_lt}
use Rattle.oak_model.proofs.Lists.{rows_length, rows_at}
use Rattle.oak_model.specs.WordBytes.{word_bytes, bytes_of}
use Rattle.arena_core.specs.Words.{bytes_in, filled_up, word_at, words_of, word_of}
use Rattle.arena_core.proofs.ByteFacts.{Stand, stand, part_of, part_long, part_in, length-bytes_of, more_bytes, all_bytes, copied_more}
use Rattle.std.proofs.lemmas.Grind.{div_ceil_times}

-- how many words there are, and which

pub words_long : (bs : List ℕ) → length (words_of bs) ≡ (length bs + 7) / 8
unfolding words_of
words_long bs = rows_length 0 ((length bs + 7) / 8) (word_at bs)

pub words_at : (bs : List ℕ) (i : ℕ) → 8 * i < length bs → get_or (words_of bs) i 0 ≡ word_at bs i
unfolding words_of
words_at bs i lt = rows_at 0 ((length bs + 7) / 8) i (word_at bs) 0 (omega arith) ∙ ap (word_at bs) (let e : 0 + i ≡ i = omega arith in e)

-- a word that a loop over as many as there are comes to
pub word_of_loop : (len i n : ℕ) → i < n → n ≡ len / 8 + min 1 (len % 8) → 8 * i < len
word_of_loop len i n lt e = let d = div_ceil_times len 8 (omega arith) in let k : ℕ = len / 8 + min 1 (len % 8) in let d' : k * 8 < len + 8 = d.1 in let e' : n ≡ k = e in let r : 8 * i < len = omega arith in r

pub words_all : (len n : ℕ) → n ≡ len / 8 + min 1 (len % 8) → len ≤ 8 * n
words_all len n e = let d = div_ceil_times len 8 (omega arith) in let k : ℕ = len / 8 + min 1 (len % 8) in let d' : len ≤ k * 8 = d.0 in let e' : n ≡ k = e in let r : len ≤ 8 * n = omega arith in r

-- and which it has come to at the end
pub words_done : (bs : List ℕ) (i n : ℕ) → i ≤ n → n ≤ i → n ≡ length bs / 8 + min 1 (length bs % 8) → i ≡ length (words_of bs)
words_done bs i n le ge e = let d = div_ceil_times (length bs) 8 (omega arith) in let k : ℕ = length bs / 8 + min 1 (length bs % 8) in let l : length bs ≤ k * 8 = d.0 in let m : k * 8 < length bs + 8 = d.1 in let e' : n ≡ k = e in let f = words_long bs in omega arith

-- bytes written over eight zeros
pub over_zeros : (k : ℕ) (ys : List ℕ) → length ys ≡ k → put_mid 0 k (replicate 8 0) ys ≡ filled_up ys
over_zeros k ys e = ap (λ (zs : List ℕ). ys ++ zs) (drop-replicate k 8 0 ∙ ap (λ (n : ℕ). replicate (8 - n) 0) (sym e))

-- of a word's eight bytes those are copied for which there is room
pub as_many : (len i k : ℕ) → Stand len i k → (xs : List ℕ) → length xs ≡ 8 → take k xs ≡ take (len - 8 * i) xs
as_many len i k s xs e = let within = s.within in ⊎_elim
    (λ (f : k ≡ 8). take_all k xs (omega arith) ∙ sym (take_all (len - 8 * i) xs (omega arith)))
    (λ (f : 8 * i + k ≡ len). ap (λ (n : ℕ). take n xs) (let g : k ≡ len - 8 * i = omega arith in g)) s.all

pub word_put : (ws : List ℕ) (len i : ℕ) → 8 * i < len → len ≤ 8 * length ws → take (len - 8 * i) (word_bytes (get_or ws i 0)) ≡ bytes_in i (take len (bytes_of ws))
word_put ws len i lt room = let to : ℕ = min (8 * i + 8) len in let s : Stand len i (to - 8 * i) = stand len i to lt refl in
    sym (as_many len i (to - 8 * i) s (word_bytes (get_or ws i 0)) refl) ∙ sym (part_in len i (to - 8 * i) s ws room)

-- a loop that copies the bytes of words, word by word
pub put_more : (ws xs ys : List ℕ) (len i n : ℕ) → length xs ≡ len → 8 * i < len → len ≤ 8 * length ws → n ≡ get_or ws i 0
    → take (8 * i) xs ≡ take (8 * i) (take len (bytes_of ws)) → take (8 * i + 8) ys ≡ take (8 * i) xs ++ take (length xs - 8 * i) (word_bytes n)
    → take (8 * (i + 1)) ys ≡ take (8 * (i + 1)) (take len (bytes_of ws))
put_more ws xs ys len i n long lt room is before put = copied_more (take len (bytes_of ws)) xs ys i before
    (put ∙ ap (λ (zs : List ℕ). take (8 * i) xs ++ zs) ((λ j. take (long j - 8 * i) (word_bytes (is j))) ∙ word_put ws len i lt room))

-- a whole list that was lent, and that the borrower left as ws
pub refill_whole : (xs ws : List ℕ) → length ws ≡ length xs → refill (length xs) xs ws ≡ ws
refill_whole xs ws e = take_at ws (drop (length ws) xs) (length xs) e

-- a loop that stores words over others, one by one: us come over ws

pub words_step : (us ws : List ℕ) (i : ℕ) → i < length us → length us ≤ length ws → set (take i us ++ drop i ws) i (get_or us i 0) ≡ take (suc i) us ++ drop (suc i) ws
words_step [] ws i lt le = absurd (omega arith)
words_step (u ∷ us) [] i lt le = absurd (omega arith)
words_step (u ∷ us) (w ∷ ws) zero lt le = refl
words_step (u ∷ us) (w ∷ ws) (suc i) lt le = ap (λ (xs : List ℕ). u ∷ xs) (words_step us ws i (omega arith) (omega arith))

pub words_end : (us ws : List ℕ) (n : ℕ) → length us ≤ n → n ≤ length us → take n us ++ drop n ws ≡ us ++ drop (length us) ws
words_end us ws n le ge = ap (λ (k : ℕ). take k us ++ drop k ws) (let e : n ≡ length us = omega arith in e) ∙ ap (λ (xs : List ℕ). xs ++ drop (length us) ws) (take_all (length us) us (omega arith))

-- the bytes of bytes' words; bytes are numbers below 256

zeros_at : (n i : ℕ) → get_or (replicate {A = ℕ} n 0) i 0 ≡ zero
zeros_at zero i = refl
zeros_at (suc n) zero = refl
zeros_at (suc n) (suc i) = zeros_at n i

be_small : (xs : List ℕ) → ((k : ℕ) → get_or xs k 0 < 256) → from_be_bytes w64 xs < 2 ^ 64
be_small xs small = let a = small 0 in let b = small 1 in let c = small 2 in let d = small 3 in let e = small 4 in let f = small 5 in let g = small 6 in let h = small 7 in omega arith

module _ (bs : List ℕ) (small : (k : ℕ) → get_or bs k 0 < 256) (i : ℕ) where
  few : length (bytes_in i bs) ≤ 8
  few = let e = length-take 8 (drop (8 * i) bs) in omega arith

  full : length (filled_up (bytes_in i bs)) ≡ 8
  full = let x : ℕ = length (bytes_in i bs) in let zs : List ℕ = replicate (8 - x) 0 in let a : length (bytes_in i bs ++ zs) ≡ x + length zs = length-append (bytes_in i bs) zs in let b : length zs ≡ 8 - x = length-replicate (8 - x) 0 in let c : x ≤ 8 = few in omega arith

  part_small : (j : ℕ) → get_or (bytes_in i bs) j 0 < 256
  part_small j = dite (dec_lt j 8)
      (λ l. subst (λ (n : ℕ). n < 256) (sym (get_or-take 8 (drop (8 * i) bs) j 0 l ∙ get_or-drop (8 * i) bs j 0)) (small (8 * i + j)))
      (λ n. let f = few in subst (λ (n : ℕ). n < 256) (sym (get_or_past (bytes_in i bs) j 0 (omega arith))) (omega arith))

  filled_small : (j : ℕ) → get_or (filled_up (bytes_in i bs)) j 0 < 256
  filled_small j = let xs : List ℕ = bytes_in i bs in let zs : List ℕ = replicate (8 - length xs) 0 in dite (dec_lt j (length xs))
      (λ l. subst (λ (n : ℕ). n < 256) (sym (get_or_append_left xs zs 0 j l)) (part_small j))
      (λ n. subst (λ (n : ℕ). n < 256) (sym (get_or-append_right xs zs (length xs) j 0 refl (omega arith) ∙ zeros_at (8 - length xs) (j - length xs))) (omega arith))

  pub word_at-bytes : word_bytes (word_at bs i) ≡ filled_up (bytes_in i bs)
  unfolding word_of
  word_at-bytes = be_bytes_8 (filled_up (bytes_in i bs)) (word_at bs i) full filled_small refl

  -- of the bytes of the word those that are not zeros behind the last byte
  pub word_at-part : 8 * i < length bs → take (length bs - 8 * i) (word_bytes (word_at bs i)) ≡ bytes_in i bs
  word_at-part lt = let len : ℕ = length bs in let k : ℕ = min (8 * i + 8) len - 8 * i in let s : Stand len i k = stand len i (min (8 * i + 8) len) lt refl in let xs : List ℕ = bytes_in i bs in
      let long : length xs ≡ k = ap length (sym (part_of len i k s bs refl)) ∙ part_long len i k s bs refl in
      ap (take (len - 8 * i)) word_at-bytes ∙ (sym (as_many len i k s (filled_up xs) full) ∙ take_at xs (replicate (8 - length xs) 0) k long)

  pub word_small : word_at bs i < 2 ^ 64
  unfolding word_of
  word_small = be_small (filled_up (bytes_in i bs)) filled_small

  pub words_small : get_or (words_of bs) i 0 < 2 ^ 64
  words_small = dite (dec_lt (8 * i) (length bs))
      (λ l. subst (λ (n : ℕ). n < 2 ^ 64) (sym (words_at bs i l)) word_small)
      (λ n. subst (λ (n : ℕ). n < 2 ^ 64) (sym (get_or_past (words_of bs) i 0 (let e = words_long bs in omega arith))) (omega arith))

-- a whole word

pub whole_long : (bs : List ℕ) (i : ℕ) → 8 * i + 8 ≤ length bs → length (bytes_in i bs) ≡ 8
whole_long bs i le = let d = length-drop (8 * i) bs in length-take-le 8 (drop (8 * i) bs) (omega arith)

pub filled_whole : (xs : List ℕ) → length xs ≡ 8 → filled_up xs ≡ xs
filled_whole xs e = ap (λ (n : ℕ). xs ++ replicate (8 - n) 0) e ∙ append-nil xs

-- its bytes are those of a number where it is that number
pub whole_same : (bs : List ℕ) → ((k : ℕ) → get_or bs k 0 < 256) → (i n w : ℕ) → 8 * i + 8 ≤ length bs → n ≡ from_be_bytes w64 (bytes_in i bs) → w < 2 ^ 64
    → MatchBool (n == w) (bytes_in i bs ≡ take (length bs - 8 * i) (word_bytes w)) (bytes_in i bs ≢ take (length bs - 8 * i) (word_bytes w))
whole_same bs small i n w le is lt = let xs : List ℕ = bytes_in i bs in let long = whole_long bs i le in
    let all : take (length bs - 8 * i) (word_bytes w) ≡ word_bytes w = take_all (length bs - 8 * i) (word_bytes w) (let h : 8 ≤ length bs - 8 * i = omega arith in h) in
    test-cases (n == w) (λ t. MatchBool t (xs ≡ take (length bs - 8 * i) (word_bytes w)) (xs ≢ take (length bs - 8 * i) (word_bytes w)))
    (λ t. sym (be_bytes_8 xs w long (part_small bs small i) (sym (eqb-true n w t) ∙ is)) ∙ sym all)
    (λ f e. eqb-false n w f (is ∙ (ap (from_be_bytes w64) (e ∙ all) ∙ from_be_bytes-to_be_bytes_8 w lt)))

-- two lists with the same bytes in each word
pub by_words : (xs ys : List ℕ) → length xs ≡ length ys → ((i : ℕ) → 8 * i < length xs → bytes_in i xs ≡ bytes_in i ys) → xs ≡ ys
by_words xs ys e same = sym (all_bytes xs (length xs) (omega arith)) ∙ (first (length xs) ∙ all_bytes ys (length xs) (omega arith))
  where
    first : (n : ℕ) → take (8 * n) xs ≡ take (8 * n) ys
    first zero = refl
    first (suc n) = let here : bytes_in n xs ≡ bytes_in n ys = dite (dec_lt (8 * n) (length xs)) (λ l. same n l)
        (λ m. ap (take 8) (drop_all (8 * n) xs (omega arith) ∙ sym (drop_all (8 * n) ys (omega arith)))) in
        let f = first n in let s : 8 * suc n ≡ 8 * (n + 1) = omega arith in
        ap (λ (j : ℕ). take j xs) s ∙ (more_bytes xs n ∙ ((λ j. f j ++ here j) ∙ (sym (more_bytes ys n) ∙ ap (λ (j : ℕ). take j ys) (sym s))))

-- bytes that are stored as words, over others, are read again
pub value_back : (bs rest : List ℕ) → ((k : ℕ) → get_or bs k 0 < 256) → take (length bs) (bytes_of (words_of bs ++ rest)) ≡ bs
value_back bs rest small = let len : ℕ = length bs in let ws : List ℕ = words_of bs ++ rest in let n : ℕ = length (words_of bs) in
    let wide : length ws ≡ n + length rest = length-append (words_of bs) rest in let many : n ≡ (len + 7) / 8 = words_long bs in let all : length (bytes_of ws) ≡ 8 * length ws = length-bytes_of ws in
    let room : len ≤ 8 * length ws = omega arith in
    let long : length (take len (bytes_of ws)) ≡ len = length-take len (bytes_of ws) ∙ min-eq_left (let h : len ≤ length (bytes_of ws) = omega arith in h) in
    by_words (take len (bytes_of ws)) bs long (λ i l. let lt : 8 * i < len = subst (λ (j : ℕ). 8 * i < j) long l in
    sym (word_put ws len i lt room)
    ∙ (ap (λ (w : ℕ). take (len - 8 * i) (word_bytes w)) (get_or_append_left (words_of bs) rest 0 i (let h : i < n = omega arith in h) ∙ words_at bs i lt) ∙ word_at-part bs small i lt))

-- of bytes whose words are copied one by one, with others behind them, all have come where the words are all
pub all_copied : (bs rest xs : List ℕ) (len i : ℕ) → ((k : ℕ) → get_or bs k 0 < 256) → length bs ≤ len → length bs ≤ 8 * i → take (8 * i) xs ≡ take (8 * i) (take len (bytes_of (words_of bs ++ rest))) → take (length bs) xs ≡ bs
all_copied bs rest xs len i small short whole copied = let n : ℕ = length bs in let all_bytes : List ℕ = bytes_of (words_of bs ++ rest) in
    sym (take-take n (8 * i) xs whole) ∙ (ap (take n) copied ∙ (take-take n (8 * i) (take len all_bytes) whole ∙ (take-take n len all_bytes short ∙ value_back bs rest small)))

-- all bytes of a word make that word
pub whole_is : (word n : ℕ) → word < 2 ^ 64 → 8 ≤ n → word ≡ word_of (take n (word_bytes word))
unfolding word_of
whole_is word n lt le = sym (ap (from_be_bytes w64) (ap filled_up (take_all n (word_bytes word) le) ∙ filled_whole (word_bytes word) refl) ∙ from_be_bytes-to_be_bytes_8 word lt)

-- the bytes of a word are below 256
pub digits_small : (w k : ℕ) → get_or (word_bytes w) k 0 < 256
digits_small w zero = omega arith
digits_small w (suc zero) = omega arith
digits_small w (suc (suc zero)) = omega arith
digits_small w (suc (suc (suc zero))) = omega arith
digits_small w (suc (suc (suc (suc zero)))) = omega arith
digits_small w (suc (suc (suc (suc (suc zero))))) = omega arith
digits_small w (suc (suc (suc (suc (suc (suc zero)))))) = omega arith
digits_small w (suc (suc (suc (suc (suc (suc (suc zero))))))) = omega arith
digits_small w (suc (suc (suc (suc (suc (suc (suc (suc k)))))))) = omega arith

-- a number that stands for the first bytes of a word, fewer than eight, is that of the last bytes where these are the same
pub last_same : (bs : List ℕ) → ((k : ℕ) → get_or bs k 0 < 256) → (i n m w : ℕ) → 8 * i < length bs → length bs < 8 * i + 8 → n ≡ word_at bs i → m ≡ word_of (take (length bs - 8 * i) (word_bytes w))
    → MatchBool (n == m) (bytes_in i bs ≡ take (length bs - 8 * i) (word_bytes w)) (bytes_in i bs ≢ take (length bs - 8 * i) (word_bytes w))
last_same bs small i n m w lt tail is are = let k : ℕ = length bs - 8 * i in let ys : List ℕ = take k (word_bytes w) in
    let long : length ys ≡ k = length-take-le k (word_bytes w) (let h : k ≤ 8 = omega arith in h) in
    let own : bytes_in 0 ys ≡ ys = take_all 8 ys (omega arith) in
    let tiny : (j : ℕ) → get_or ys j 0 < 256 = λ j. dite (dec_lt j k)
    (λ l. subst (λ (x : ℕ). x < 256) (sym (get_or-take k (word_bytes w) j 0 l)) (digits_small w j))
    (λ o. subst (λ (x : ℕ). x < 256) (sym (get_or_past ys j 0 (omega arith))) (omega arith)) in
    let back : take k (word_bytes (word_of ys)) ≡ ys = ap (λ (x : ℕ). take x (word_bytes (word_of ys))) (let e : k ≡ length ys - 8 * 0 = omega arith in e) ∙ (ap (λ (zs : List ℕ). take (length ys - 8 * 0) (word_bytes (word_of zs))) (sym own) ∙ (word_at-part ys tiny 0 (omega arith) ∙ own)) in
    test-cases (n == m) (λ t. MatchBool t (bytes_in i bs ≡ ys) (bytes_in i bs ≢ ys))
    (λ t. sym (word_at-part bs small i lt) ∙ (ap (λ (x : ℕ). take k (word_bytes x)) (sym is ∙ eqb-true n m t ∙ are) ∙ back))
    (λ f e. eqb-false n m f (is ∙ (ap word_of e ∙ sym are)))
