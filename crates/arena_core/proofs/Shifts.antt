-- Words that are made by shifts, of fewer than eight bytes.
use Rattle.std.proofs.Common.{append-nil, ◌++◌, ◌≡◌, ℕ, zero, suc, ◌+◌, ◌-◌, ◌*◌, ◌/◌, ◌%◌, ◌^◌, ◌<◌, ◌≤◌, List, [], ◌∷◌, length, get_or, take, drop, sym, ap, ◌∙◌, subst, arith, w64}
use Rattle.std.specs.Int.{from_be_bytes}
use Rattle.oak_model.specs.WordBytes.{word_bytes}
use lib.ListN.{set}
use Rattle.arena_core.proofs.WordLaws.{words_step}
use Rattle.std.proofs.lemmas.List.{length-append, take_at, drop_all, get_or-append_right, take-append-drop, length-drop, length-take-le, take_all, drop-take, drop-drop, get_or-take, get_or-drop, get_or_past}
use mathlib.Core.Logic.{dite}
use native.Mathlib.Decide.{dec_lt}
use Rattle.arena_core.specs.Words.{bytes_in, word_at, word_of}

-- the number of the first j bytes, the first of them highest
unfoldable pub leading : List ℕ → ℕ → ℕ
leading bs zero = 0
leading bs (suc j) = leading bs j * 256 + get_or bs j 0

-- of at most seven bytes it is below 2 ^ 56
pub leading_small : (bs : List ℕ) → ((k : ℕ) → get_or bs k 0 < 256) → (j : ℕ) → j < 8 → leading bs j < 2 ^ 56
unfolding leading
leading_small bs small zero lt = omega arith
leading_small bs small (suc zero) lt = let a = small 0 in omega arith
leading_small bs small (suc (suc zero)) lt = let a = small 0 in let b = small 1 in omega arith
leading_small bs small (suc (suc (suc zero))) lt = let a = small 0 in let b = small 1 in let c = small 2 in omega arith
leading_small bs small (suc (suc (suc (suc zero)))) lt = let a = small 0 in let b = small 1 in let c = small 2 in let d = small 3 in omega arith
leading_small bs small (suc (suc (suc (suc (suc zero))))) lt = let a = small 0 in let b = small 1 in let c = small 2 in let d = small 3 in let e = small 4 in omega arith
leading_small bs small (suc (suc (suc (suc (suc (suc zero)))))) lt = let a = small 0 in let b = small 1 in let c = small 2 in let d = small 3 in let e = small 4 in let f = small 5 in omega arith
leading_small bs small (suc (suc (suc (suc (suc (suc (suc zero))))))) lt = let a = small 0 in let b = small 1 in let c = small 2 in let d = small 3 in let e = small 4 in let f = small 5 in let g = small 6 in omega arith
leading_small bs small (suc (suc (suc (suc (suc (suc (suc (suc j)))))))) lt = absurd (omega arith)

-- a few bytes, and zeros behind them
pub few_shifted : (bs : List ℕ) → 0 < length bs → length bs < 8 → leading bs (length bs) * 2 ^ (8 * (8 - length bs)) ≡ word_of bs
unfolding word_of leading
few_shifted [] some few = absurd (omega arith)
few_shifted (a ∷ []) some few = omega arith
few_shifted (a ∷ b ∷ []) some few = omega arith
few_shifted (a ∷ b ∷ c ∷ []) some few = omega arith
few_shifted (a ∷ b ∷ c ∷ d ∷ []) some few = omega arith
few_shifted (a ∷ b ∷ c ∷ d ∷ e ∷ []) some few = omega arith
few_shifted (a ∷ b ∷ c ∷ d ∷ e ∷ f ∷ []) some few = omega arith
few_shifted (a ∷ b ∷ c ∷ d ∷ e ∷ f ∷ g ∷ []) some few = omega arith
few_shifted (a ∷ b ∷ c ∷ d ∷ e ∷ f ∷ g ∷ h ∷ bs) some few = absurd (omega arith)

-- of eight bytes the last k, and zeros behind them
shifted_out : (a b c d e f g h : ℕ) → a < 256 → b < 256 → c < 256 → d < 256 → e < 256 → f < 256 → g < 256 → h < 256 → (k : ℕ) → 0 < k → k < 8
    → from_be_bytes w64 (a ∷ b ∷ c ∷ d ∷ e ∷ f ∷ g ∷ h ∷ []) * 2 ^ (8 * (8 - k)) % 2 ^ 64 ≡ word_of (drop (8 - k) (a ∷ b ∷ c ∷ d ∷ e ∷ f ∷ g ∷ h ∷ []))
unfolding word_of
shifted_out a b c d e f g h a' b' c' d' e' f' g' h' zero some few = absurd (omega arith)
shifted_out a b c d e f g h a' b' c' d' e' f' g' h' (suc zero) some few = omega arith
shifted_out a b c d e f g h a' b' c' d' e' f' g' h' (suc (suc zero)) some few = omega arith
shifted_out a b c d e f g h a' b' c' d' e' f' g' h' (suc (suc (suc zero))) some few = omega arith
shifted_out a b c d e f g h a' b' c' d' e' f' g' h' (suc (suc (suc (suc zero)))) some few = omega arith
shifted_out a b c d e f g h a' b' c' d' e' f' g' h' (suc (suc (suc (suc (suc zero))))) some few = omega arith
shifted_out a b c d e f g h a' b' c' d' e' f' g' h' (suc (suc (suc (suc (suc (suc zero)))))) some few = omega arith
shifted_out a b c d e f g h a' b' c' d' e' f' g' h' (suc (suc (suc (suc (suc (suc (suc zero))))))) some few = omega arith
shifted_out a b c d e f g h a' b' c' d' e' f' g' h' (suc (suc (suc (suc (suc (suc (suc (suc k)))))))) some few = absurd (omega arith)

pub last_shifted : (xs : List ℕ) (k : ℕ) → length xs ≡ 8 → ((j : ℕ) → get_or xs j 0 < 256) → 0 < k → k < 8
    → from_be_bytes w64 xs * 2 ^ (8 * (8 - k)) % 2 ^ 64 ≡ word_of (drop (8 - k) xs)
last_shifted [] k long small some few = absurd (omega arith)
last_shifted (a ∷ []) k long small some few = absurd (omega arith)
last_shifted (a ∷ b ∷ []) k long small some few = absurd (omega arith)
last_shifted (a ∷ b ∷ c ∷ []) k long small some few = absurd (omega arith)
last_shifted (a ∷ b ∷ c ∷ d ∷ []) k long small some few = absurd (omega arith)
last_shifted (a ∷ b ∷ c ∷ d ∷ e ∷ []) k long small some few = absurd (omega arith)
last_shifted (a ∷ b ∷ c ∷ d ∷ e ∷ f ∷ []) k long small some few = absurd (omega arith)
last_shifted (a ∷ b ∷ c ∷ d ∷ e ∷ f ∷ g ∷ []) k long small some few = absurd (omega arith)
last_shifted (a ∷ b ∷ c ∷ d ∷ e ∷ f ∷ g ∷ h ∷ []) k long small some few = shifted_out a b c d e f g h (small 0) (small 1) (small 2) (small 3) (small 4) (small 5) (small 6) (small 7) k some few
last_shifted (a ∷ b ∷ c ∷ d ∷ e ∷ f ∷ g ∷ h ∷ x ∷ xs) k long small some few = absurd (omega arith)

-- the last bytes, fewer than eight, as the last of the eight that end with them
module _ (bs : List ℕ) (i : ℕ) (begun : 8 * i < length bs) (few : length bs < 8 * i + 8) (whole : 8 ≤ length bs) where
  abbrev pub last_eight : List ℕ
  last_eight = take 8 (drop (length bs - 8) bs)

  eight_long : length last_eight ≡ 8
  eight_long = let d = length-drop (length bs - 8) bs in length-take-le 8 (drop (length bs - 8) bs) (omega arith)

  eight_small : ((k : ℕ) → get_or bs k 0 < 256) → (j : ℕ) → get_or last_eight j 0 < 256
  eight_small small j = dite (dec_lt j 8)
      (λ l. subst (λ (n : ℕ). n < 256) (sym (get_or-take 8 (drop (length bs - 8) bs) j 0 l ∙ get_or-drop (length bs - 8) bs j 0)) (small (length bs - 8 + j)))
      (λ n. let e = eight_long in subst (λ (n : ℕ). n < 256) (sym (get_or_past last_eight j 0 (omega arith))) (omega arith))

  last_of_eight : drop (8 - (length bs - 8 * i)) last_eight ≡ bytes_in i bs
  last_of_eight = let k : ℕ = length bs - 8 * i in let ys : List ℕ = drop (length bs - 8) bs in let d = length-drop (8 * i) bs in
      ap (λ (n : ℕ). drop (8 - k) (take n ys)) (let e : 8 ≡ (8 - k) + k = omega arith in e) ∙ (drop-take (8 - k) k ys
      ∙ (ap (take k) (drop-drop (8 - k) (length bs - 8) bs ∙ ap (λ (n : ℕ). drop n bs) (let e : length bs - 8 + (8 - k) ≡ 8 * i = omega arith in e))
      ∙ (take_all k (drop (8 * i) bs) (omega arith) ∙ sym (take_all 8 (drop (8 * i) bs) (omega arith)))))

  pub eight_shifted : ((k : ℕ) → get_or bs k 0 < 256) → from_be_bytes w64 last_eight * 2 ^ (8 * (8 - (length bs - 8 * i))) % 2 ^ 64 ≡ word_at bs i
  eight_shifted small = last_shifted last_eight (length bs - 8 * i) eight_long (eight_small small) (omega arith) (omega arith) ∙ ap word_of last_of_eight

-- the first bytes of a word, by its digits
pub shifted_digits : (w n : ℕ) → w < 2 ^ 64 → 0 < n → n < 8 → w / 2 ^ (8 * (8 - n)) * 2 ^ (8 * (8 - n)) % 2 ^ 64 ≡ word_of (take n (word_bytes w))
unfolding word_of
shifted_digits w zero lt some few = absurd (omega arith)
shifted_digits w (suc zero) lt some few = omega arith
shifted_digits w (suc (suc zero)) lt some few = omega arith
shifted_digits w (suc (suc (suc zero))) lt some few = omega arith
shifted_digits w (suc (suc (suc (suc zero)))) lt some few = omega arith
shifted_digits w (suc (suc (suc (suc (suc zero))))) lt some few = omega arith
shifted_digits w (suc (suc (suc (suc (suc (suc zero)))))) lt some few = omega arith
shifted_digits w (suc (suc (suc (suc (suc (suc (suc zero))))))) lt some few = omega arith
shifted_digits w (suc (suc (suc (suc (suc (suc (suc (suc n)))))))) lt some few = absurd (omega arith)

-- a byte of a word, by a shift
pub byte_shifted : (w j : ℕ) → j < 8 → w / 2 ^ (8 * (7 - j)) % 256 ≡ get_or (word_bytes w) j 0
byte_shifted w zero lt = omega arith
byte_shifted w (suc zero) lt = omega arith
byte_shifted w (suc (suc zero)) lt = omega arith
byte_shifted w (suc (suc (suc zero))) lt = omega arith
byte_shifted w (suc (suc (suc (suc zero)))) lt = omega arith
byte_shifted w (suc (suc (suc (suc (suc zero))))) lt = omega arith
byte_shifted w (suc (suc (suc (suc (suc (suc zero)))))) lt = omega arith
byte_shifted w (suc (suc (suc (suc (suc (suc (suc zero))))))) lt = omega arith
byte_shifted w (suc (suc (suc (suc (suc (suc (suc (suc j)))))))) lt = absurd (omega arith)

-- Bytes with those of a word over the last ones, fewer than eight; they are stored one by one.
abbrev pub with_word : List ℕ → (i word : ℕ) → List ℕ
with_word old i word = take (8 * i) old ++ take (length old - 8 * i) (word_bytes word)

module _ (old : List ℕ) (i word : ℕ) (begun : 8 * i < length old) (tail : length old < 8 * i + 8) where
  front_long : length (take (8 * i) old) ≡ 8 * i
  front_long = length-take-le (8 * i) old (omega arith)

  over_long : length (with_word old i word) ≡ length old
  over_long = let k : ℕ = length old - 8 * i in let f = front_long in let b = length-take-le k (word_bytes word) (let h : k ≤ 8 = omega arith in h) in
      let a = length-append (take (8 * i) old) (take k (word_bytes word)) in omega arith

  pub begin_over : old ≡ take (8 * i) (with_word old i word) ++ drop (8 * i) old
  begin_over = sym (take-append-drop (8 * i) old) ∙ ap (λ (xs : List ℕ). xs ++ drop (8 * i) old) (sym (take_at (take (8 * i) old) (take (length old - 8 * i) (word_bytes word)) (8 * i) front_long))

  pub step_over : (j : ℕ) → 8 * i ≤ j → j < length old → set (take j (with_word old i word) ++ drop j old) j (word / 2 ^ (8 * (8 * i + 7 - j)) % 256) ≡ take (suc j) (with_word old i word) ++ drop (suc j) old
  step_over j from lt = let k : ℕ = length old - 8 * i in let long = over_long in
      let here : get_or (with_word old i word) j 0 ≡ word / 2 ^ (8 * (8 * i + 7 - j)) % 256 = get_or-append_right (take (8 * i) old) (take k (word_bytes word)) (8 * i) j 0 front_long from
      ∙ (get_or-take k (word_bytes word) (j - 8 * i) 0 (omega arith) ∙ (sym (byte_shifted word (j - 8 * i) (omega arith)) ∙ ap (λ (n : ℕ). word / 2 ^ (8 * n) % 256) (let e : 7 - (j - 8 * i) ≡ 8 * i + 7 - j = omega arith in e))) in
      ap (set (take j (with_word old i word) ++ drop j old) j) (sym here) ∙ words_step (with_word old i word) old j (omega arith) (omega arith)

  pub end_over : (j : ℕ) → length old ≤ j → take (8 * i + 8) (take j (with_word old i word) ++ drop j old) ≡ (with_word old i word)
  end_over j past = let long = over_long in
      let all : take j (with_word old i word) ++ drop j old ≡ (with_word old i word) = ap (λ (xs : List ℕ). take j (with_word old i word) ++ xs) (drop_all j old past) ∙ (append-nil (take j (with_word old i word)) ∙ take_all j (with_word old i word) (omega arith)) in
      ap (take (8 * i + 8)) all ∙ take_all (8 * i + 8) (with_word old i word) (omega arith)
