-- The words that a table is laid with, header by header, come to be those of the opening.
use Rattle.std.proofs.Common.{set, replicate, length-set, get_or-set_same, get_or-set_other, ◌≢◌, ne_eqb, eq-eqb, ◌≡◌, ℕ, zero, suc, ◌+◌, ◌-◌, ◌*◌, ◌%◌, ◌<◌, cond, Bool, true, false, eqb, leb, ltb, ◌&&◌, List, length, get_or, sym, refl, ap, ◌∙◌, subst, arith}
use Rattle.std.proofs.lemmas.Bool.{le-leb, le-ltb, lt-ltb, lt-leb}
use mathlib.Core.Logic.{dite}
use native.Mathlib.Decide.{ℕ_discrete, dec_lt}
use Rattle.pin_word.specs.PinWord.{packed}
use Rattle.oak_model.specs.Limits.{Sizes}
use Rattle.oak_model.specs.Counts.{rows}
use Rattle.oak_model.proofs.Lists.{rows_length, rows_at, same_elements}
use Rattle.header_core.specs.declared.layout.TheConstants.{HEADER_WORDS}
use Rattle.oak_core.specs.Memory.{headers_at, rooms_at, word_count}
use Rattle.oak_core.specs.Opening.{opening_number, opening_words}

abbrev zeros : ℕ → List ℕ
zeros n = replicate n 0

zeros_length : (n : ℕ) → length (zeros n) ≡ n
zeros_length zero = refl
zeros_length (suc n) = ap suc (zeros_length n)

zeros_at : (n k : ℕ) → get_or (zeros n) k 0 ≡ 0
zeros_at zero k = refl
zeros_at (suc n) zero = refl
zeros_at (suc n) (suc k) = zeros_at n k

module _ (z : Sizes) (g : ℕ) where
  -- whether word k is the pin word of one of the first n headers
  abbrev is_pin : ℕ → ℕ → Bool
  is_pin n k = leb (headers_at z) k && (ltb k (headers_at z + n * HEADER_WORDS) && (eqb ((k - headers_at z) % HEADER_WORDS) 0))

  -- the number of word k where the first n headers are free at the generation
  abbrev pub laid_number : ℕ → ℕ → ℕ
  laid_number n k = cond (eqb k 0) 1 (cond (eqb k (rooms_at z)) (packed 0 1 0) (cond (is_pin n k) (packed g 0 0) 0))

  -- so far are the words laid
  pub record IsLaid (n : ℕ) (words : List ℕ) : Type 0 where
    pub long : length words ≡ word_count z
    pub each : (k : ℕ) → k < word_count z → get_or words k 0 ≡ laid_number n k

  none_last : (a b : Bool) → a && (b && false) ≡ false
  none_last true true = refl
  none_last true false = refl
  none_last false b = refl

  none_mid : (a c : Bool) → a && (false && c) ≡ false
  none_mid true c = refl
  none_mid false c = refl

  -- the next header is no other word's
  same_pin : (n k : ℕ) → k ≢ headers_at z + n * HEADER_WORDS → is_pin (suc n) k ≡ is_pin n k
  same_pin n k ne = let a : ℕ = headers_at z in dite (dec_lt k a)
      (λ below. ap (λ (t : Bool). t && (ltb k (a + suc n * 3) && eqb ((k - a) % 3) 0)) (lt-leb a k below) ∙ sym (ap (λ (t : Bool). t && (ltb k (a + n * 3) && eqb ((k - a) % 3) 0)) (lt-leb a k below)))
      (λ above. dite (dec_lt k (a + n * 3))
      (λ low. ap (λ (t : Bool). leb a k && (t && eqb ((k - a) % 3) 0)) (lt-ltb k (a + suc n * 3) (omega arith) ∙ sym (lt-ltb k (a + n * 3) low)))
      (λ high. dite (dec_lt k (a + suc n * 3))
      (λ amid. ap (λ (t : Bool). leb a k && (ltb k (a + suc n * 3) && t)) (ne_eqb ((k - a) % 3) 0 (λ e. ne (omega arith))) ∙ (none_last (leb a k) (ltb k (a + suc n * 3))
      ∙ (sym (none_last (leb a k) (ltb k (a + n * 3))) ∙ sym (ap (λ (t : Bool). leb a k && (ltb k (a + n * 3) && t)) (ne_eqb ((k - a) % 3) 0 (λ e. ne (omega arith)))))))
      (λ past. ap (λ (t : Bool). leb a k && (t && eqb ((k - a) % 3) 0)) (le-ltb k (a + suc n * 3) (omega arith) ∙ sym (le-ltb k (a + n * 3) (omega arith))))))

  pin_here : (n : ℕ) → is_pin (suc n) (headers_at z + n * HEADER_WORDS) ≡ true
  pin_here n = let a : ℕ = headers_at z in let k : ℕ = a + n * 3 in ap (λ (t : Bool). t && (ltb k (a + suc n * 3) && eqb ((k - a) % 3) 0)) (le-leb a k (omega arith))
      ∙ (ap (λ (t : Bool). t && eqb ((k - a) % 3) 0) (lt-ltb k (a + suc n * 3) (omega arith)) ∙ eq-eqb ((k - a) % 3) 0 (omega arith))

  no_pin : (k : ℕ) → is_pin 0 k ≡ false
  no_pin k = let a : ℕ = headers_at z in dite (dec_lt k a)
      (λ below. ap (λ (t : Bool). t && (ltb k (a + 0 * 3) && eqb ((k - a) % 3) 0)) (lt-leb a k below))
      (λ above. ap (λ (t : Bool). leb a k && (t && eqb ((k - a) % 3) 0)) (le-ltb k (a + 0 * 3) (omega arith)) ∙ none_mid (leb a k) (eqb ((k - a) % 3) 0))

  -- the number of word k where the test for the pin words says t
  abbrev by_test : ℕ → Bool → ℕ
  by_test k t = cond (eqb k 0) 1 (cond (eqb k (rooms_at z)) (packed 0 1 0) (cond t (packed g 0 0) 0))

  behind_first : (k : ℕ) (t : Bool) → k ≢ 0 → by_test k t ≡ cond (eqb k (rooms_at z)) (packed 0 1 0) (cond t (packed g 0 0) 0)
  behind_first k t ne = ap (λ (b : Bool). cond b 1 (cond (eqb k (rooms_at z)) (packed 0 1 0) (cond t (packed g 0 0) 0))) (ne_eqb k 0 ne)

  by_test_else : (k : ℕ) (t : Bool) → k ≢ 0 → k ≢ rooms_at z → by_test k t ≡ cond t (packed g 0 0) 0
  by_test_else k t ne nor = behind_first k t ne ∙ ap (λ (b : Bool). cond b (packed 0 1 0) (cond t (packed g 0 0) 0)) (ne_eqb k (rooms_at z) nor)

  -- before the first header
  pub none_laid : (ws : List ℕ) (n r x : ℕ) → n ≡ word_count z → r ≡ rooms_at z → x ≡ packed 0 1 0 → ws ≡ set (set (zeros n) 0 1) r x → IsLaid 0 ws
  none_laid ws n r x is_n is_r is_x e = subst (IsLaid 0) (sym (e ∙ (λ i. set (set (zeros (is_n i)) 0 1) (is_r i) (is_x i)))) record { long = long; each = each }
    where
      first : List ℕ
      first = set (zeros (word_count z)) 0 1

      first_long : length first ≡ word_count z
      first_long = length-set (zeros (word_count z)) 0 1 ∙ zeros_length (word_count z)

      long : length (set first (rooms_at z) (packed 0 1 0)) ≡ word_count z
      long = length-set first (rooms_at z) (packed 0 1 0) ∙ first_long

      each : (k : ℕ) → k < word_count z → get_or (set first (rooms_at z) (packed 0 1 0)) k 0 ≡ laid_number 0 k
      each k lt = dite (ℕ_discrete k (rooms_at z))
          (λ same. ap (λ (i : ℕ). get_or (set first (rooms_at z) (packed 0 1 0)) i 0) same ∙ (get_or-set_same first (rooms_at z) (packed 0 1 0) 0 (let l = first_long in omega arith)
          ∙ sym (behind_first k (is_pin 0 k) (λ q. omega arith) ∙ ap (λ (b : Bool). cond b (packed 0 1 0) (cond (is_pin 0 k) (packed g 0 0) 0)) (eq-eqb k (rooms_at z) same))))
          (λ ne. get_or-set_other first (rooms_at z) k (packed 0 1 0) 0 ne ∙ dite (ℕ_discrete k 0)
          (λ same. ap (λ (i : ℕ). get_or first i 0) same ∙ (get_or-set_same (zeros (word_count z)) 0 1 0 (let l = zeros_length (word_count z) in omega arith)
          ∙ sym (ap (λ (b : Bool). cond b 1 (cond (eqb k (rooms_at z)) (packed 0 1 0) (cond (is_pin 0 k) (packed g 0 0) 0))) (eq-eqb k 0 same))))
          (λ no. get_or-set_other (zeros (word_count z)) 0 k 1 0 no ∙ (zeros_at (word_count z) k ∙ sym (by_test_else k (is_pin 0 k) no ne ∙ ap (λ (t : Bool). cond t (packed g 0 0) 0) (no_pin k)))))

  -- one header more
  pub more_laid : (n : ℕ) (ws : List ℕ) (a p x : ℕ) → IsLaid n ws → n < z.headers → a ≡ headers_at z → p ≡ a + n * HEADER_WORDS → x ≡ packed g 0 0 → IsLaid (suc n) (set ws p x)
  more_laid n ws a p x laid lt is_a is_p is_x = subst (λ (t : ℕ × ℕ). IsLaid (suc n) (set ws t.0 t.1)) (λ i. (sym at i, sym is_x i)) record {
    long = length-set ws (headers_at z + n * 3) (packed g 0 0) ∙ laid.long;
    each = each;
  }
    where
      at : p ≡ headers_at z + n * HEADER_WORDS
      at = is_p ∙ ap (λ (b : ℕ). b + n * 3) is_a

      each : (k : ℕ) → k < word_count z → get_or (set ws (headers_at z + n * 3) (packed g 0 0)) k 0 ≡ laid_number (suc n) k
      each k inside = dite (ℕ_discrete k (headers_at z + n * 3))
          (λ same. ap (λ (i : ℕ). get_or (set ws (headers_at z + n * 3) (packed g 0 0)) i 0) same ∙ (get_or-set_same ws (headers_at z + n * 3) (packed g 0 0) 0 (let l = laid.long in omega arith)
          ∙ sym (by_test_else k (is_pin (suc n) k) (λ q. omega arith) (λ q. omega arith) ∙ ap (λ (t : Bool). cond t (packed g 0 0) 0) (ap (is_pin (suc n)) same ∙ pin_here n))))
          (λ ne. get_or-set_other ws (headers_at z + n * 3) k (packed g 0 0) 0 ne ∙ (laid.each k inside ∙ ap (by_test k) (sym (same_pin n k ne))))

  -- all headers
  pub all_laid : (n : ℕ) (ws : List ℕ) → n ≡ z.headers → IsLaid n ws → ws ≡ opening_words z g
  all_laid n ws is laid = same_elements ws (rows 0 (word_count z) (opening_number z g)) 0 (laid.long ∙ sym (rows_length 0 (word_count z) (opening_number z g)))
      (λ k lt. let l = laid.long in laid.each k (omega arith) ∙ (ap (λ (m : ℕ). by_test k (leb (headers_at z) k && (ltb k m && eqb ((k - headers_at z) % 3) 0))) (let e : headers_at z + n * 3 ≡ rooms_at z = omega arith in e)
      ∙ (ap (opening_number z g) (let q : k ≡ 0 + k = omega arith in q) ∙ sym (rows_at 0 (word_count z) k (opening_number z g) 0 (omega arith)))))
