-- Words in lower-case digits, and the bytes that they stand for.
use Rattle.std.proofs.Common.{◌≡◌, ℕ, zero, suc, ◌+◌, ◌*◌, ◌/◌, ◌%◌, ◌<◌, Bool, true, false, cond, ltb, eqb, List, [], ◌∷◌, length, Option, Some, None, Result, Ok, Err, refl, ap, sym, ◌∙◌, arith, ◌&&◌}
use Rattle.std.specs.Prelude.{slice_index}
use Rattle.std.specs.List.{list_all}
use Rattle.std.specs.Result.{result_unwrap_or}
use Rattle.std.proofs.lemmas.Bool.Decides.{nat_tests}
use Rattle.hex.specs.declared.error.FromHexError.{FromHexError}
use Rattle.hex.specs.Hex.{◌>>=◌, IsBytes, decode_of, decode_pairs, pair_value, value_at, digit_or_error, hex_digit_value, encode_lower, encode_with, lower_digits}
use Rattle.hex.proofs.HexLemmas.{decode_of-even, decode_of-ok, decode_of-encode_lower, length-encode_with}
use Rattle.hex.specs.Hex.{decode_sized}
use Rattle.hex.specs.Hex.{is_hex_digit as is_either_digit}
use Rattle.hex.proofs.HexLemmas.{decode_of-digits, decode_sized-twice}
use Rattle.std.proofs.lemmas.List.Sums.{AllPass-from_list_all}
use Rattle.oak_script.specs.Forms.{is_hex_digit, is_hex}
use Rattle.oak_script.specs.Stops.{ReadsWord}

bind_ok : {A B : Type 0} (r : Result A FromHexError) (f : A → Result B FromHexError) (y : B) → (r >>= f) ≡ Ok y → (x : A) × (r ≡ Ok x) × (f x ≡ Ok y)
bind_ok (Ok x) f y e = (x, refl, e)
bind_ok (Err d) f y e = absurd cc

-- the digit of a number below 16
glyph : (v : ℕ) → v < 16 → slice_index lower_digits v ≡ cond (ltb v 10) (48 + v) (87 + v)
glyph zero h = refl
glyph (suc zero) h = refl
glyph (suc (suc zero)) h = refl
glyph (suc (suc (suc zero))) h = refl
glyph (suc (suc (suc (suc zero)))) h = refl
glyph (suc (suc (suc (suc (suc zero))))) h = refl
glyph (suc (suc (suc (suc (suc (suc zero)))))) h = refl
glyph (suc (suc (suc (suc (suc (suc (suc zero))))))) h = refl
glyph (suc (suc (suc (suc (suc (suc (suc (suc zero)))))))) h = refl
glyph (suc (suc (suc (suc (suc (suc (suc (suc (suc zero))))))))) h = refl
glyph (suc (suc (suc (suc (suc (suc (suc (suc (suc (suc zero)))))))))) h = refl
glyph (suc (suc (suc (suc (suc (suc (suc (suc (suc (suc (suc zero))))))))))) h = refl
glyph (suc (suc (suc (suc (suc (suc (suc (suc (suc (suc (suc (suc zero)))))))))))) h = refl
glyph (suc (suc (suc (suc (suc (suc (suc (suc (suc (suc (suc (suc (suc zero))))))))))))) h = refl
glyph (suc (suc (suc (suc (suc (suc (suc (suc (suc (suc (suc (suc (suc (suc zero)))))))))))))) h = refl
glyph (suc (suc (suc (suc (suc (suc (suc (suc (suc (suc (suc (suc (suc (suc (suc zero))))))))))))))) h = refl
glyph (suc (suc (suc (suc (suc (suc (suc (suc (suc (suc (suc (suc (suc (suc (suc (suc n)))))))))))))))) h = absurd (omega arith)

value_low : (c v : ℕ) → is_hex_digit c ≡ true → hex_digit_value c ≡ Some v → (v < 16) × (c ≡ cond (ltb v 10) (48 + v) (87 + v))
value_low c v low h = (grind (arith, nat_tests), grind (arith, nat_tests))

digit_read : (c i : ℕ) (o : Option ℕ) (v : ℕ) → digit_or_error c i o ≡ Ok v → o ≡ Some v
digit_read c i (Some w) v h = cc
digit_read c i None v h = absurd cc

digit-back : (c i v : ℕ) → is_hex_digit c ≡ true → value_at c i ≡ Ok v → (v < 16) × (slice_index lower_digits v ≡ c)
digit-back c i v low h =
    let o = value_low c v low (digit_read c i (hex_digit_value c) v h) in
    (o.0, glyph v o.0 ∙ sym o.1)

and-left : (a b : Bool) → (a && b) ≡ true → a ≡ true
and-left true b e = refl
and-left false b e = absurd cc

and-right : (a b : Bool) → (a && b) ≡ true → b ≡ true
and-right true b e = e
and-right false b e = absurd cc

pairs-back : (i : ℕ) (s bytes : List ℕ) → list_all is_hex_digit s ≡ true → decode_pairs i s ≡ Ok bytes → encode_with lower_digits bytes ≡ s
unfolding decode_pairs encode_with
pairs-back i [] bytes low h = let e : [] ≡ bytes = cc in rw (← e) refl
pairs-back i (a ∷ []) bytes low h = absurd cc
pairs-back i (a ∷ b ∷ rest) bytes low h =
    let la = and-left (is_hex_digit a) (list_all is_hex_digit (b ∷ rest)) low in
    let lb = and-right (is_hex_digit a) (list_all is_hex_digit (b ∷ rest)) low in
    let p0 = bind_ok (pair_value a b i) _ bytes h in
    let p1 = bind_ok (value_at a i) _ p0.0 p0.1 in
    let p2 = bind_ok (value_at b (i + 1)) _ p0.0 p1.2 in
    let p3 = bind_ok (decode_pairs (i + 2) rest) _ bytes p0.2 in
    let ih = pairs-back (i + 2) rest p3.0 (and-right (is_hex_digit b) (list_all is_hex_digit rest) lb) p3.1 in
    let da = digit-back a i p1.0 la p1.1 in
    let db = digit-back b (i + 1) p2.0 (and-left (is_hex_digit b) (list_all is_hex_digit rest) lb) p2.1 in
    let e : p0.0 ∷ p3.0 ≡ bytes = ap (λ (r : Result (List ℕ) FromHexError). result_unwrap_or r []) p3.2 in
    let byte : p1.0 * 16 + p2.0 ≡ p0.0 = ap (λ (r : Result ℕ FromHexError). result_unwrap_or r 0) p2.2 in
    let high : p0.0 / 16 ≡ p1.0 = omega (arith, da.0, db.0) in
    let low_part : p0.0 % 16 ≡ p2.0 = omega (arith, da.0, db.0) in
    rw (← e, high, low_part, da.1, db.1, ih) refl

-- what is read of a word in lower-case digits is written so
pub hex-back : (word bytes : List ℕ) → is_hex word ≡ true → decode_of word ≡ Ok bytes → encode_lower bytes ≡ word
hex-back word bytes h e =
    let ok = decode_of-ok word bytes e in
    pairs-back 0 word bytes (and-right (eqb (length word % 2) 0) (list_all is_hex_digit word) h) (sym (decode_of-even word ok.0) ∙ e)

-- ---- words that are written

glyph-digit : (v : ℕ) → v < 16 → is_hex_digit (slice_index lower_digits v) ≡ true
glyph-digit zero h = refl
glyph-digit (suc zero) h = refl
glyph-digit (suc (suc zero)) h = refl
glyph-digit (suc (suc (suc zero))) h = refl
glyph-digit (suc (suc (suc (suc zero)))) h = refl
glyph-digit (suc (suc (suc (suc (suc zero))))) h = refl
glyph-digit (suc (suc (suc (suc (suc (suc zero)))))) h = refl
glyph-digit (suc (suc (suc (suc (suc (suc (suc zero))))))) h = refl
glyph-digit (suc (suc (suc (suc (suc (suc (suc (suc zero)))))))) h = refl
glyph-digit (suc (suc (suc (suc (suc (suc (suc (suc (suc zero))))))))) h = refl
glyph-digit (suc (suc (suc (suc (suc (suc (suc (suc (suc (suc zero)))))))))) h = refl
glyph-digit (suc (suc (suc (suc (suc (suc (suc (suc (suc (suc (suc zero))))))))))) h = refl
glyph-digit (suc (suc (suc (suc (suc (suc (suc (suc (suc (suc (suc (suc zero)))))))))))) h = refl
glyph-digit (suc (suc (suc (suc (suc (suc (suc (suc (suc (suc (suc (suc (suc zero))))))))))))) h = refl
glyph-digit (suc (suc (suc (suc (suc (suc (suc (suc (suc (suc (suc (suc (suc (suc zero)))))))))))))) h = refl
glyph-digit (suc (suc (suc (suc (suc (suc (suc (suc (suc (suc (suc (suc (suc (suc (suc zero))))))))))))))) h = refl
glyph-digit (suc (suc (suc (suc (suc (suc (suc (suc (suc (suc (suc (suc (suc (suc (suc (suc n)))))))))))))))) h = absurd (omega arith)

digits-written : (bytes : List ℕ) → IsBytes bytes → list_all is_hex_digit (encode_with lower_digits bytes) ≡ true
unfolding encode_with
digits-written [] h = refl
digits-written (b ∷ rest) h =
    let fits : b < 256 = h 0 in
    rw (glyph-digit (b / 16) (omega arith), glyph-digit (b % 16) (omega arith)) (digits-written rest (λ k. h (suc k)))

pub length-written : (bytes : List ℕ) → length (encode_lower bytes) ≡ 2 * length bytes
length-written bytes = length-encode_with lower_digits bytes

pub hex-written : (bytes : List ℕ) → IsBytes bytes → is_hex (encode_lower bytes) ≡ true
hex-written bytes h =
    let even : length (encode_lower bytes) % 2 ≡ 0 = omega (arith, length-written bytes) in
    rw (even, digits-written bytes h) refl

abbrev decoded : List ℕ → Result (List ℕ) FromHexError
decoded bytes = Ok bytes

pub written-injective : (a b : List ℕ) → IsBytes a → IsBytes b → encode_lower a ≡ encode_lower b → a ≡ b
written-injective a b ha hb e =
    let same : decoded a ≡ decoded b = sym (decode_of-encode_lower a ha) ∙ ap decode_of e ∙ decode_of-encode_lower b hb in
    cc

-- ---- words that are read

either : (c : ℕ) → is_hex_digit c ≡ true → is_either_digit c ≡ true
either c low = grind (arith, nat_tests)

all_either : (w : List ℕ) → list_all is_hex_digit w ≡ true → list_all is_either_digit w ≡ true
all_either [] h = refl
all_either (c ∷ w) h = rw (either c (and-left (is_hex_digit c) (list_all is_hex_digit w) h), all_either w (and-right (is_hex_digit c) (list_all is_hex_digit w) h)) refl

even_from : (n : ℕ) → eqb (n % 2) 0 ≡ true → n % 2 ≡ 0
even_from n h = grind (arith, nat_tests)

-- an even number of digits spells bytes
pub hex-read : (word : List ℕ) → is_hex word ≡ true → (bytes : List ℕ) × (decode_of word ≡ Ok bytes) × ReadsWord bytes word
hex-read word h =
    let even = even_from (length word) (and-left (eqb (length word % 2) 0) (list_all is_hex_digit word) h) in
    let r = decode_of-digits word even (AllPass-from_list_all is_either_digit word (all_either word (and-right (eqb (length word % 2) 0) (list_all is_hex_digit word) h))) in
    let ok = decode_of-ok word r.0 r.1 in
    (r.0, r.1, record { spelled = hex-back word r.0 h r.1; in_range = ok.3; twice = ok.2 })

two_from : (n : ℕ) (b : Bool) → (eqb n 2 && b) ≡ true → (n ≡ 2) × (b ≡ true)
two_from n b h = (by_two (and-left (eqb n 2) b h), and-right (eqb n 2) b h)
  where
    by_two : eqb n 2 ≡ true → n ≡ 2
    by_two e = grind (arith, nat_tests)

-- two digits spell a byte
pub byte-read : (word : List ℕ) → (eqb (length word) 2 && is_hex word) ≡ true → (b : ℕ) × (decode_sized word 1 ≡ Ok (b ∷ [])) × (encode_lower (b ∷ []) ≡ word) × (b < 256)
byte-read word h =
    let p = two_from (length word) (is_hex word) h in
    let r = hex-read word p.1 in
    by r.0 (decode_sized-twice word 1 p.0 ∙ r.1) r.2.spelled r.2.in_range (omega (arith, p.0, r.2.twice))
  where
    by : (bytes : List ℕ) → decode_sized word 1 ≡ Ok bytes → encode_lower bytes ≡ word → IsBytes bytes → length bytes ≡ 1 → (b : ℕ) × (decode_sized word 1 ≡ Ok (b ∷ [])) × (encode_lower (b ∷ []) ≡ word) × (b < 256)
    by [] d e f len = absurd (omega (arith, len))
    by (b ∷ []) d e f len = (b, d, e, f 0)
    by (b ∷ c ∷ bs) d e f len = absurd (omega (arith, len))
