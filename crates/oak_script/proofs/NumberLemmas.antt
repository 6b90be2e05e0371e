-- What a decimal word spells.
use Rattle.std.proofs.Common.{◌≡◌, ℕ, ◌^◌, ◌<◌, ◌≤◌, ◌⊎◌, Bool, true, false, ◌&&◌, not, eqb, ltb, leb, List, [], ◌∷◌, length, get_or, Result, Ok, Err, refl, sym, ap, subst, ◌∙◌, arith, inl, inr}
use Rattle.std.specs.Prelude.{IfSome, is_some}
use Rattle.std.specs.Result.{result_ok, OkIff}
use Rattle.std.specs.List.{list_all}
use Rattle.std.specs.Char.{is_ascii_digit}
use Rattle.std.specs.Fmt.{decimal}
use Rattle.std.specs.Str.{all_ascii_digits}
use Rattle.std.specs.Str.Parse.{digits_value, ParsesUnsigned}
use Rattle.std.proofs.lemmas.Bool.{cases_lt}
use Rattle.std.proofs.lemmas.Bool.Decides.{nat_tests}
use Rattle.std.proofs.lemmas.Str.Parse.{IsNumeralModel, numerals_by_value, tells_all_ascii_digits, parse_digits}
use Rattle.std.proofs.lemmas.Fmt.{decimal-digits_value, digits_decimal, digits_value-decimal, first_decimal, decimal_nonempty, decimal_digit}
use Rattle.std.specs.Str.{IsUtf8}
use Rattle.std.proofs.lemmas.Str.{IsUtf8-from_ascii}
use Rattle.std.proofs.lemmas.Fmt.{IsAscii-from_digits}
use Rattle.oak_script.specs.Numbers.{is_decimal, is_number, is_number_in}

own : IsNumeralModel (λ ds. all_ascii_digits ds ≡ true) (digits_value 10)
own = numerals_by_value _ tells_all_ascii_digits

all_same : (w : List ℕ) → list_all is_ascii_digit w ≡ all_ascii_digits w
all_same [] = refl
all_same (b ∷ w) = ap (λ (t : Bool). is_ascii_digit b && t) (all_same w)

pub record Decimal (w : List ℕ) : Type 0 where
  pub digits : all_ascii_digits w ≡ true
  pub some : 0 < length w
  pub canonical : get_or w 0 0 ≡ 48 → length w ≡ 1

and-both : (a b : Bool) → (a && b) ≡ true → (a ≡ true) × (b ≡ true)
and-both true true e = (refl, refl)
and-both true false e = absurd cc
and-both false b e = absurd cc

pub decided : (w : List ℕ) → is_decimal w ≡ true → Decimal w
decided [] e = absurd cc
decided (b ∷ []) e = record { digits = sym (all_same (b ∷ [])) ∙ e; some = omega arith; canonical = λ _. refl }
decided (b ∷ c ∷ more) e =
    let p = and-both (not (eqb b 48)) (list_all is_ascii_digit (b ∷ c ∷ more)) e in
    record { digits = sym (all_same (b ∷ c ∷ more)) ∙ p.1; some = omega arith; canonical = λ is. absurd (by (eqb b 48) refl p.0 is) }
  where
    by : (t : Bool) → eqb b 48 ≡ t → not t ≡ true → b ≡ 48 → ⊥
    by true e n is = cc
    by false e n is = grind (arith, nat_tests)

-- the answer of `parse`
pub spelled : {E : Type 0} (w : List ℕ) (r : Result ℕ E) → Decimal w → ParsesUnsigned 64 10 w r → IfSome (result_ok r) (λ n. decimal n ≡ w)
spelled w r d h = by r (parse_digits own 64 w r h d.digits)
  where
    by : {E : Type 0} (s : Result ℕ E) → OkIff s ((0 < length w) × (digits_value 10 w < 2 ^ 64)) (digits_value 10 w) → IfSome (result_ok s) (λ n. decimal n ≡ w)
    by (Ok n) o = rw o.1 (decimal-digits_value own w d.digits d.some d.canonical o.0.1)
    by (Err e) o = tt

pub found : {E : Type 0} (w : List ℕ) (r : Result ℕ E) → is_decimal w ≡ true → ParsesUnsigned 64 10 w r → is_some (result_ok r) ≡ is_number w
found w r e h = let d = decided w e in rw e (by r (parse_digits own 64 w r h d.digits) d.some)
  where
    by : {E : Type 0} (s : Result ℕ E) → OkIff s ((0 < length w) × (digits_value 10 w < 2 ^ 64)) (digits_value 10 w) → 0 < length w → is_some (result_ok s) ≡ ltb (digits_value 10 w) (2 ^ 64)
    by (Ok n) o some = let lt = o.0.1 in grind (arith, nat_tests)
    by (Err x) o some = elim (cases_lt (digits_value 10 w) (2 ^ 64)) [ inl lt ↦ absurd (o (some, lt)) | inr ge ↦ grind (arith, nat_tests) ]

is_decimal-from : (w : List ℕ) → Decimal w → is_decimal w ≡ true
is_decimal-from [] d = absurd (omega (arith, d.some))
is_decimal-from (b ∷ []) d = all_same (b ∷ []) ∙ d.digits
is_decimal-from (b ∷ c ∷ more) d =
    let n : eqb b 48 ≡ false = by (eqb b 48) refl in
    rw (n, all_same (b ∷ c ∷ more)) d.digits
  where
    by : (t : Bool) → eqb b 48 ≡ t → t ≡ false
    by true e = let is : b ≡ 48 = grind (arith, nat_tests) in absurd (omega (arith, d.canonical is))
    by false e = refl

lt-test : (m : ℕ) → m < 2 ^ 64 → ltb m (2 ^ 64) ≡ true
lt-test m h = grind (arith, nat_tests)

lt-from : (m : ℕ) → ltb m (2 ^ 64) ≡ true → m < 2 ^ 64
lt-from m h = grind (arith, nat_tests)

-- what is written is a number, and no empty word
pub written : (n : ℕ) → n < 2 ^ 64 → (is_number (decimal n) ≡ true) × (0 < length (decimal n))
written n lt =
    let some = decimal_nonempty n lt in
    let d : Decimal (decimal n) = record { digits = digits_decimal own n lt; some = some; canonical = once (cases_lt 0 n) } in
    let v = digits_value-decimal own n lt in
    let small : ltb (digits_value 10 (decimal n)) (2 ^ 64) ≡ true = rw v (lt-test n lt) in
    (rw (is_decimal-from (decimal n) d, small) refl, some)
  where
    once : (0 < n) ⊎ (n ≤ 0) → get_or (decimal n) 0 0 ≡ 48 → length (decimal n) ≡ 1
    once (inl pos) e = absurd (omega (arith, first_decimal n pos lt))
    once (inr zero_) e = let z : n ≡ 0 = omega arith in rw z (ap length (decimal_digit 0 (omega arith)))

-- the number that a word spells is its digits' value
pub read_value : (w : List ℕ) → is_number w ≡ true → (decimal (digits_value 10 w) ≡ w) × (digits_value 10 w < 2 ^ 64)
read_value w e =
    let p = and-both (is_decimal w) (ltb (digits_value 10 w) (2 ^ 64)) e in
    let d = decided w p.0 in
    let lt = lt-from (digits_value 10 w) p.1 in
    (decimal-digits_value own w d.digits d.some d.canonical lt, lt)

-- a number is written so
pub read : (w : List ℕ) → is_number w ≡ true → (n : ℕ) × (decimal n ≡ w) × (n < 2 ^ 64)
read w e = let r = read_value w e in (digits_value 10 w, r.0, r.1)

pub value_written : (n : ℕ) → n < 2 ^ 64 → digits_value 10 (decimal n) ≡ n
value_written n lt = digits_value-decimal own n lt

pub decimal-injective : (m n : ℕ) → m < 2 ^ 64 → n < 2 ^ 64 → decimal m ≡ decimal n → m ≡ n
decimal-injective m n hm hn e = sym (digits_value-decimal own m hm) ∙ ap (digits_value 10) e ∙ digits_value-decimal own n hn

pub is_utf8 : (w : List ℕ) → is_decimal w ≡ true → IsUtf8 w
is_utf8 w e = IsUtf8-from_ascii w (IsAscii-from_digits w (own.to w (decided w e).digits))

-- what a word of a number says of a range
pub in_range : (low high n : ℕ) (w : List ℕ) → n < 2 ^ 64 → decimal n ≡ w → is_number_in low high w ≡ (leb low n && leb n high)
in_range low high n w lt e =
    let is : is_number w ≡ true = subst (λ (v : List ℕ). is_number v ≡ true) e (written n lt).0 in
    let value : digits_value 10 w ≡ n = subst (λ (v : List ℕ). digits_value 10 v ≡ n) e (value_written n lt) in
    rw (is, value) refl
