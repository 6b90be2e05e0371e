-- Keys between two numbers, and their order by numbers.
use Rattle.std.proofs.Common.{◌≡◌, ℕ, ◌<◌, ◌≤◌, ◌&&◌, true, leb, ltb, List, refl, ap, ◌∙◌, arith}
use Rattle.std.proofs.lemmas.Bool.{and_parts, leb-true, ltb-true, le-leb, lt-ltb}
use Rattle.std.specs.Prelude.{MatchBool}
use Rattle.std.specs.Cmp.Lexicographic.{nat_list_cmp_total}
use Rattle.std.specs.Ordering.{is_eq, is_gt, ordering_reverse}
use Rattle.std.specs.declared.cmp.Ordering.{Ordering}
use Rattle.std.specs.declared.cmp.Ordering.TheVariants.{Less, Equal, Greater}
use Rattle.oak_model.specs.Key.{is_key, key_cmp}
use Rattle.oak_model.specs.KeyNumber.{key_number}
use Rattle.oak_model.proofs.KeyLaws.{is_key-is, same_is}
use Rattle.oak_model.proofs.NumberLaws.{key_before_is, key_number_is, key_number_rises}
use Rattle.scan_cursor.specs.Scanned.{within}

-- two keys of one number are one
pub one_key : (a b : List ℕ) → is_key a ≡ true → is_key b ≡ true → key_number a ≡ key_number b → a ≡ b
one_key a b c d e = let x = is_key-is a c in let y = is_key-is b d in key_number_is a b x.1 y.1 x.0 y.0 e

pub key_before : (a b : List ℕ) → is_key a ≡ true → is_key b ≡ true → key_number a < key_number b → key_cmp a b ≡ Less
key_before a b c d e = let x = is_key-is a c in let y = is_key-is b d in key_before_is a b x.1 y.1 x.0 y.0 e

-- what the test of a window says
pub record Window (from past : ℕ) (k : List ℕ) : Type 0 where
  pub key : is_key k ≡ true
  pub low : from ≤ key_number k
  pub high : key_number k < past

pub within_is : (from past : ℕ) (k : List ℕ) → within from past k ≡ true → Window from past k
within_is from past k e =
    let a = and_parts (is_key k) (leb from (key_number k) && ltb (key_number k) past) e in
    let b = and_parts (leb from (key_number k)) (ltb (key_number k) past) a.1 in
    record { key = a.0; low = leb-true from (key_number k) b.0; high = ltb-true (key_number k) past b.1 }

pub is_within : (from past : ℕ) (k : List ℕ) → is_key k ≡ true → from ≤ key_number k → key_number k < past → within from past k ≡ true
is_within from past k a b c = rw (a, le-leb from (key_number k) b, lt-ltb (key_number k) past c) refl

-- the order of two keys is that of their numbers
pub order_is : (a b : List ℕ) → is_key a ≡ true → is_key b ≡ true → MatchBool (is_gt (key_cmp a b)) (key_number b < key_number a) (key_number a ≤ key_number b)
order_is a b c d = by (key_cmp a b) refl
  where
    by : (o : Ordering) → key_cmp a b ≡ o → MatchBool (is_gt o) (key_number b < key_number a) (key_number a ≤ key_number b)
    by Less h = let x = is_key-is a c in let y = is_key-is b d in let t = key_number_rises a b x.1 y.1 y.0 h in omega arith
    by Equal h = let t = ap key_number (same_is a b (ap is_eq h)) in omega arith
    by Greater h = let x = is_key-is a c in let y = is_key-is b d in key_number_rises b a y.1 x.1 x.0 (nat_list_cmp_total.antisymm b a ∙ ap ordering_reverse h)
