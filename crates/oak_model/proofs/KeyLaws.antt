-- When two keys are one, and which lists are keys.
use Rattle.std.proofs.Common.{◌≡◌, ℕ, zero, suc, ◌<◌, ◌&&◌, Bool, true, false, leb, ltb, List, [], ◌∷◌, length, refl, ap, sym, ◌∙◌, arith}
use Rattle.std.proofs.lemmas.Bool.{ltb-true, lt-ltb, leb-true, le-leb, and_parts}
use Rattle.std.specs.Ordering.{is_eq}
use Rattle.std.specs.Cmp.Lexicographic.{nat_list_cmp_total}
use Rattle.std.proofs.lemmas.Cmp.{tied_itself}
use Rattle.std.proofs.lemmas.Map.Text.{is_eq-slice_cmp}
use Rattle.std.proofs.lemmas.Slice.Eq.{bytes_eq-Decides}
use Rattle.oak_model.specs.declared.limits.TheConstants.{GREATEST_KEY}
use Rattle.oak_model.specs.Key.{same_key, IsKey, AreBytes, are_bytes, is_key}

pub same_itself : (k : List ℕ) → same_key k k ≡ true
same_itself k = ap is_eq (tied_itself nat_list_cmp_total k)

pub same_is : (a b : List ℕ) → same_key a b ≡ true → a ≡ b
same_is a b e = (bytes_eq-Decides a b).0 (sym (is_eq-slice_cmp a b) ∙ e)

-- ---- the test of a key

are_bytes-is : (k : List ℕ) → are_bytes k ≡ true → AreBytes k
are_bytes-is [] e i = omega arith
are_bytes-is (x ∷ xs) e zero = ltb-true x 256 (and_parts (ltb x 256) (are_bytes xs) e).0
are_bytes-is (x ∷ xs) e (suc i) = are_bytes-is xs (and_parts (ltb x 256) (are_bytes xs) e).1 i

are_bytes-of : (k : List ℕ) → AreBytes k → are_bytes k ≡ true
are_bytes-of [] b = refl
are_bytes-of (x ∷ xs) b = rw (lt-ltb x 256 (b 0)) (are_bytes-of xs (λ i. b (suc i)))

pub is_key-is : (k : List ℕ) → is_key k ≡ true → IsKey k × AreBytes k
is_key-is k e =
    let some = and_parts (ltb 0 (length k)) (leb (length k) GREATEST_KEY && are_bytes k) e in
    let few = and_parts (leb (length k) GREATEST_KEY) (are_bytes k) some.1 in
    ((ltb-true 0 (length k) some.0, leb-true (length k) GREATEST_KEY few.0), are_bytes-is k few.1)

pub is_key-of : (k : List ℕ) → IsKey k → AreBytes k → is_key k ≡ true
is_key-of k is b = rw (lt-ltb 0 (length k) is.0, le-leb (length k) GREATEST_KEY is.1) (are_bytes-of k b)

-- of a list of bytes that is not empty the length alone says it
pub is_key-bytes : (k : List ℕ) → 0 < length k → AreBytes k → leb (length k) GREATEST_KEY ≡ is_key k
is_key-bytes k some b = rw (lt-ltb 0 (length k) some, are_bytes-of k b) (by (leb (length k) GREATEST_KEY))
  where
    by : (a : Bool) → a ≡ (a && true)
    by true = refl
    by false = refl
