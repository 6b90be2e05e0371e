-- The bytes of words, eight by eight.
use Rattle.std.proofs.Common.{◌≡◌, ℕ, zero, suc, ◌+◌, ◌-◌, ◌*◌, ◌/◌, ◌%◌, ◌<◌, ◌≤◌, List, [], ◌∷◌, ◌++◌, length, get_or, take, drop, Fits, w8, sym, refl, ap, ◌∙◌, subst, arith}
use Rattle.std.proofs.lemmas.List.{length-append, length-take, length-take-le, drop-take, drop-drop, get_or-take, get_or-drop, get_or_past}
use mathlib.Core.Logic.{dite}
use native.Mathlib.Decide.{dec_lt}
use Rattle.oak_model.specs.Key.{AreBytes}
use Rattle.oak_model.specs.WordBytes.{word_bytes, bytes_of}
use Rattle.arena_core.specs.Words.{bytes_in}

pub length-bytes_of : (ns : List ℕ) → length (bytes_of ns) ≡ 8 * length ns
unfolding bytes_of
length-bytes_of [] = refl
length-bytes_of (n ∷ ns) = let e = length-append (word_bytes n) (bytes_of ns) in let r = length-bytes_of ns in let x : ℕ = length (bytes_of ns) in let e' : length (word_bytes n ++ bytes_of ns) ≡ 8 + x = e in omega arith

-- the bytes of one word
pub word_in : (ns : List ℕ) (i : ℕ) → i < length ns → bytes_in i (bytes_of ns) ≡ word_bytes (get_or ns i 0)
unfolding bytes_of
word_in [] i lt = absurd (omega arith)
word_in (n ∷ ns) zero lt = refl
word_in (n ∷ ns) (suc i) lt = ap (take 8) (ap (λ (k : ℕ). drop k (bytes_of (n ∷ ns))) (let e : 8 * suc i ≡ 8 + 8 * i = omega arith in e) ∙ sym (drop-drop (8 * i) 8 (bytes_of (n ∷ ns)))) ∙ word_in ns i (omega arith)

-- of the first bytes those that stand in one word
pub word_part : (ns : List ℕ) (len i : ℕ) → 8 * i < len → len ≤ 8 * length ns → take (len - 8 * i) (word_bytes (get_or ns i 0)) ≡ bytes_in i (take len (bytes_of ns))
word_part ns len i lt room = let b : List ℕ = bytes_of ns in let k : ℕ = len - 8 * i in
    ap (take k) (sym (word_in ns i (omega arith)))
    ∙ (take_swap k 8 (drop (8 * i) b)
    ∙ ap (take 8) (sym (ap (λ (j : ℕ). drop (8 * i) (take j b)) (let e : len ≡ 8 * i + k = omega arith in e) ∙ drop-take (8 * i) k b)))
  where
    take_swap : (m n : ℕ) (xs : List ℕ) → take m (take n xs) ≡ take n (take m xs)
    take_swap zero zero xs = refl
    take_swap zero (suc n) xs = refl
    take_swap (suc m) zero xs = refl
    take_swap (suc m) (suc n) [] = refl
    take_swap (suc m) (suc n) (x ∷ xs) = ap (λ (l : List ℕ). x ∷ l) (take_swap m n xs)

-- one of the bytes
pub byte_in : (ns : List ℕ) (len i : ℕ) → i < len → len ≤ 8 * length ns → get_or (word_bytes (get_or ns (i / 8) 0)) (i % 8) 0 ≡ get_or (take len (bytes_of ns)) i 0
byte_in ns len i lt room = let q : ℕ = i / 8 in let r : ℕ = i % 8 in let e : 8 * q + r ≡ i = omega arith in let small : r < 8 = omega arith in
    ap (λ (xs : List ℕ). get_or xs r 0) (sym (word_in ns q (omega arith)))
    ∙ (get_or-take 8 (drop (8 * q) (bytes_of ns)) r 0 small
    ∙ (get_or-drop (8 * q) (bytes_of ns) r 0 ∙ (ap (λ (j : ℕ). get_or (bytes_of ns) j 0) e ∙ sym (get_or-take len (bytes_of ns) i 0 lt))))

-- each is one

bytes_small : (ns : List ℕ) → AreBytes (bytes_of ns)
unfolding bytes_of
bytes_small [] i = omega arith
bytes_small (n ∷ ns) zero = omega arith
bytes_small (n ∷ ns) (suc zero) = omega arith
bytes_small (n ∷ ns) (suc (suc zero)) = omega arith
bytes_small (n ∷ ns) (suc (suc (suc zero))) = omega arith
bytes_small (n ∷ ns) (suc (suc (suc (suc zero)))) = omega arith
bytes_small (n ∷ ns) (suc (suc (suc (suc (suc zero))))) = omega arith
bytes_small (n ∷ ns) (suc (suc (suc (suc (suc (suc zero)))))) = omega arith
bytes_small (n ∷ ns) (suc (suc (suc (suc (suc (suc (suc zero))))))) = omega arith
bytes_small (n ∷ ns) (suc (suc (suc (suc (suc (suc (suc (suc i)))))))) = bytes_small ns i

pub part_small : (len : ℕ) (ns : List ℕ) → AreBytes (take len (bytes_of ns))
part_small len ns i = dite (dec_lt i len)
    (λ l. subst (λ (n : ℕ). n < 256) (sym (get_or-take len (bytes_of ns) i 0 l)) (bytes_small ns i))
    (λ n. let e = length-take len (bytes_of ns) in subst (λ (n : ℕ). n < 256) (sym (get_or_past (take len (bytes_of ns)) i 0 (let x : ℕ = length (bytes_of ns) in omega arith))) (omega arith))

pub part_long : (len : ℕ) (ns : List ℕ) → len ≤ 8 * length ns → length (take len (bytes_of ns)) ≡ len
part_long len ns room = let b = length-bytes_of ns in length-take-le len (bytes_of ns) (omega arith)

-- what a slice's type says of its elements
pub slice_bytes : (k : List ℕ) → ((i : ℕ) → Fits w8 (get_or k i 0)) → AreBytes k
slice_bytes k h i = omega (arith, h i)
