-- The bytes of words, eight by eight.
use Rattle.std.proofs.Common.{◌≡◌, ℕ, zero, suc, ◌+◌, ◌-◌, ◌*◌, ◌/◌, ◌%◌, ◌^◌, ◌<◌, ◌≤◌, min, ◌⊎◌, inl, inr, ⊎_elim, List, [], ◌∷◌, ◌++◌, length, get_or, take, drop, sym, refl, ap, ◌∙◌, arith, w64, append-nil}
use Rattle.std.specs.Int.{from_be_bytes}
use Rattle.std.specs.List.{slice_range}
use Rattle.std.proofs.lemmas.List.{length-append, length-drop, length-take, length-take-le, take_all, drop_all, take-take, drop-take, drop-drop, get_or-take, get_or-drop}
use Rattle.std.proofs.lemmas.Slice.{take-put_mid}
use Rattle.std.proofs.lemmas.Nat.{from_be_bytes-to_be_bytes_8}
use Rattle.std.proofs.Math.Nat.{min-eq_left, min-eq_right}
use Rattle.std.proofs.Math.Seq.{take-add}
use borrow.Rule.Slice.PartMut.{put_mid}
use mathlib.Core.Logic.{dite}
use native.Mathlib.Decide.{dec_lt}
use Rattle.oak_model.specs.WordBytes.{word_bytes, bytes_of}
use Rattle.arena_core.specs.Words.{bytes_in}

pub length-bytes_of : (ns : List ℕ) → length (bytes_of ns) ≡ 8 * length ns
unfolding bytes_of
length-bytes_of [] = refl
length-bytes_of (n ∷ ns) = let e = length-append (word_bytes n) (bytes_of ns) in let r = length-bytes_of ns in let x : ℕ = length (bytes_of ns) in let e' : length (word_bytes n ++ bytes_of ns) ≡ 8 + x = e in omega arith

-- the bytes of one word
pub word_in : (ns : List ℕ) (i : ℕ) → i < length ns → bytes_in i (bytes_of ns) ≡ word_bytes (get_or ns i 0)
unfolding bytes_of
word_in [] i lt = absurd (omega arith)
word_in (n ∷ ns) zero lt = refl
word_in (n ∷ ns) (suc i) lt = ap (take 8) (ap (λ (k : ℕ). drop k (bytes_of (n ∷ ns))) (let e : 8 * suc i ≡ 8 + 8 * i = omega arith in e) ∙ sym (drop-drop (8 * i) 8 (bytes_of (n ∷ ns)))) ∙ word_in ns i (omega arith)

-- of `len` bytes, k stand in word i
pub record Stand (len i k : ℕ) : Type 0 where
  pub begun : 8 * i < len
  pub few : k ≤ 8
  pub all : (k ≡ 8) ⊎ (8 * i + k ≡ len)
  pub within : 8 * i + k ≤ len

pub stand : (len i to : ℕ) → 8 * i < len → to ≡ min (8 * i + 8) len → Stand len i (to - 8 * i)
stand len i to lt e = dite (dec_lt len (8 * i + 8))
    (λ l. let f : to ≡ len = e ∙ min-eq_right (let h : len ≤ 8 * i + 8 = omega arith in h) in record { begun = lt; few = omega arith; all = inr (omega arith); within = omega arith })
    (λ n. let f : to ≡ 8 * i + 8 = e ∙ min-eq_left (let h : 8 * i + 8 ≤ len = omega arith in h) in record { begun = lt; few = omega arith; all = inl (omega arith); within = omega arith })

-- of the last bytes, fewer than eight
pub stand_last : (len i : ℕ) → 8 * i < len → len < 8 * i + 8 → Stand len i (len - 8 * i)
stand_last len i lt few = record { begun = lt; few = omega arith; all = inr (omega arith); within = omega arith }

module _ (len i k : ℕ) (s : Stand len i k) where
  pub part_of : (xs : List ℕ) → length xs ≡ len → take k (drop (8 * i) xs) ≡ bytes_in i xs
  part_of xs long = let d = length-drop (8 * i) xs in ⊎_elim (λ (e : k ≡ 8). ap (λ (j : ℕ). take j (drop (8 * i) xs)) e)
      (λ (e : 8 * i + k ≡ len). let few = s.few in take_all k (drop (8 * i) xs) (omega arith) ∙ sym (take_all 8 (drop (8 * i) xs) (omega arith))) s.all

  pub part_long : (xs : List ℕ) → length xs ≡ len → length (take k (drop (8 * i) xs)) ≡ k
  part_long xs long = let d = length-drop (8 * i) xs in let within = s.within in length-take-le k (drop (8 * i) xs) (omega arith)

  pub part_in : (ns : List ℕ) → len ≤ 8 * length ns → bytes_in i (take len (bytes_of ns)) ≡ take k (word_bytes (get_or ns i 0))
  part_in ns room = let b : ℕ = length (bytes_of ns) in let wide : b ≡ 8 * length ns = length-bytes_of ns in let t : length (take len (bytes_of ns)) ≡ min len b = length-take len (bytes_of ns) in
      let begun = s.begun in let within = s.within in let few = s.few in
      let long : length (take len (bytes_of ns)) ≡ len = t ∙ min-eq_left (let h : len ≤ b = omega arith in h) in
      sym (part_of (take len (bytes_of ns)) long)
      ∙ (ap (take k) (ap (λ (j : ℕ). drop (8 * i) (take j (bytes_of ns))) (let e : len ≡ 8 * i + (len - 8 * i) = omega arith in e) ∙ drop-take (8 * i) (len - 8 * i) (bytes_of ns))
      ∙ (take-take k (len - 8 * i) (drop (8 * i) (bytes_of ns)) (omega arith)
      ∙ (sym (take-take k 8 (drop (8 * i) (bytes_of ns)) few) ∙ ap (take k) (word_in ns i (omega arith)))))

-- a byte of the value
pub byte_in : (ns : List ℕ) (len i : ℕ) → i < len → len ≤ 8 * length ns → get_or (word_bytes (get_or ns (i / 8) 0)) (i % 8) 0 ≡ get_or (take len (bytes_of ns)) i 0
byte_in ns len i lt room = let q : ℕ = i / 8 in let r : ℕ = i % 8 in let e : 8 * q + r ≡ i = omega arith in let small : r < 8 = omega arith in
    ap (λ (xs : List ℕ). get_or xs r 0) (sym (word_in ns q (omega arith)))
    ∙ (get_or-take 8 (drop (8 * q) (bytes_of ns)) r 0 small
    ∙ (get_or-drop (8 * q) (bytes_of ns) r 0 ∙ (ap (λ (j : ℕ). get_or (bytes_of ns) j 0) e ∙ sym (get_or-take len (bytes_of ns) i 0 lt))))

-- eight of them, as a number
pub eight_in : (ns : List ℕ) (len i n : ℕ) → 8 * i + 8 ≤ len → len ≤ 8 * length ns → n ≡ get_or ns i 0 → n < 2 ^ 64 → n ≡ from_be_bytes w64 (slice_range (take len (bytes_of ns)) (8 * i) (8 * i + 8))
eight_in ns len i n le room is small = let s : Stand len i 8 = record { begun = omega arith; few = omega arith; all = inl refl; within = le } in
    sym (from_be_bytes-to_be_bytes_8 n small) ∙ (ap (λ (j : ℕ). from_be_bytes w64 (word_bytes j)) is
    ∙ (ap (from_be_bytes w64) (sym (part_in len i 8 s ns room)) ∙ ap (λ (j : ℕ). from_be_bytes w64 (take j (drop (8 * i) (take len (bytes_of ns))))) (let e : 8 ≡ 8 * i + 8 - 8 * i = omega arith in e)))

-- one word more
pub more_bytes : (xs : List ℕ) (i : ℕ) → take (8 * (i + 1)) xs ≡ take (8 * i) xs ++ bytes_in i xs
more_bytes xs i = ap (λ (j : ℕ). take j xs) (let e : 8 * (i + 1) ≡ 8 * i + 8 = omega arith in e) ∙ take-add (8 * i) 8 xs

pub all_bytes : (xs : List ℕ) (n : ℕ) → length xs ≤ 8 * n → take (8 * n) xs ≡ xs
all_bytes xs n le = take_all (8 * n) xs le

-- a list to which bytes are copied, one word more
pub copied_more : (bs xs ys : List ℕ) (i : ℕ) → take (8 * i) xs ≡ take (8 * i) bs → take (8 * i + 8) ys ≡ take (8 * i) xs ++ bytes_in i bs → take (8 * (i + 1)) ys ≡ take (8 * (i + 1)) bs
copied_more bs xs ys i before put = ap (λ (j : ℕ). take j ys) (let e : 8 * (i + 1) ≡ 8 * i + 8 = omega arith in e) ∙ (put ∙ ((λ j. before j ++ bytes_in i bs) ∙ sym (more_bytes bs i)))

-- the bytes of word i are written over those of a list
pub written : (len i k : ℕ) → Stand len i k → (xs ys : List ℕ) → length xs ≡ len → length ys ≡ k → take (8 * i + 8) (put_mid (8 * i) k xs ys) ≡ take (8 * i) xs ++ ys
written len i k s xs ys long wide = let begun = s.begun in let within = s.within in let few = s.few in ⊎_elim
    (λ (e : k ≡ 8). take-put_mid (8 * i) k xs ys (8 * i + 8) (omega arith) (omega arith))
    (λ (e : 8 * i + k ≡ len). let d = length-drop (8 * i) xs in
    let whole : put_mid (8 * i) k xs ys ≡ take (8 * i) xs ++ ys = ap (λ (zs : List ℕ). take (8 * i) xs ++ (ys ++ zs)) (drop_all k (drop (8 * i) xs) (omega arith)) ∙ ap (λ (zs : List ℕ). take (8 * i) xs ++ zs) (append-nil ys) in
    let t = length-take-le (8 * i) xs (omega arith) in let a = length-append (take (8 * i) xs) ys in
    ap (take (8 * i + 8)) whole ∙ take_all (8 * i + 8) (take (8 * i) xs ++ ys) (omega arith)) s.all
