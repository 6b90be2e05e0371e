-- The order of keys by whole words, with zeros behind the last byte, and by their lengths where all words agree.
use Rattle.std.proofs.Common.{◌≡◌, ◌≢◌, true, false, ℕ, zero, suc, ◌+◌, ◌*◌, ◌^◌, ◌<◌, ◌≤◌, cond, ◌⊎◌, inl, inr, ⊎_elim, take, ◌==◌, List, [], ◌∷◌, length, get_or, drop, sym, ◌∙◌, ap, refl, subst, arith, mul-le-mul_right, eq-eqb, ne_eqb}
use Rattle.std.proofs.lemmas.Bool.{lt-ltb, le-ltb}
use Rattle.std.proofs.lemmas.List.{drop-drop, get_or-drop}
use Rattle.std.specs.Ordering.{nat_cmp, ordering_then, is_ne}
use Rattle.std.specs.declared.cmp.Ordering.{Ordering}
use Rattle.std.specs.declared.cmp.Ordering.TheVariants.{Less, Equal, Greater}
use mathlib.Core.Logic.{dite}
use native.Mathlib.Decide.{ℕ_discrete, dec_lt}
use Rattle.oak_model.specs.Key.{key_cmp, AreBytes}
use Rattle.arena_core.specs.Words.{word_of, word_at}

pub cmp-cases : (x y : ℕ) (P : Ordering → Type 0) → (x < y → P Less) → (x ≡ y → P Equal) → (y < x → P Greater) → P (nat_cmp x y)
cmp-cases x y P less equal greater = dite (dec_lt x y)
    (λ h. subst (λ t. P (cond t Less (cond (x == y) Equal Greater))) (sym (lt-ltb x y h)) (less h))
    (λ n. let at_least : y ≤ x = omega arith in subst (λ t. P (cond t Less (cond (x == y) Equal Greater))) (sym (le-ltb x y at_least)) (dite (ℕ_discrete x y)
    (λ e. subst (λ t. P (cond t Equal Greater)) (sym (eq-eqb x y e)) (equal e))
    (λ m. subst (λ t. P (cond t Equal Greater)) (sym (ne_eqb x y m)) (greater (omega arith)))))

pub cmp_less : (x y : ℕ) → x < y → nat_cmp x y ≡ Less
cmp_less x y h = cmp-cases x y (λ o. o ≡ Less) (λ _. refl) (λ e. absurd (omega arith)) (λ g. absurd (omega arith))

pub cmp_greater : (x y : ℕ) → y < x → nat_cmp x y ≡ Greater
cmp_greater x y h = cmp-cases x y (λ o. o ≡ Greater) (λ g. absurd (omega arith)) (λ e. absurd (omega arith)) (λ _. refl)

pub cmp_equal : (x y : ℕ) → x ≡ y → nat_cmp x y ≡ Equal
cmp_equal x y h = cmp-cases x y (λ o. o ≡ Equal) (λ g. absurd (omega arith)) (λ _. refl) (λ g. absurd (omega arith))

pub cmp_suc : (x y : ℕ) → nat_cmp (suc x) (suc y) ≡ nat_cmp x y
cmp_suc x y = cmp-cases x y (λ o. nat_cmp (suc x) (suc y) ≡ o) (λ h. cmp_less (suc x) (suc y) (omega arith)) (λ e. cmp_equal (suc x) (suc y) (omega arith)) (λ h. cmp_greater (suc x) (suc y) (omega arith))

cmp_add : (z w x y : ℕ) → z ≡ w → nat_cmp (z + x) (w + y) ≡ nat_cmp x y
cmp_add z w x y s = cmp-cases x y (λ o. nat_cmp (z + x) (w + y) ≡ o) (λ h. cmp_less (z + x) (w + y) (omega arith)) (λ e. cmp_equal (z + x) (w + y) (omega arith)) (λ h. cmp_greater (z + x) (w + y) (omega arith))

-- the first n bytes, zeros behind the last
abbrev pub padded_cmp : ℕ → List ℕ → List ℕ → Ordering
padded_cmp zero a b = Equal
padded_cmp (suc n) a b = ordering_then (nat_cmp (get_or a 0 0) (get_or b 0 0)) (padded_cmp n (drop 1 a) (drop 1 b))

-- no bytes are never behind bytes
none_first : (n : ℕ) (ys : List ℕ) → padded_cmp n [] ys ≢ Greater
none_first zero ys = λ e. cc
none_first (suc n) ys = cmp-cases 0 (get_or ys 0 0) (λ o. ordering_then o (padded_cmp n [] (drop 1 ys)) ≢ Greater) (λ h e. cc) (λ h. none_first n (drop 1 ys)) (λ h e. absurd (omega arith))

none_last : (n : ℕ) (xs : List ℕ) → padded_cmp n xs [] ≢ Less
none_last zero xs = λ e. cc
none_last (suc n) xs = cmp-cases (get_or xs 0 0) 0 (λ o. ordering_then o (padded_cmp n (drop 1 xs) []) ≢ Less) (λ h e. absurd (omega arith)) (λ h. none_last n (drop 1 xs)) (λ h e. cc)

decided : (o p : Ordering) → o ≡ p → o ≢ Greater → p ≢ Equal → Less ≡ p
decided o Less e n m = refl
decided o Equal e n m = absurd (m refl)
decided o Greater e n m = absurd (n e)

decided_last : (o p : Ordering) → o ≡ p → o ≢ Less → p ≢ Equal → Greater ≡ p
decided_last o Less e n m = absurd (n e)
decided_last o Equal e n m = absurd (m refl)
decided_last o Greater e n m = refl

-- where padded bytes differ they decide
pub padded_decides : (n : ℕ) (a b : List ℕ) (o : Ordering) → padded_cmp n a b ≡ o → o ≢ Equal → key_cmp a b ≡ o
padded_decides zero a b o e m = absurd (m (sym e))
padded_decides (suc n) [] [] o e m = padded_decides n [] [] o e m
padded_decides (suc n) [] (y ∷ ys) o e m = decided (padded_cmp (suc n) [] (y ∷ ys)) o e (none_first (suc n) (y ∷ ys)) m
padded_decides (suc n) (x ∷ xs) [] o e m = decided_last (padded_cmp (suc n) (x ∷ xs) []) o e (none_last (suc n) (x ∷ xs)) m
padded_decides (suc n) (x ∷ xs) (y ∷ ys) o e m = cmp-cases x y (λ r. ordering_then r (padded_cmp n xs ys) ≡ o → ordering_then r (key_cmp xs ys) ≡ o) (λ h f. f) (λ h f. padded_decides n xs ys o f m) (λ h f. f) e

-- and else, where one key has no more bytes, the lengths do
pub lengths_decide : (n : ℕ) (a b : List ℕ) → padded_cmp n a b ≡ Equal → (length a ≤ n) ⊎ (length b ≤ n) → key_cmp a b ≡ nat_cmp (length a) (length b)
lengths_decide n [] [] e h = refl
lengths_decide n [] (y ∷ ys) e h = sym (cmp_less 0 (suc (length ys)) (omega arith))
lengths_decide n (x ∷ xs) [] e h = sym (cmp_greater (suc (length xs)) 0 (omega arith))
lengths_decide zero (x ∷ xs) (y ∷ ys) e h = absurd (⊎_elim (λ (l : suc (length xs) ≤ 0). let f : ⊥ = omega arith in f) (λ (l : suc (length ys) ≤ 0). let f : ⊥ = omega arith in f) h)
lengths_decide (suc n) (x ∷ xs) (y ∷ ys) e h =
    cmp-cases x y (λ r. ordering_then r (padded_cmp n xs ys) ≡ Equal → ordering_then r (key_cmp xs ys) ≡ nat_cmp (suc (length xs)) (suc (length ys))) (λ g f. absurd cc)
    (λ g f. lengths_decide n xs ys f (⊎_elim (λ (l : suc (length xs) ≤ suc n). inl (let k : length xs ≤ n = omega arith in k)) (λ (l : suc (length ys) ≤ suc n). inr (let k : length ys ≤ n = omega arith in k)) h) ∙ sym (cmp_suc (length xs) (length ys)))
    (λ g f. absurd cc) e

-- more bytes
pub padded_more : (m n : ℕ) (a b : List ℕ) → padded_cmp m a b ≡ Equal → padded_cmp (m + n) a b ≡ padded_cmp n (drop m a) (drop m b)
padded_more zero n a b e = ap (λ (k : ℕ). padded_cmp k a b) (let f : 0 + n ≡ n = omega arith in f)
padded_more (suc m) n a b e = ap (λ (k : ℕ). padded_cmp k a b) (let f : suc m + n ≡ suc (m + n) = omega arith in f) ∙ cmp-cases (get_or a 0 0) (get_or b 0 0)
    (λ r. ordering_then r (padded_cmp m (drop 1 a) (drop 1 b)) ≡ Equal → ordering_then r (padded_cmp (m + n) (drop 1 a) (drop 1 b)) ≡ padded_cmp n (drop (suc m) a) (drop (suc m) b))
    (λ h f. absurd cc) (λ h f. padded_more m n (drop 1 a) (drop 1 b) f ∙ ap (λ (p : List ℕ × List ℕ). padded_cmp n p.0 p.1) (λ i. (dropped a i, dropped b i))) (λ h f. absurd cc) e
  where
    dropped : (xs : List ℕ) → drop m (drop 1 xs) ≡ drop (suc m) xs
    dropped xs = drop-drop m 1 xs ∙ ap (λ (k : ℕ). drop k xs) (let f : 1 + m ≡ suc m = omega arith in f)

pub padded_append : (m n : ℕ) (a b : List ℕ) → padded_cmp (m + n) a b ≡ ordering_then (padded_cmp m a b) (padded_cmp n (drop m a) (drop m b))
padded_append m n a b = by (padded_cmp m a b) refl
  where
    first : (m : ℕ) (a b : List ℕ) (o : Ordering) → padded_cmp m a b ≡ o → o ≢ Equal → padded_cmp (m + n) a b ≡ o
    first zero a b o e u = absurd (u (sym e))
    first (suc m) a b o e u = ap (λ (k : ℕ). padded_cmp k a b) (let f : suc m + n ≡ suc (m + n) = omega arith in f) ∙ cmp-cases (get_or a 0 0) (get_or b 0 0)
        (λ r. ordering_then r (padded_cmp m (drop 1 a) (drop 1 b)) ≡ o → ordering_then r (padded_cmp (m + n) (drop 1 a) (drop 1 b)) ≡ o)
        (λ h f. f) (λ h f. first m (drop 1 a) (drop 1 b) o f u) (λ h f. f) e

    by : (o : Ordering) → padded_cmp m a b ≡ o → padded_cmp (m + n) a b ≡ ordering_then o (padded_cmp n (drop m a) (drop m b))
    by Less e = first m a b Less e (λ f. cc)
    by Equal e = padded_more m n a b e
    by Greater e = first m a b Greater e (λ f. cc)

-- the first n bytes as one number
abbrev big : ℕ → List ℕ → ℕ
big zero a = 0
big (suc n) a = get_or a 0 0 * 256 ^ n + big n (drop 1 a)

behind : (a : List ℕ) → AreBytes a → AreBytes (drop 1 a)
behind a s i = subst (λ (n : ℕ). n < 256) (sym (get_or-drop 1 a i 0)) (s (1 + i))

power_pos : (n : ℕ) → 0 < 256 ^ n
power_pos zero = omega arith
power_pos (suc n) = let h = power_pos n in omega arith

big_below : (n : ℕ) (a : List ℕ) → AreBytes a → big n a < 256 ^ n
big_below zero a s = omega arith
big_below (suc n) a s = let h = big_below n (drop 1 a) (behind a s) in let x : ℕ = get_or a 0 0 in let l : x < 256 = s 0 in let f : x + 1 ≤ 256 = omega arith in let m = mul-le-mul_right (256 ^ n) f in omega arith

big_cmp : (n : ℕ) (a b : List ℕ) → AreBytes a → AreBytes b → nat_cmp (big n a) (big n b) ≡ padded_cmp n a b
big_cmp zero a b s t = refl
big_cmp (suc n) a b s t = let x : ℕ = get_or a 0 0 in let y : ℕ = get_or b 0 0 in let p = big_below n (drop 1 a) (behind a s) in let q = big_below n (drop 1 b) (behind b t) in
    cmp-cases x y (λ r. nat_cmp (x * 256 ^ n + big n (drop 1 a)) (y * 256 ^ n + big n (drop 1 b)) ≡ ordering_then r (padded_cmp n (drop 1 a) (drop 1 b)))
    (λ h. cmp_less (x * 256 ^ n + big n (drop 1 a)) (y * 256 ^ n + big n (drop 1 b)) (let f : x + 1 ≤ y = omega arith in let m = mul-le-mul_right (256 ^ n) f in omega arith))
    (λ e. cmp_add (x * 256 ^ n) (y * 256 ^ n) (big n (drop 1 a)) (big n (drop 1 b)) (ap (λ (k : ℕ). k * 256 ^ n) e) ∙ big_cmp n (drop 1 a) (drop 1 b) (behind a s) (behind b t))
    (λ h. cmp_greater (x * 256 ^ n + big n (drop 1 a)) (y * 256 ^ n + big n (drop 1 b)) (let f : y + 1 ≤ x = omega arith in let m = mul-le-mul_right (256 ^ n) f in omega arith))

big_is : (a : List ℕ) → word_of (take 8 a) ≡ big 8 a
unfolding word_of
big_is [] = refl
big_is (a ∷ []) = omega arith
big_is (a ∷ b ∷ []) = omega arith
big_is (a ∷ b ∷ c ∷ []) = omega arith
big_is (a ∷ b ∷ c ∷ d ∷ []) = omega arith
big_is (a ∷ b ∷ c ∷ d ∷ e ∷ []) = omega arith
big_is (a ∷ b ∷ c ∷ d ∷ e ∷ f ∷ []) = omega arith
big_is (a ∷ b ∷ c ∷ d ∷ e ∷ f ∷ g ∷ []) = omega arith
big_is (a ∷ b ∷ c ∷ d ∷ e ∷ f ∷ g ∷ h ∷ r) = omega arith

-- one comparison of numbers for eight of bytes
pub words_cmp : (a b : List ℕ) → AreBytes a → AreBytes b → nat_cmp (word_of (take 8 a)) (word_of (take 8 b)) ≡ padded_cmp 8 a b
words_cmp a b s t = (λ i. nat_cmp (big_is a i) (big_is b i)) ∙ big_cmp 8 a b s t

pub dropped_bytes : (m : ℕ) (a : List ℕ) → AreBytes a → AreBytes (drop m a)
dropped_bytes m a s i = subst (λ (n : ℕ). n < 256) (sym (get_or-drop m a i 0)) (s (m + i))

-- one word more, behind words that agree
pub word_order : (a b : List ℕ) (i : ℕ) → AreBytes a → AreBytes b → padded_cmp (8 * i) a b ≡ Equal → nat_cmp (word_at a i) (word_at b i) ≡ padded_cmp (8 * i + 8) a b
word_order a b i s t e = words_cmp (drop (8 * i) a) (drop (8 * i) b) (dropped_bytes (8 * i) a s) (dropped_bytes (8 * i) b t) ∙ sym (padded_more (8 * i) 8 a b e)

pub is_unequal : (o : Ordering) → is_ne o ≡ true → o ≢ Equal
is_unequal Less e = λ f. cc
is_unequal Equal e = λ f. absurd cc
is_unequal Greater e = λ f. cc

pub is_equal : (o : Ordering) → is_ne o ≡ false → o ≡ Equal
is_equal Less e = absurd cc
is_equal Equal e = refl
is_equal Greater e = absurd cc

pub same_number : (x y : ℕ) → nat_cmp x y ≡ Equal → x ≡ y
same_number x y e = cmp-cases x y (λ o. o ≡ Equal → x ≡ y) (λ h f. absurd cc) (λ h f. h) (λ h f. absurd cc) e
