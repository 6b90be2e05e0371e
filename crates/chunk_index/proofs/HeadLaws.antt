-- Of two keys with different heads that with the smaller one comes first.
use Rattle.std.proofs.Common.{◌≡◌, ℕ, suc, zero, ◌+◌, ◌*◌, ◌^◌, ◌<◌, ◌≤◌, List, [], ◌∷◌, refl, sym, ap, ◌∙◌, arith, mul-le-mul_right}
use Rattle.std.specs.Cmp.{nat_cmp_is}
use Rattle.std.specs.Cmp.Lexicographic.{nat_list_cmp_total}
use Rattle.std.specs.Ordering.{nat_cmp, ordering_reverse, ordering_then}
use Rattle.std.specs.declared.cmp.Ordering.{Ordering}
use Rattle.std.specs.declared.cmp.Ordering.TheVariants.{Less, Equal, Greater}
use mathlib.Core.Logic.{dite}
use native.Mathlib.Decide.{ℕ_discrete, dec_lt}
use Rattle.oak_model.specs.Key.{AreBytes, IsKeyBefore, key_cmp}
use Rattle.chunk_index.specs.Heads.{key_head}

-- the first n bytes as a number
worth : ℕ → List ℕ → ℕ
worth zero k = 0
worth (suc n) [] = 0
worth (suc n) (x ∷ xs) = x * 256 ^ n + worth n xs

power_pos : (n : ℕ) → 0 < 256 ^ n
power_pos zero = omega arith
power_pos (suc n) = let h = power_pos n in omega arith

worth_below : (n : ℕ) (a : List ℕ) → AreBytes a → worth n a < 256 ^ n
unfolding worth
worth_below zero a b = omega arith
worth_below (suc n) [] b = power_pos (suc n)
worth_below (suc n) (x ∷ xs) b = let t = worth_below n xs (λ i. b (suc i)) in let s = b 0 in let f : x + 1 ≤ 256 = omega arith in let m = mul-le-mul_right (256 ^ n) f in omega arith

worth_less : (n : ℕ) (a b : List ℕ) → AreBytes a → AreBytes b → worth n a < worth n b → IsKeyBefore a b
unfolding worth
worth_less zero a b c d less = absurd (omega arith)
worth_less (suc n) [] [] c d less = absurd (omega arith)
worth_less (suc n) [] (y ∷ ys) c d less = refl
worth_less (suc n) (x ∷ xs) [] c d less = absurd (omega arith)
worth_less (suc n) (x ∷ xs) (y ∷ ys) c d less = dite (dec_lt x y)
    (λ h. ap (λ o. ordering_then o (key_cmp xs ys)) (sym (nat_cmp_is x y Less h)))
    (λ h. dite (ℕ_discrete x y)
    (λ s. let m = ap (λ k. k * 256 ^ n) s in ap (λ o. ordering_then o (key_cmp xs ys)) (sym (nat_cmp_is x y Equal s)) ∙ worth_less n xs ys (λ i. c (suc i)) (λ i. d (suc i)) (omega arith))
    (λ s. let t = worth_below n ys (λ i. d (suc i)) in let f : y + 1 ≤ x = omega arith in let m = mul-le-mul_right (256 ^ n) f in absurd (omega arith)))

head_worth : (k : List ℕ) → key_head k ≡ worth 8 k
unfolding worth
head_worth [] = omega arith
head_worth (a ∷ []) = omega arith
head_worth (a ∷ b ∷ []) = omega arith
head_worth (a ∷ b ∷ c ∷ []) = omega arith
head_worth (a ∷ b ∷ c ∷ d ∷ []) = omega arith
head_worth (a ∷ b ∷ c ∷ d ∷ e ∷ []) = omega arith
head_worth (a ∷ b ∷ c ∷ d ∷ e ∷ f ∷ []) = omega arith
head_worth (a ∷ b ∷ c ∷ d ∷ e ∷ f ∷ g ∷ []) = omega arith
head_worth (a ∷ b ∷ c ∷ d ∷ e ∷ f ∷ g ∷ h ∷ rest) = omega arith

-- a smaller head decides
pub head_less : (a b : List ℕ) → AreBytes a → AreBytes b → key_head a < key_head b → key_cmp a b ≡ Less
head_less a b c d less = let x = head_worth a in let y = head_worth b in worth_less 8 a b c d (omega arith)

-- and a greater one
pub head_more : (a b : List ℕ) → AreBytes a → AreBytes b → key_head b < key_head a → key_cmp a b ≡ Greater
head_more a b c d more = nat_list_cmp_total.antisymm a b ∙ ap ordering_reverse (head_less b a d c more)

-- so different heads decide
pub heads_decide : (a b : List ℕ) (o : Ordering) → AreBytes a → AreBytes b → o ≡ nat_cmp (key_head a) (key_head b) → (o ≡ Equal → ⊥) → o ≡ key_cmp a b
heads_decide a b o c d is apart =
    let x = key_head a in
    let y = key_head b in
    dite (dec_lt x y)
    (λ h. is ∙ sym (nat_cmp_is x y Less h) ∙ sym (head_less a b c d h))
    (λ h. dite (ℕ_discrete x y)
    (λ s. absurd (apart (is ∙ sym (nat_cmp_is x y Equal s))))
    (λ s. let more : y < x = omega arith in is ∙ sym (nat_cmp_is x y Greater more) ∙ sym (head_more a b c d more)))
