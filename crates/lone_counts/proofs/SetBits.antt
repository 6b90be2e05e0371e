-- The set bits of a class, counted block by block.
use Rattle.std.proofs.Common.{◌≡◌, ◌≢◌, ℕ, zero, suc, ◌+◌, ◌-◌, ◌*◌, ◌/◌, ◌%◌, ◌^◌, ◌<◌, ◌≤◌, sym, refl, ap, ◌∙◌, subst, arith}
use Rattle.std.specs.Prelude.{count_ones}
use Rattle.std.specs.Int.{bit_at}
use lib.Count.{ones}
use Rattle.std.proofs.lemmas.Nat.{ones_cat}
use Rattle.std.proofs.lemmas.Nat.Bits.{bit_at-suc, bit_at_lowest}
use Rattle.oak_model.specs.Limits.{Sizes}
use Rattle.oak_model.specs.Counts.{below}
use Rattle.oak_model.proofs.Counting.{below_same}
use Rattle.arena_core.specs.Arena.{blocks, bit_words}
use Rattle.lone_counts.specs.Counted.{bit_of, set_bits}
use Rattle.lone_counts.proofs.NumberSums.{below_front, below_split, below_none}

-- the ones of a word of d bits
pub ones_below : (d n : ℕ) → n < 2 ^ d → count_ones n ≡ below (bit_at n) d
unfolding below ones
ones_below zero n h = let z : n ≡ 0 = omega arith in ap count_ones z
ones_below (suc d) n h =
    let half : n / 2 < 2 ^ d = omega arith in
    let t = ones_below d (n / 2) half in
    let f = below_front (bit_at n) d in
    let g = below_same (λ k. bit_at n (suc k)) (bit_at (n / 2)) d (λ k _. bit_at-suc n k) in
    let low = bit_at_lowest n in
    let c : count_ones (n / 2 * 2 ^ 1 + n % 2) ≡ count_ones (n / 2) + count_ones (n % 2) = ones_cat 1 (n / 2) (n % 2) (omega arith) in
    let parts : n / 2 * 2 ^ 1 + n % 2 ≡ n = omega arith in
    let l : count_ones (n % 2) ≡ n % 2 = small (n % 2) (omega arith) in
    let whole : count_ones n ≡ count_ones (n / 2) + n % 2 = sym (ap count_ones parts) ∙ (c ∙ ap (λ (k : ℕ). count_ones (n / 2) + k) l) in
    let x : ℕ = count_ones (n / 2) in let y : ℕ = below (bit_at (n / 2)) d in let v : ℕ = below (λ k. bit_at n (suc k)) d in let u : ℕ = below (bit_at n) (suc d) in let w : ℕ = count_ones n in
    let t' : x ≡ y = t in let g' : v ≡ y = g in let f' : u ≡ bit_at n 0 + v = f in let whole' : w ≡ x + n % 2 = whole in let low' : bit_at n 0 ≡ n % 2 = low in
    let r : w ≡ u = omega arith in r
  where
    small : (k : ℕ) → k < 2 → count_ones k ≡ k
    small zero h = refl
    small (suc zero) h = refl
    small (suc (suc k)) h = absurd (omega arith)

-- words of w bits, one behind the other
pub below_words : (g : ℕ → ℕ) (w n : ℕ) → below (λ i. below (λ j. g (i * w + j)) w) n ≡ below g (n * w)
unfolding below
below_words g w zero = ap (below g) (let z : 0 ≡ zero * w = omega arith in z)
below_words g w (suc n) =
    let t = below_words g w n in
    let s = below_split g (n * w) w in
    let e : n * w + w ≡ suc n * w = sym (Rattle.std.proofs.Common.suc-mul n w) in
    ap (λ (k : ℕ). k + below (λ j. g (n * w + j)) w) t ∙ (sym s ∙ ap (below g) e)

-- the bits that are counted are those of the blocks, as the further ones are clear
pub set_bits_below : (z : Sizes) (bits : ℕ → ℕ) (c : ℕ) → ((i : ℕ) → bits i < 2 ^ 64) → ((b : ℕ) → blocks z c ≤ b → bit_of bits b ≡ 0) → set_bits z bits c ≡ below (bit_of bits) (blocks z c)
set_bits_below z bits c small clear =
    let W : ℕ = bit_words z c in
    let B : ℕ = blocks z c in
    let a : set_bits z bits c ≡ below (λ i. below (λ j. bit_of bits (i * 64 + j)) 64) W =
    below_same (λ i. count_ones (bits i)) (λ i. below (λ j. bit_of bits (i * 64 + j)) 64) W (λ i _. ones_below 64 (bits i) (small i) ∙ below_same (bit_at (bits i)) (λ j. bit_of bits (i * 64 + j)) 64 (λ j l. at_place i j l)) in
    let b = below_words (bit_of bits) 64 W in
    let room : B ≤ W * 64 = wide B in
    let cut : B + (W * 64 - B) ≡ W * 64 = omega arith in
    let s = below_split (bit_of bits) B (W * 64 - B) in
    let none = below_none (λ j. bit_of bits (B + j)) (W * 64 - B) (λ j _. clear (B + j) (omega arith)) in
    a ∙ (b ∙ (sym (ap (below (bit_of bits)) cut) ∙ (s ∙ (ap (λ (k : ℕ). below (bit_of bits) B + k) none ∙ (let q : below (bit_of bits) B + 0 ≡ below (bit_of bits) B = omega arith in q)))))
  where
    at_place : (i j : ℕ) → j < 64 → bit_at (bits i) j ≡ bit_of bits (i * 64 + j)
    at_place i j l = let d : i ≡ (i * 64 + j) / 64 = omega arith in let m : j ≡ (i * 64 + j) % 64 = omega arith in ap (λ (k : ℕ). bit_at (bits k) j) d ∙ ap (bit_at (bits ((i * 64 + j) / 64))) m

    wide : (n : ℕ) → n ≤ (n + 63) / 64 * 64
    wide n = omega arith
