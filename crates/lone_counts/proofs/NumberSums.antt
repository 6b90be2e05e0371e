-- Sums over the numbers below another, and of things that lie at numbers.
use Rattle.std.proofs.Common.{◌≡◌, ℕ, zero, suc, ◌+◌, ◌*◌, ◌<◌, ◌≤◌, List, sym, refl, ap, ◌∙◌, subst, arith, mul_comm}
use mathlib.Core.Logic.{dite}
use mathlib.Core.Option.{some, some-injective, some-ne-none}
use native.Mathlib.Decide.{ℕ_discrete, dec_lt}
use lib.ListN.{get_elem?}
use Rattle.oak_model.specs.Counts.{one_at, total, below, rows}
use Rattle.oak_model.proofs.Counting.{one_at-same, one_at-other, below_same, total_at}
use Rattle.lone_counts.specs.Counted.{numbers}
use Rattle.lone_counts.proofs.Sums.{total_same, total_swap, total_times}

pub below_front : (f : ℕ → ℕ) (n : ℕ) → below f (suc n) ≡ f 0 + below (λ k. f (suc k)) n
unfolding below
below_front f zero = omega arith
below_front f (suc n) = let t = below_front f n in omega arith

pub below_split : (f : ℕ → ℕ) (n m : ℕ) → below f (n + m) ≡ below f n + below (λ k. f (n + k)) m
unfolding below
below_split f n zero = ap (below f) (let e : n + zero ≡ n = omega arith in e) ∙ (let z : below f n ≡ below f n + 0 = omega arith in z)
below_split f n (suc m) = let t = below_split f n m in let e : n + suc m ≡ suc (n + m) = omega arith in ap (below f) e ∙ (let r : below f (n + m) + f (n + m) ≡ below f n + (below (λ k. f (n + k)) m + f (n + m)) = omega arith in r)

pub below_none : (f : ℕ → ℕ) (n : ℕ) → ((k : ℕ) → k < n → f k ≡ 0) → below f n ≡ 0
unfolding below
below_none f zero h = refl
below_none f (suc n) h = let a = h n (omega arith) in let t = below_none f n (λ k l. h k (omega arith)) in omega arith

total_rows : (f : ℕ → ℕ) (i n : ℕ) → total f (rows i n (λ k. k)) ≡ below (λ k. f (i + k)) n
unfolding total below rows
total_rows f i zero = refl
total_rows f i (suc n) =
    let t = total_rows f (suc i) n in
    let s = below_front (λ k. f (i + k)) n in
    let a = below_same (λ k. f (suc i + k)) (λ k. f (i + suc k)) n (λ k _. ap f (let e : suc i + k ≡ i + suc k = omega arith in e)) in
    let b : f (i + 0) ≡ f i = ap f (let e : i + 0 ≡ i = omega arith in e) in
    let x : ℕ = below (λ k. f (i + k)) n in let y : ℕ = f (i + n) in let s' : x + y ≡ f (i + 0) + below (λ k. f (i + suc k)) n = s in
    let r : f i + total f (rows (suc i) n (λ k. k)) ≡ x + y = omega arith in r

pub total_numbers : (f : ℕ → ℕ) (n : ℕ) → total f (numbers n) ≡ below f n
total_numbers f n = total_rows f 0 n ∙ below_same (λ k. f (0 + k)) f n (λ k _. ap f (let e : 0 + k ≡ k = omega arith in e))

rows_below : (i n j x : ℕ) → get_elem? (rows i n (λ k. k)) j ≡ some x → x < i + n
unfolding rows
rows_below i zero j x e = absurd (some-ne-none x (sym e))
rows_below i (suc n) zero x e = let s = some-injective i x e in omega arith
rows_below i (suc n) (suc j) x e = let t = rows_below (suc i) n j x e in omega arith

pub numbers_below : (n i x : ℕ) → get_elem? (numbers n) i ≡ some x → x < n
numbers_below n i x e = let t = rows_below 0 n i x e in omega arith

rows_at_place : (i n j : ℕ) → j < n → get_elem? (rows i n (λ k. k)) j ≡ some (i + j)
unfolding rows
rows_at_place i zero j h = absurd (omega arith)
rows_at_place i (suc n) zero h = ap (λ (k : ℕ). some k) (let e : i ≡ i + 0 = omega arith in e)
rows_at_place i (suc n) (suc j) h = rows_at_place (suc i) n j (omega arith) ∙ ap (λ (k : ℕ). some k) (let e : suc i + j ≡ i + suc j = omega arith in e)

pub numbers_at : (n j : ℕ) → j < n → get_elem? (numbers n) j ≡ some j
numbers_at n j h = rows_at_place 0 n j h ∙ ap (λ (k : ℕ). some k) (let e : 0 + j ≡ j = omega arith in e)

-- among the numbers below n each occurs once
pub below_one_at : (n k : ℕ) → k < n → below (one_at k) n ≡ 1
unfolding below
below_one_at zero k h = absurd (omega arith)
below_one_at (suc n) k h = dite (ℕ_discrete k n)
    (λ e. let a = one_at-same k n e in let z = below_none (one_at k) n (λ j l. one_at-other k j (λ q. absurd (let r : n < n = subst (λ (t : ℕ). t < n) (sym q ∙ e) l in omega arith))) in omega arith)
    (λ ne. let a = one_at-other k n ne in let t = below_one_at n k (omega arith) in omega arith)

-- Things of weight 0 or more, each at a block: where none lies from n on, the blocks below n have them all.
pub weighed : {A : Type 0} (u blk : A → ℕ) (xs : List A) (n : ℕ) → ((b : ℕ) → n ≤ b → total (λ x. u x * one_at (blk x) b) xs ≡ 0) → below (λ b. total (λ x. u x * one_at (blk x) b) xs) n ≡ total u xs
weighed u blk xs n clear =
    let a = sym (total_numbers (λ b. total (λ x. u x * one_at (blk x) b) xs) n) in
    let s = total_swap (λ b x. u x * one_at (blk x) b) (numbers n) xs in
    let c = total_same (λ x. total (λ b. u x * one_at (blk x) b) (numbers n)) u xs (λ i x e. at_one i x e) in
    a ∙ (s ∙ c)
  where
    times_first : (f : ℕ → ℕ) (k : ℕ) (ys : List ℕ) → total (λ b. k * f b) ys ≡ k * total f ys
    times_first f k ys = total_same (λ b. k * f b) (λ b. f b * k) ys (λ i b e. mul_comm k (f b)) ∙ (total_times f k ys ∙ mul_comm (total f ys) k)

    none_at : (i : ℕ) (x : _) → get_elem? xs i ≡ some x → n ≤ blk x → u x ≡ 0
    none_at i x e far =
        let z = clear (blk x) far in
        let l : u x * one_at (blk x) (blk x) ≤ total (λ y. u y * one_at (blk y) (blk x)) xs = total_at (λ y. u y * one_at (blk y) (blk x)) xs i x e in
        let o = one_at-same (blk x) (blk x) refl in
        let m : u x * one_at (blk x) (blk x) ≡ u x = ap (λ (k : ℕ). u x * k) o ∙ (let q : u x * 1 ≡ u x = omega arith in q) in
        omega arith

    at_one : (i : ℕ) (x : _) → get_elem? xs i ≡ some x → total (λ b. u x * one_at (blk x) b) (numbers n) ≡ u x
    at_one i x e =
        let f = times_first (one_at (blk x)) (u x) (numbers n) in
        let g = total_numbers (one_at (blk x)) n in
        dite (dec_lt (blk x) n)
        (λ l. f ∙ (ap (λ (k : ℕ). u x * k) (g ∙ below_one_at n (blk x) l) ∙ (let q : u x * 1 ≡ u x = omega arith in q)))
        (λ far. let z = none_at i x e (omega arith) in f ∙ (ap (λ (k : ℕ). k * total (one_at (blk x)) (numbers n)) z ∙ (let q : 0 * total (one_at (blk x)) (numbers n) ≡ 0 = omega arith in q ∙ sym z)))
