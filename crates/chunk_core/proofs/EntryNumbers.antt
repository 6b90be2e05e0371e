-- Counts of entries, the numbers below them, and the rows of a room's entries.
use Rattle.std.proofs.Common.{◌≡◌, ℕ, zero, suc, ◌+◌, ◌^◌, ◌<◌, ◌≤◌, List, [], ◌∷◌, map, refl, ap, ◌∙◌, subst, arith}
use Rattle.std.specs.Prelude.{take}
use mathlib.Core.Logic.{dite}
use native.Mathlib.Decide.{ℕ_discrete}
use Rattle.oak_model.specs.Counts.{one_at, total, rows, Each}
use Rattle.oak_model.proofs.Counting.{one_at-same, one_at-other, total_map}
use Rattle.chunk_core.specs.LinkedEntries.{entries_in, prefix_in, first_numbers}

-- one more in the count, where the entries are few
pub count_more : (n : ℕ) → entries_in n + 1 < 2 ^ 16 → (entries_in (n + 1) ≡ suc (entries_in n)) × (prefix_in (n + 1) ≡ prefix_in n)
unfolding entries_in prefix_in
count_more n l = ((omega arith), (omega arith))

-- a count tells fewer entries than links are followed
pub few_entries : (count : ℕ) → entries_in count < 65536
unfolding entries_in
few_entries count = omega arith

pub numbers_away : (n i : ℕ) → n ≤ i → total (λ j. one_at j i) (first_numbers n) ≡ 0
unfolding total first_numbers
numbers_away zero i h = refl
numbers_away (suc n) i h = let t = numbers_away n i (omega arith) in let o = one_at-other n i (λ e. omega arith) in omega arith

-- each number below n stands once among them
pub numbers_once : (n i : ℕ) → i < n → total (λ j. one_at j i) (first_numbers n) ≡ 1
unfolding total first_numbers
numbers_once zero i h = absurd (omega arith)
numbers_once (suc n) i h = dite (ℕ_discrete n i) (λ e. let t = numbers_away n i (omega arith) in let o = one_at-same n i e in omega arith) (λ ne. let t = numbers_once n i (omega arith) in let o = one_at-other n i ne in omega arith)

-- what stands among them is below n
pub number_below : (n i : ℕ) → 0 < total (λ j. one_at j i) (first_numbers n) → i < n
unfolding total first_numbers
number_below zero i h = absurd (omega arith)
number_below (suc n) i h = dite (ℕ_discrete n i) (λ e. omega arith) (λ ne. let o = one_at-other n i ne in let t = number_below n i (omega arith) in omega arith)

-- what holds of each of some numbers holds of one that stands there
pub each_at : (P : ℕ → Type 0) (xs : List ℕ) (x : ℕ) → Each P xs → 0 < total (λ j. one_at j x) xs → P x
unfolding total
each_at P [] x h l = absurd (omega arith)
each_at P (y ∷ ys) x h l = dite (ℕ_discrete y x) (λ e. subst P e h.0) (λ ne. let o = one_at-other y x ne in each_at P ys x h.1 (omega arith))

-- and what holds of one after the other holds of each
pub each_of : (P : ℕ → Type 0) (xs : List ℕ) → ((x : ℕ) → 0 < total (λ j. one_at j x) xs → P x) → Each P xs
unfolding total
each_of P [] h = tt
each_of P (y ∷ ys) h = (h y (let o = one_at-same y y refl in omega arith), each_of P ys (λ x l. h x (omega arith)))

pub map_each : {A : Type 0} (f g : ℕ → A) (xs : List ℕ) → Each (λ i. f i ≡ g i) xs → map f xs ≡ map g xs
map_each f g [] h = refl
map_each f g (x ∷ xs) h = λ i. h.0 i ∷ map_each f g xs h.1 i

-- the first of rows
pub take_rows : {A : Type 0} (i n e : ℕ) (f : ℕ → A) → n ≤ e → take n (rows i e f) ≡ rows i n f
unfolding rows
take_rows i zero e f l = refl
take_rows i (suc n) zero f l = absurd (omega arith)
take_rows i (suc n) (suc e) f l = ap (λ (t : List _). f i ∷ t) (take_rows (suc i) n e f (omega arith))

shifted : (F : ℕ → ℕ) (i n : ℕ) → F i + total (λ j. F (suc i + j)) (first_numbers n) ≡ F (i + n) + total (λ j. F (i + j)) (first_numbers n)
unfolding total first_numbers
shifted F i zero = let e = ap F (let q : i ≡ i + 0 = omega arith in q) in omega arith
shifted F i (suc n) = let s = shifted F i n in let e = ap F (let q : suc i + n ≡ i + suc n = omega arith in q) in omega arith

total_rows : (F : ℕ → ℕ) (i n : ℕ) → total F (rows i n (λ j. j)) ≡ total (λ j. F (i + j)) (first_numbers n)
unfolding total rows first_numbers
total_rows F i zero = refl
total_rows F i (suc n) = let a = total_rows F (suc i) n in let b = shifted F i n in omega arith

total_first : (G : ℕ → ℕ) (n : ℕ) → total (λ j. G (0 + j)) (first_numbers n) ≡ total G (first_numbers n)
unfolding total first_numbers
total_first G zero = refl
total_first G (suc n) = let t = total_first G n in let e = ap G (let q : 0 + n ≡ n = omega arith in q) in omega arith

rows_mapped : {A : Type 0} (f : ℕ → A) (i n : ℕ) → rows i n f ≡ map f (rows i n (λ j. j))
unfolding rows
rows_mapped f i zero = refl
rows_mapped f i (suc n) = ap (λ (t : List _). f i ∷ t) (rows_mapped f (suc i) n)

-- what is added up over the first rows
pub rows_total : {A : Type 0} (F : A → ℕ) (f : ℕ → A) (n : ℕ) → total F (rows 0 n f) ≡ total (λ j. F (f j)) (first_numbers n)
rows_total F f n = ap (total F) (rows_mapped f 0 n) ∙ (total_map f F (rows 0 n (λ j. j)) ∙ (total_rows (λ j. F (f j)) 0 n ∙ total_first (λ j. F (f j)) n))
