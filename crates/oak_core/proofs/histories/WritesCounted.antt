-- How many writes there are: a pass makes at most one in each of its calls, and there are few passes. So the number of all writes, and with it each stamp, is small.
use Rattle.std.proofs.Common.{◌≡◌, ℕ, zero, suc, ◌+◌, ◌-◌, ◌*◌, ◌^◌, ◌<◌, ◌≤◌, cond, Bool, List, [], ◌∷◌, map, length, refl, ap, arith}
use Rattle.std.proofs.lemmas.Nat.Bits.{bit_at-lt}
use mathlib.Core.Logic.{dite}
use mathlib.Core.Option.{some}
use native.Mathlib.Decide.{dec_lt}
use lib.ListN.{get_elem?}
use Rattle.oak_model.specs.Counts.{one_at, total, below, Each, Every}
use Rattle.oak_model.specs.Limits.{Sizes, IsInLimits}
use Rattle.oak_model.proofs.Counting.{one_at-same, test-cases, total_at, total_map, total_zero, below_at, below_add}
use Rattle.oak_model.proofs.RowLaws.{total_le}
use Rattle.oak_model.proofs.SumLaws.{total_plus}
use Rattle.oak_core.specs.declared.states.Joined.{Joined}
use Rattle.oak_core.specs.declared.states.KeyedWrite.{KeyedWrite}
use Rattle.oak_core.specs.declared.states.Numbers.{Numbers}
use Rattle.oak_core.specs.declared.states.PassState.{PassState}
use Rattle.oak_core.specs.Callers.{CallsRise, AreWritesOf, made_by, CallersAgree}
use Rattle.oak_core.specs.KeyReads.{history_now}
use Rattle.oak_core.specs.PassState.{rooted, has_number, numbers_of}
use Rattle.oak_core.specs.Rule.{NumbersStand, SpentIsSpent}
use Rattle.oak_core.proofs.histories.Histories.{each_of_every}

-- calls that strictly rise from low on, and stay below n, are few
calls_few : (low n : ℕ) (h : List KeyedWrite) → CallsRise h → Each (λ (w : KeyedWrite). low ≤ w.write.call) h → Each (λ (w : KeyedWrite). w.write.call < n) h → length h ≤ n - low
calls_few low n [] rise least small = omega arith
calls_few low n (w ∷ ws) rise least small = let r = calls_few (suc w.write.call) n ws rise.1 rise.0 small.1 in let a = least.0 in let b = small.0 in omega arith

writes_few : (hist : ℕ → List KeyedWrite) (i : ℕ) (mine : List KeyedWrite) → AreWritesOf hist i mine → length mine ≤ 2 ^ 32
writes_few hist i mine a = let l = calls_few 0 (2 ^ 32) mine a.rise (any mine) a.small in omega arith
  where
    any : (h : List KeyedWrite) → Each (λ (w : KeyedWrite). 0 ≤ w.write.call) h
    any [] = tt
    any (w ∷ ws) = (omega arith, any ws)

-- sums of sums

below_most : (f : ℕ → ℕ) (n : ℕ) → ((k : ℕ) → f k ≤ 1) → below f n ≤ n
unfolding below
below_most f zero h = omega arith
below_most f (suc n) h = let r = below_most f n h in let l = h n in omega arith

total_below : {A : Type 0} (f : ℕ → A → ℕ) (n : ℕ) (xs : List A) → total (λ x. below (λ i. f i x) n) xs ≡ below (λ i. total (f i) xs) n
unfolding below
total_below f zero xs = total_zero (λ x. 0) xs (λ i v at. refl)
total_below f (suc n) xs = let r = total_below f n xs in let p = total_plus (λ x. below (λ i. f i x) n) (f n) xs in omega arith

total_most : {A : Type 0} (f g : A → ℕ) (b : ℕ) (xs : List A) → Each (λ (x : A). f x ≤ b * g x) xs → total f xs ≤ b * total g xs
unfolding total
total_most f g b [] h = omega arith
total_most f g b (x ∷ xs) h = let a = h.0 in let r = total_most f g b xs h.1 in let d = times b (g x) (total g xs) in omega arith
  where
    times : (b x y : ℕ) → b * (x + y) ≡ b * x + b * y
    times b x y = grind arith

-- each number is one of the n lowest
module _ (n : ℕ) (vs : List PassState) (callers : CallersAgree vs) (spent : Every SpentIsSpent vs) (once : (i : ℕ) → total (rooted i) (map numbers_of vs) ≤ 1) (few : (i : ℕ) → n ≤ i → total (rooted i) (map numbers_of vs) ≡ 0) where
  number_low : (j : ℕ) (v : PassState) → get_elem? vs j ≡ some v → (i : ℕ) → 0 < rooted i v.numbers → i < n
  number_low j v at i p = dite (dec_lt i n) (λ l. l) (λ no. absurd (let f = few i (omega arith) in let m = total_map numbers_of (rooted i) vs in let t = total_at (λ (x : PassState). rooted i x.numbers) vs j v at in omega arith))

  -- as many numbers as the pass has
  numbers_had : PassState → ℕ
  numbers_had v = below (λ i. rooted i v.numbers) n

  own_few : (j : ℕ) (v : PassState) → get_elem? vs j ≡ some v → length v.knowledge.mine ≤ 2 ^ 32 * below (λ i. cond v.numbers.spent 0 (one_at v.numbers.number i)) n
  own_few j v at = test-cases v.numbers.spent (λ t. (v.numbers.spent ≡ t) → length v.knowledge.mine ≤ 2 ^ 32 * below (λ i. cond t 0 (one_at v.numbers.number i)) n)
      (λ _ e. let l = ap (λ (x : PassState). length x.knowledge.mine) (spent j v at e) in omega arith)
      (λ _ e. let w = writes_few (history_now vs) v.numbers.number v.knowledge.mine ((callers.writes j v at).own e) in let o = one_at-same v.numbers.number v.numbers.number refl in
      let c : cond v.numbers.spent 0 (one_at v.numbers.number v.numbers.number) ≡ one_at v.numbers.number v.numbers.number = ap (λ (t : Bool). cond t 0 (one_at v.numbers.number v.numbers.number)) e in
      let l = number_low j v at v.numbers.number (omega arith) in let b = below_at (λ i. one_at v.numbers.number i) n v.numbers.number l in omega arith) refl

  joined_few : (j : ℕ) (v : PassState) → get_elem? vs j ≡ some v → total (λ (y : Joined). length y.mine) v.numbers.joined ≤ 2 ^ 32 * total (λ (y : Joined). below (λ i. one_at y.number i) n) v.numbers.joined
  unfolding total
  joined_few j v at = total_most (λ (y : Joined). length y.mine) (λ (y : Joined). below (λ i. one_at y.number i) n) (2 ^ 32) v.numbers.joined (each_one v.numbers.joined (λ i p. number_low j v at i (omega arith)) (callers.writes j v at).joined)
    where
      each_one : (js : List Joined) → ((i : ℕ) → 0 < total (λ (y : Joined). one_at y.number i) js → i < n) → Each (λ (y : Joined). AreWritesOf (history_now vs) y.number y.mine) js → Each (λ (y : Joined). length y.mine ≤ 2 ^ 32 * below (λ i. one_at y.number i) n) js
      each_one [] low all = tt
      each_one (y ∷ ys) low all = (let w = writes_few (history_now vs) y.number y.mine all.0 in let o = one_at-same y.number y.number refl in let l = low y.number (omega arith) in let b = below_at (λ i. one_at y.number i) n y.number l in omega arith, each_one ys (λ i p. low i (omega arith)) all.1)

  made_few : (j : ℕ) (v : PassState) → get_elem? vs j ≡ some v → made_by v ≤ 2 ^ 32 * numbers_had v
  unfolding numbers_had
  made_few j v at = let a = own_few j v at in let b = joined_few j v at in let s = total_below (λ i (y : Joined). one_at y.number i) n v.numbers.joined in
      let d = below_add (λ i. cond v.numbers.spent 0 (one_at v.numbers.number i)) (λ i. total (λ (y : Joined). one_at y.number i) v.numbers.joined) n in omega arith

  had_few : total numbers_had vs ≤ n
  unfolding numbers_had
  had_few = let s = total_below (λ i (v : PassState). rooted i v.numbers) n vs in
      let b = below_most (λ i. total (λ (v : PassState). rooted i v.numbers) vs) n (λ i. let o = once i in let m = total_map numbers_of (rooted i) vs in omega arith) in omega arith

  pub all_made : total made_by vs ≤ 2 ^ 32 * n
  all_made = let t = total_most made_by numbers_had (2 ^ 32) vs (each_of_every (λ (v : PassState). made_by v ≤ 2 ^ 32 * numbers_had v) vs made_few) in let h = had_few in omega arith

-- the numbers that passes have are the given ones, which are few and differ
module _ (z : Sizes) (given : ℕ) (ns : List Numbers) (numbers : NumbersStand z given ns) where
  pub roots_once : (i : ℕ) → total (rooted i) ns ≤ 1
  roots_once i = let o = numbers.owned i in let l = total_le (rooted i) (has_number i) ns (λ a. omega arith) in let b = bit_at-lt given i in omega arith

  pub roots_few : IsInLimits z → (i : ℕ) → 64 ≤ i → total (rooted i) ns ≡ 0
  roots_few sizes i le = let o = numbers.owned i in let l = total_le (rooted i) (has_number i) ns (λ a. omega arith) in let g = sizes.passes_greatest in let f = numbers.few i (omega arith) in omega arith

-- so all writes are fewer than 2 ^ 39, and a stamp that is at most one more is below 2 ^ 63
pub writes_counted : (z : Sizes) (given : ℕ) (vs : List PassState) → IsInLimits z → NumbersStand z given (map numbers_of vs) → CallersAgree vs → Every SpentIsSpent vs → total made_by vs < 2 ^ 39
writes_counted z given vs sizes numbers callers spent = let l = all_made 64 vs callers spent (roots_once z given (map numbers_of vs) numbers) (roots_few z given (map numbers_of vs) numbers sizes) in omega arith
