-- What is added up over lists that are gathered by their weights.
use Rattle.std.proofs.Common.{◌≡◌, ℕ, zero, suc, ◌+◌, ◌*◌, List, sym, refl, ap, ◌∙◌, arith, suc-mul}
use Rattle.oak_model.specs.Counts.{total, below, Each}
use Rattle.oak_model.proofs.Counting.{total_append}
use Rattle.oak_model.proofs.Lists.{each_append}
use Rattle.lone_counts.specs.Entries.{times, gathered}

module _ {A : Type 0} (f : A → ℕ) where
  times_total : (n : ℕ) (xs : List A) → total f (times n xs) ≡ n * total f xs
  unfolding total times
  times_total zero xs = let z : 0 ≡ 0 * total f xs = omega arith in z
  times_total (suc n) xs = let t = times_total n xs in let s = total_append f xs (times n xs) in let m = suc-mul n (total f xs) in s ∙ (ap (λ (k : ℕ). total f xs + k) t ∙ ((let c : total f xs + n * total f xs ≡ n * total f xs + total f xs = omega arith in c) ∙ sym m))

  -- the sum over all is that of the lists, by their weights
  pub gathered_total : (w : ℕ → ℕ) (es : ℕ → List A) (n : ℕ) → total f (gathered w es n) ≡ below (λ r. w r * total f (es r)) n
  unfolding total gathered below
  gathered_total w es zero = refl
  gathered_total w es (suc n) = let t = gathered_total w es n in let s = total_append f (gathered w es n) (times (w n) (es n)) in let m = times_total (w n) (es n) in s ∙ (ap (λ (k : ℕ). k + total f (times (w n) (es n))) t ∙ ap (λ (k : ℕ). below (λ r. w r * total f (es r)) n + k) m)

module _ {A : Type 0} (P : A → Type 0) where
  times_each : (n : ℕ) (xs : List A) → Each P xs → Each P (times n xs)
  unfolding times
  times_each zero xs h = tt
  times_each (suc n) xs h = each_append P xs (times n xs) h (times_each n xs h)

  -- what holds of each part of the lists holds of each part of all
  pub gathered_each : (w : ℕ → ℕ) (es : ℕ → List A) (n : ℕ) → ((r : ℕ) → Each P (es r)) → Each P (gathered w es n)
  unfolding gathered
  gathered_each w es zero h = tt
  gathered_each w es (suc n) h = each_append P (gathered w es n) (times (w n) (es n)) (gathered_each w es n h) (times_each (w n) (es n) (h n))
