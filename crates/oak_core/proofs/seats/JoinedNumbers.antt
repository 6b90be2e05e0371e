-- The numbers of two passes, one of which is joined into the other.
use Rattle.std.proofs.Common.{◌≡◌, ℕ, ◌+◌, ◌*◌, ◌≤◌, cond, Bool, [], ◌∷◌, ◌++◌, sym, ap, ◌∙◌, subst, arith}
use Rattle.oak_model.specs.Counts.{one_at, total, below}
use Rattle.oak_model.proofs.Counting.{total_append, below_add, below_same}
use Rattle.oak_core.specs.declared.states.Joined.{Joined}
use Rattle.oak_core.specs.declared.states.PassState.{PassState}
use Rattle.oak_core.specs.PassState.{rooted, in_hand, has_number, is_parent, splits_of, joined_from, both_state, spent_state}
use Rattle.oak_core.specs.Schedule.{MayJoin}

module _ (v w : PassState) (may : MayJoin w) where
  abbrev both : PassState
  both = both_state v w

  -- the other's own number and those joined into it
  roots : (k : ℕ) → rooted k both.numbers ≡ rooted k v.numbers + rooted k w.numbers
  unfolding total
  roots k = let a = total_append (λ (j : Joined). one_at j.number k) v.numbers.joined (joined_from w ∷ w.numbers.joined) in
      let b : cond w.numbers.spent 0 (one_at w.numbers.number k) ≡ one_at w.numbers.number k = ap (λ (t : Bool). cond t 0 (one_at w.numbers.number k)) may.going in
      let c : ℕ = cond v.numbers.spent 0 (one_at v.numbers.number k) in let d : ℕ = total (λ (j : Joined). one_at j.number k) w.numbers.joined in let f : ℕ = total (λ (j : Joined). one_at j.number k) v.numbers.joined in
      let g : ℕ = total (λ (j : Joined). one_at j.number k) (v.numbers.joined ++ joined_from w ∷ w.numbers.joined) in let o : ℕ = one_at w.numbers.number k in let x : ℕ = cond w.numbers.spent 0 (one_at w.numbers.number k) in
      let a' : g ≡ f + (o + d) = a in let b' : x ≡ o = b in let h : c + g ≡ (c + f) + (x + d) = omega arith in h

  pub same_numbers_joined : (k : ℕ) → total (has_number k) (both.numbers ∷ spent_state.numbers ∷ []) ≡ total (has_number k) (v.numbers ∷ w.numbers ∷ [])
  unfolding total
  same_numbers_joined k = let a : in_hand k w.numbers.hand ≡ 0 = ap (in_hand k) may.idle.hand in let b = roots k in
      let x : ℕ = rooted k both.numbers in let p : ℕ = rooted k v.numbers in let q : ℕ = rooted k w.numbers in let hv : ℕ = in_hand k v.numbers.hand in let hw : ℕ = in_hand k w.numbers.hand in
      let b' : x ≡ p + q = b in let a' : hw ≡ 0 = a in let h : (x + hv) + (0 + 0 + 0 + 0) ≡ (p + hv) + ((q + hw) + 0) = omega arith in h

  pub same_splits_joined : (k : ℕ) → total (splits_of k) (both.numbers ∷ spent_state.numbers ∷ []) ≡ total (splits_of k) (v.numbers ∷ w.numbers ∷ [])
  unfolding total
  same_splits_joined k = let p : ℕ = splits_of k v.numbers in let q : ℕ = splits_of k w.numbers in let x : ℕ = splits_of k both.numbers in
      let e : x ≡ p + q = total_append (λ (n : ℕ). one_at n k) v.numbers.made w.numbers.made in let h : x + (0 + 0) ≡ p + (q + 0) = omega arith in h

  pub more_parents_joined : (k : ℕ) → total (is_parent k) (v.numbers ∷ w.numbers ∷ []) ≤ total (is_parent k) (both.numbers ∷ spent_state.numbers ∷ [])
  unfolding total
  more_parents_joined k =
      let below_both : below (λ n. rooted n both.numbers) k ≡ below (λ n. rooted n v.numbers) k + below (λ n. rooted n w.numbers) k =
      below_same (λ n. rooted n both.numbers) (λ n. rooted n v.numbers + rooted n w.numbers) k (λ n _. roots n) ∙ below_add (λ n. rooted n v.numbers) (λ n. rooted n w.numbers) k in
      let made_both : total (λ (n : ℕ). one_at n k) both.numbers.made ≡ total (λ (n : ℕ). one_at n k) v.numbers.made + total (λ (n : ℕ). one_at n k) w.numbers.made =
      total_append (λ (n : ℕ). one_at n k) v.numbers.made w.numbers.made in
      let p = products (below (λ n. rooted n v.numbers) k) (total (λ (n : ℕ). one_at n k) v.numbers.made) (below (λ n. rooted n w.numbers) k) (total (λ (n : ℕ). one_at n k) w.numbers.made) in
      let whole : is_parent k both.numbers ≡ (below (λ n. rooted n v.numbers) k + below (λ n. rooted n w.numbers) k) * (total (λ (n : ℕ). one_at n k) v.numbers.made + total (λ (n : ℕ). one_at n k) w.numbers.made) =
      (λ i. below_both i * made_both i) in
      let a : ℕ = is_parent k v.numbers in let b : ℕ = is_parent k w.numbers in let c : ℕ = is_parent k both.numbers in let d : ℕ = is_parent k spent_state.numbers in
      let e : a + b ≤ c = subst (λ (n : ℕ). a + b ≤ n) (sym whole) p in let h : a + (b + 0) ≤ c + (d + 0) = omega arith in h
    where
      products : (a b c d : ℕ) → a * b + c * d ≤ (a + c) * (b + d)
      products a b c d = grind arith
