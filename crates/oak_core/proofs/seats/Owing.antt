-- A pass that was split often is alone again when all that was split off came back, in whatever order.
use Rattle.std.proofs.Common.{◌≡◌, ℕ, ◌+◌, ◌<◌, ◌⊎◌, inl, inr, ⊎_elim, cond, Bool, false, List, [], ◌∷◌, ◌++◌, None, refl, ap, subst, sym, arith}
use mathlib.Core.Logic.{dite}
use native.Mathlib.Decide.{dec_lt}
use Rattle.oak_model.specs.Limits.{Sizes}
use Rattle.oak_model.specs.Counts.{one_at, total, Has}
use Rattle.oak_model.proofs.Counting.{one_at-same, one_at-true, total_append}
use Rattle.oak_core.specs.declared.states.Joined.{Joined}
use Rattle.oak_core.specs.declared.states.Numbers.{Numbers}
use Rattle.oak_core.specs.declared.states.PassState.{PassState}
use Rattle.oak_core.specs.PassState.{both_state, joined_from, rooted, IsAlone}
use Rattle.oak_core.specs.Splitting.{SplitsOff}
use Rattle.oak_core.specs.Owing.{Owes}

pub alone_owing : (v : PassState) → 0 < rooted 0 v.numbers → Owes [] v.numbers → IsAlone v
alone_owing v first owes = record { first = first; others = λ k h. ⊎_elim (λ (r : 0 < rooted k v.numbers). r) (λ no. absurd no) (owes k h) }

pub owing_alone : (v : PassState) → IsAlone v → Owes [] v.numbers
owing_alone v alone k h = inl (alone.others k h)

module _ (z : Sizes) (call : ℕ) (v w x : PassState) (off : SplitsOff z call v w x) where
  old_is : w.numbers ≡ record v.numbers { made = v.numbers.made ++ off.number ∷ [] }
  old_is = λ i. (off.old i).numbers

  new_is : x.numbers ≡ record { number = off.number; spent = false; hand = None; made = []; joined = [] }
  new_is = λ i. (off.new i).numbers

  -- the one that splits owes one number more
  pub split_rooted : (k : ℕ) → rooted k w.numbers ≡ rooted k v.numbers
  split_rooted k = ap (rooted k) old_is

  pub split_owes : (ks : List ℕ) → Owes ks v.numbers → Owes (off.number ∷ ks) w.numbers
  unfolding total
  split_owes ks owes = subst (Owes (off.number ∷ ks)) (sym old_is) (λ k h.
      let a = total_append (λ (i : ℕ). one_at i k) v.numbers.made (off.number ∷ []) in
      dite (dec_lt 0 (total (λ (i : ℕ). one_at i k) v.numbers.made))
      (λ l. ⊎_elim (λ (r : 0 < rooted k v.numbers). inl r) (λ (e : Has k ks). inr (inr e)) (owes k l))
      (λ no. inr (inl (sym (one_at-true off.number k (omega arith))))))

  -- the new pass owes nothing, and has its number
  pub new_owes : Owes [] x.numbers
  unfolding total
  new_owes = subst (Owes []) (sym new_is) (λ k h. absurd (omega arith))

  pub new_rooted : 0 < rooted off.number x.numbers
  new_rooted = subst (λ (a : Numbers). 0 < rooted off.number a) (sym new_is) (let o = one_at-same off.number off.number refl in omega arith)

module _ (v x : PassState) (live : x.numbers.spent ≡ false) where
  -- a number that either has both have
  pub both_rooted : (k : ℕ) → rooted k (both_state v x).numbers ≡ rooted k v.numbers + rooted k x.numbers
  unfolding total
  both_rooted k = let a = total_append (λ (j : Joined). one_at j.number k) v.numbers.joined (joined_from x ∷ x.numbers.joined) in
      let own : cond x.numbers.spent 0 (one_at x.numbers.number k) ≡ one_at x.numbers.number k = ap (λ (t : Bool). cond t 0 (one_at x.numbers.number k)) live in omega arith

  -- what one owes and the other has is owed no more
  pub join_owes : (ks js ls : List ℕ) → Owes ks v.numbers → Owes js x.numbers
      → ((k : ℕ) → Has k ks → (0 < rooted k x.numbers) ⊎ Has k ls) → ((k : ℕ) → Has k js → (0 < rooted k v.numbers) ⊎ Has k ls)
      → Owes ls (both_state v x).numbers
  join_owes ks js ls mine its left right k h =
      let a = total_append (λ (i : ℕ). one_at i k) v.numbers.made x.numbers.made in
      let r = both_rooted k in
      let from_v : 0 < rooted k v.numbers → (0 < rooted k (both_state v x).numbers) ⊎ Has k ls = λ o. inl (omega arith) in
      let from_x : 0 < rooted k x.numbers → (0 < rooted k (both_state v x).numbers) ⊎ Has k ls = λ o. inl (omega arith) in
      dite (dec_lt 0 (total (λ (i : ℕ). one_at i k) v.numbers.made))
      (λ l. ⊎_elim from_v (λ (e : Has k ks). ⊎_elim from_x (λ (e : Has k ls). inr e) (left k e)) (mine k l))
      (λ no. let l : 0 < total (λ (i : ℕ). one_at i k) x.numbers.made = omega arith in
      ⊎_elim from_x (λ (e : Has k js). ⊎_elim from_v (λ (e : Has k ls). inr e) (right k e)) (its k l))

  -- the pass takes in one that owes nothing
  pub join_one : (n : ℕ) (ks : List ℕ) → Owes (n ∷ ks) v.numbers → Owes [] x.numbers → 0 < rooted n x.numbers → Owes ks (both_state v x).numbers
  join_one n ks mine its has = join_owes (n ∷ ks) [] ks mine its
      (λ k e. ⊎_elim (λ (q : k ≡ n). inl (subst (λ (i : ℕ). 0 < rooted i x.numbers) (sym q) has)) (λ (e : Has k ks). inr e) e)
      (λ k no. absurd no)
