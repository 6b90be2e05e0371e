-- The pass that was split off first, into which the first one is joined at once, is the only thread.
use Rattle.std.proofs.Common.{◌≡◌, ℕ, ◌+◌, ◌<◌, false, [], ◌∷◌, ◌++◌, None, sym, refl, ap, ◌∙◌, subst, arith}
use mathlib.Core.Logic.{dite}
use native.Mathlib.Decide.{ℕ_discrete}
use Rattle.oak_model.specs.Counts.{Each, one_at, total}
use Rattle.oak_model.specs.Limits.{Sizes}
use Rattle.oak_model.proofs.Counting.{one_at-same}
use Rattle.oak_core.specs.declared.states.Joined.{Joined}
use Rattle.oak_core.specs.declared.states.Numbers.{Numbers}
use Rattle.oak_core.specs.declared.states.PassState.{PassState}
use Rattle.oak_core.specs.PassState.{bare_state, both_state, has_number, joined_from, rooted}
use Rattle.oak_core.specs.Splitting.{SplitsOff}
use Rattle.oak_run.specs.Reads.{IsOnlyThread}

-- its numbers are all that matters
pub only_still : (v w : PassState) → w.numbers ≡ v.numbers → IsOnlyThread v → IsOnlyThread w
only_still v w same o = record {
  number = ap (λ (n : Numbers). n.number) same ∙ o.number;
  idle = subst (λ (n : Numbers). Each (λ (j : Joined). j.mine ≡ []) n.joined) (sym same) o.idle;
  alone = record { first = subst (λ (n : Numbers). 0 < rooted 0 n) (sym same) o.alone.first; others = subst (λ (n : Numbers). (k : ℕ) → 0 < total (λ (m : ℕ). one_at m k) n.made → 0 < rooted k n) (sym same) o.alone.others };
}

module _ (z : Sizes) (call : ℕ) (v w x : PassState) (two : z.passes ≡ 2) (bare : v.numbers ≡ bare_state.numbers) (none : v.knowledge.mine ≡ []) (off : SplitsOff z call v w x) where
  has_first : has_number 0 v.numbers ≡ 1
  unfolding total
  has_first = ap (has_number 0) bare ∙ (let o = one_at-same 0 0 refl in omega arith)

  is_one : off.number ≡ 1
  is_one = let few = off.few in dite (ℕ_discrete off.number 0)
      (λ e. let h = has_first in let u = ap (λ (n : ℕ). has_number n v.numbers) e in let q = off.unowned in absurd (omega arith))
      (λ ne. omega arith)

  old_numbers : w.numbers ≡ record bare_state.numbers { made = off.number ∷ [] }
  old_numbers = ap (λ (y : PassState). y.numbers) off.old ∙ ap (λ (n : Numbers). record n { made = n.made ++ off.number ∷ [] }) bare

  -- what the two have together
  both_numbers : (both_state x w).numbers ≡ record { number = 1; spent = false; hand = None; made = 1 ∷ []; joined = joined_from w ∷ [] }
  both_numbers = ap (λ (n : Numbers). record n { made = n.made ++ w.numbers.made; joined = n.joined ++ joined_from w ∷ w.numbers.joined }) (ap (λ (y : PassState). y.numbers) off.new)
      ∙ (ap (λ (n : Numbers). record { number = off.number; spent = false; hand = None; made = n.made; joined = joined_from w ∷ n.joined }) old_numbers
      ∙ ap (λ (k : ℕ). record { number = k; spent = false; hand = None; made = k ∷ []; joined = joined_from w ∷ [] }) is_one)

  of_one : (a b : ℕ) → 0 < a + 0 → 0 < a + b
  of_one a b p = omega arith

  alone_then : (n : Numbers) → n ≡ record { number = 1; spent = false; hand = None; made = 1 ∷ []; joined = joined_from w ∷ [] } → (0 < rooted 0 n) × ((k : ℕ) → 0 < total (λ (m : ℕ). one_at m k) n.made → 0 < rooted k n)
  unfolding total
  alone_then n e = subst (λ (a : Numbers). (0 < rooted 0 a) × ((k : ℕ) → 0 < total (λ (m : ℕ). one_at m k) a.made → 0 < rooted k a)) (sym e)
      ((let first : w.numbers.number ≡ 0 = ap (λ (a : Numbers). a.number) old_numbers in let o = one_at-same w.numbers.number 0 first in omega arith), (λ k p. of_one (one_at 1 k) (one_at w.numbers.number k + 0) p))

  pub only_thread : IsOnlyThread (both_state x w)
  only_thread = record {
    number = ap (λ (n : Numbers). n.number) both_numbers;
    idle = subst (λ (n : Numbers). Each (λ (j : Joined). j.mine ≡ []) n.joined) (sym both_numbers) (ap (λ (y : PassState). y.knowledge.mine) off.old ∙ none, tt);
    alone = let a = alone_then (both_state x w).numbers both_numbers in record { first = a.0; others = a.1 };
  }

  -- and it has written nothing itself
  pub nothing_written : (both_state x w).knowledge.mine ≡ []
  nothing_written = ap (λ (y : PassState). y.knowledge.mine) off.new
