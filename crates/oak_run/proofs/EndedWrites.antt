-- Of a table that a pass closes, each caller's writes are those of the one pass with its number: the last, or one that was joined into it.
use Rattle.std.proofs.Common.{◌≡◌, ◌≢◌, ℕ, ◌+◌, ◌<◌, ◌==◌, Bool, cond, false, List, [], ◌∷◌, map, sym, refl, ap, ◌∙◌, subst, arith, inl, inr}
use Rattle.std.proofs.lemmas.Bool.{cases_Bool}
use mathlib.Core.Logic.{dite}
use mathlib.Core.Option.{some, some-injective}
use native.Mathlib.Decide.{ℕ_discrete, dec_lt}
use lib.ListN.{get_elem?}
use Rattle.oak_model.specs.Counts.{one_at, total, Each}
use Rattle.oak_model.specs.Limits.{Sizes}
use Rattle.oak_model.proofs.Counting.{decided, one_at-other, one_at-same, total_zero}
use Rattle.oak_model.proofs.Lists.{at_unmap}
use Rattle.oak_core.specs.declared.states.Joined.{Joined}
use Rattle.oak_core.specs.declared.states.KeyedWrite.{KeyedWrite}
use Rattle.oak_core.specs.declared.states.PassState.{PassState}
use Rattle.oak_core.specs.Callers.{AreWritesOf, of_caller}
use Rattle.oak_core.specs.Closing.{all_passes}
use Rattle.oak_core.specs.KeyReads.{history_now}
use Rattle.oak_core.specs.PassState.{IsAlone, numbers_of, of_key, rooted, seen_of, spent_state}
use Rattle.oak_core.specs.Splitting.{Ends}

-- what the first pass with the number wrote
abbrev pub mine_in : ℕ → List Joined → List KeyedWrite
mine_in i [] = []
mine_in i (j ∷ js) = cond (j.number == i) j.mine (mine_in i js)

pub mine-cases : (i : ℕ) (j : Joined) (js : List Joined) (P : List KeyedWrite → Type 0) → (j.number ≡ i → P j.mine) → (j.number ≢ i → P (mine_in i js)) → P (mine_in i (j ∷ js))
mine-cases i j js P same other = decided j.number i (λ b. P (cond b j.mine (mine_in i js))) same other

there_of : (hist : ℕ → List KeyedWrite) (i : ℕ) (js : List Joined) → Each (λ (j : Joined). AreWritesOf hist j.number j.mine) js → 0 < total (λ (j : Joined). one_at j.number i) js → AreWritesOf hist i (mine_in i js)
unfolding total
there_of hist i [] all more = absurd (omega arith)
there_of hist i (j ∷ js) all more = mine-cases i j js (AreWritesOf hist i)
    (λ e. subst (λ (n : ℕ). AreWritesOf hist n j.mine) e all.0)
    (λ ne. let o = one_at-other j.number i ne in there_of hist i js all.1 (omega arith))

none_of : (i : ℕ) (js : List Joined) → total (λ (j : Joined). one_at j.number i) js ≡ 0 → mine_in i js ≡ []
unfolding total
none_of i [] none = refl
none_of i (j ∷ js) none = mine-cases i j js (λ l. l ≡ [])
    (λ e. let o = one_at-same j.number i e in absurd (omega arith))
    (λ _. none_of i js (omega arith))

no_key : (k : ℕ) → [] ≡ of_key k []
unfolding of_key
no_key k = refl

module _ (z : Sizes) (words : List ℕ) (v : PassState) (e : Ends z words v) (alone : IsAlone v) where
  abbrev hist : ℕ → List KeyedWrite
  hist = history_now e.table.states

  none_spent : v ≡ spent_state → ⊥
  unfolding total
  none_spent same = let first : 0 < rooted 0 spent_state.numbers = subst (λ (u : PassState). 0 < rooted 0 u.numbers) same alone.first in omega arith

  going : v.numbers.spent ≡ false
  going = elim (cases_Bool v.numbers.spent) [
    | inl t ↦ absurd (none_spent (e.rule.spent e.seat v e.here t))
    | inr f ↦ f
  ]

  all_stand : Each (λ (j : Joined). AreWritesOf hist j.number j.mine) (all_passes v)
  all_stand = let s = e.rule.callers.writes e.seat v e.here in (s.own going, s.joined)

  -- its own number, and those of the passes that were joined into it, are all that it has
  roots_are : (i : ℕ) → rooted i v.numbers ≡ total (λ (j : Joined). one_at j.number i) (all_passes v)
  unfolding total
  roots_are i = ap (λ (b : Bool). cond b 0 (one_at v.numbers.number i) + total (λ (j : Joined). one_at j.number i) v.numbers.joined) going

  root_of : (i : ℕ) → rooted i v.numbers ≡ 0 → (j : ℕ) (u : PassState) → get_elem? e.table.states j ≡ some u → rooted i u.numbers ≡ 0
  unfolding total
  root_of i none j u there = dite (ℕ_discrete j e.seat)
      (λ q. ap (λ (a : PassState). rooted i a.numbers) (some-injective u v (sym there ∙ (ap (get_elem? e.table.states) q ∙ e.here))) ∙ none)
      (λ away. ap (λ (a : PassState). rooted i a.numbers) (e.others j u away there))

  no_root : (i k : ℕ) → rooted i v.numbers ≡ 0 → of_caller i (hist k) ≡ []
  no_root i k none = e.rule.callers.others i k (total_zero (rooted i) (map numbers_of e.table.states) (λ j n there.
      let u = at_unmap numbers_of e.table.states j n there in ap (rooted i) (sym u.2) ∙ root_of i none j u.0 u.1))

  by_caller : (i : ℕ) → AreWritesOf hist i (mine_in i (all_passes v))
  by_caller i = dite (dec_lt 0 (total (λ (j : Joined). one_at j.number i) (all_passes v)))
      (λ more. there_of hist i (all_passes v) all_stand more)
      (λ none. let root = roots_are i in subst (AreWritesOf hist i) (sym (none_of i (all_passes v) (omega arith))) (record { same = λ k. no_root i k (omega arith) ∙ no_key k; rise = tt; small = tt }))

  -- the histories are what the last pass has seen
  pub ended_writes : (i : ℕ) → AreWritesOf (λ k. seen_of k v.knowledge) i (mine_in i (all_passes v))
  ended_writes i = let w = by_caller i in record { same = λ k. ap (of_caller i) (sym (e.histories k)) ∙ w.same k; rise = w.rise; small = w.small }
