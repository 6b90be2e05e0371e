-- Of a table that a pass closes all of whose joined passes wrote nothing, each history is the pass's own writes.
use Rattle.std.proofs.Common.{◌≡◌, ◌≢◌, ℕ, ◌<◌, Bool, cond, false, List, [], ◌∷◌, map, sym, refl, ap, ◌∙◌, subst, arith, inl, inr}
use Rattle.std.proofs.lemmas.Bool.{cases_Bool}
use mathlib.Core.Logic.{dite}
use mathlib.Core.Option.{some, some-injective}
use native.Mathlib.Decide.{ℕ_discrete, dec_lt}
use lib.ListN.{get_elem?}
use Rattle.oak_model.specs.Counts.{one_at, total, Each}
use Rattle.oak_model.specs.Limits.{Sizes}
use Rattle.oak_model.proofs.Counting.{one_at-other, total_some}
use Rattle.oak_model.proofs.Lists.{at_unmap}
use Rattle.oak_core.specs.declared.states.Joined.{Joined}
use Rattle.oak_core.specs.declared.states.KeyedWrite.{KeyedWrite}
use Rattle.oak_core.specs.declared.states.Numbers.{Numbers}
use Rattle.oak_core.specs.declared.states.PassState.{PassState}
use Rattle.oak_core.specs.Callers.{AreWritesOf, CallsRise, of_caller}
use Rattle.oak_core.specs.KeyReads.{history_now}
use Rattle.oak_core.specs.PassState.{numbers_of, of_key, rooted, seen_of, spent_state}
use Rattle.oak_core.specs.Splitting.{Ends}
use Rattle.oak_core.proofs.histories.CallerWrites.{caller-cases}

-- writes of which none is another caller's
one_caller : (n : ℕ) (h : List KeyedWrite) → ((i : ℕ) → i ≢ n → of_caller i h ≡ []) → of_caller n h ≡ h
unfolding of_caller
one_caller n [] none = refl
one_caller n (w ∷ ws) none = dite (ℕ_discrete w.write.caller n)
    (λ e. caller-cases n w ws (λ l. l ≡ w ∷ ws)
    (λ _. ap (λ (l : List KeyedWrite). w ∷ l) (one_caller n ws (λ i ne. caller-cases i w ws (λ l. l ≡ [] → of_caller i ws ≡ []) (λ same _. absurd (ne (sym same ∙ e))) (λ _ q. q) (none i ne))))
    (λ ne. absurd (ne e)))
    (λ ne. absurd (caller-cases w.write.caller w ws (λ l. l ≡ [] → ⊥) (λ _ q. absurd cc) (λ other _. other refl) (none w.write.caller ne)))

none_of_none : (k : ℕ) (l : List KeyedWrite) → l ≡ [] → of_key k l ≡ []
unfolding of_key
none_of_none k l e = ap (of_key k) e

-- the number of a pass that was joined, and wrote nothing, has no writes
joined_none : (hist : ℕ → List KeyedWrite) (i k : ℕ) (js : List Joined) → Each (λ (j : Joined). AreWritesOf hist j.number j.mine) js → Each (λ (j : Joined). j.mine ≡ []) js → 0 < total (λ (j : Joined). one_at j.number i) js → of_caller i (hist k) ≡ []
unfolding total
joined_none hist i k [] all idle more = absurd (omega arith)
joined_none hist i k (j ∷ js) all idle more = dite (ℕ_discrete j.number i)
    (λ e. ap (λ (n : ℕ). of_caller n (hist k)) (sym e) ∙ (all.0.same k ∙ none_of_none k j.mine idle.0))
    (λ ne. let o = one_at-other j.number i ne in joined_none hist i k js all.1 idle.1 (omega arith))

module _ (z : Sizes) (words : List ℕ) (v : PassState) (e : Ends z words v) (number : v.numbers.number ≡ 1) (idle : Each (λ (j : Joined). j.mine ≡ []) v.numbers.joined) where
  abbrev hist : ℕ → List KeyedWrite
  hist = history_now e.table.states

  going : v.numbers.spent ≡ false
  going = elim (cases_Bool v.numbers.spent) [
    | inl t ↦ (let n = ap (λ (u : PassState). u.numbers.number) (e.rule.spent e.seat v e.here t) in absurd (omega arith))
    | inr f ↦ f
  ]

  own : AreWritesOf hist v.numbers.number v.knowledge.mine
  own = (e.rule.callers.writes e.seat v e.here).own going

  of_pass : (i k : ℕ) (u : PassState) → i ≢ v.numbers.number → u ≡ v → 0 < rooted i u.numbers → of_caller i (hist k) ≡ []
  of_pass i k u ne same more =
      let here : 0 < rooted i v.numbers = subst (λ (a : PassState). 0 < rooted i a.numbers) same more in
      let o = one_at-other v.numbers.number i (λ q. ne (sym q)) in
      let c : cond v.numbers.spent 0 (one_at v.numbers.number i) ≡ one_at v.numbers.number i = ap (λ (b : Bool). cond b 0 (one_at v.numbers.number i)) going in
      joined_none hist i k v.numbers.joined (e.rule.callers.writes e.seat v e.here).joined idle (omega arith)

  of_spent : (i : ℕ) (u : PassState) → u ≡ spent_state → 0 < rooted i u.numbers → ⊥
  unfolding total
  of_spent i u same more = let here : 0 < rooted i spent_state.numbers = subst (λ (a : PassState). 0 < rooted i a.numbers) same more in omega arith

  no_other : (i k : ℕ) → i ≢ v.numbers.number → of_caller i (hist k) ≡ []
  no_other i k ne = dite (dec_lt 0 (total (rooted i) (map numbers_of e.table.states)))
      (λ more. from (total_some (rooted i) (map numbers_of e.table.states) more))
      (λ none. e.rule.callers.others i k (omega arith))
    where
      from : (j : ℕ) × (n : Numbers) × (get_elem? (map numbers_of e.table.states) j ≡ some n) × (0 < rooted i n) → of_caller i (hist k) ≡ []
      from t = let u = at_unmap numbers_of e.table.states t.0 t.1 t.2 in
          let some_root : 0 < rooted i u.0.numbers = subst (λ (n : Numbers). 0 < rooted i n) (sym u.2) t.3 in
          dite (ℕ_discrete t.0 e.seat)
          (λ q. of_pass i k u.0 ne (some-injective u.0 v (sym u.1 ∙ (ap (get_elem? e.table.states) q ∙ e.here))) some_root)
          (λ away. absurd (of_spent i u.0 (e.others t.0 u.0 away u.1) some_root))

  -- what it has seen of a key is what it wrote of it
  pub seen_is_own : (k : ℕ) → seen_of k v.knowledge ≡ of_key k v.knowledge.mine
  seen_is_own k = sym (e.histories k) ∙ (sym (one_caller v.numbers.number (hist k) (λ i ne. no_other i k ne)) ∙ own.same k)

  -- and its calls are numbered upward
  pub own_rise : CallsRise v.knowledge.mine
  own_rise = own.rise
