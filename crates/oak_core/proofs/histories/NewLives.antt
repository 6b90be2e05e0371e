-- A life that no pass knows was begun by no write.
use Rattle.std.proofs.Common.{◌≡◌, ◌≢◌, ℕ, ◌+◌, ◌*◌, ◌<◌, ◌≤◌, true, false, List, [], ◌∷◌, map, refl, ap, ◌∙◌, subst, arith}
use mathlib.Core.Logic.{dite}
use mathlib.Core.Option.{some}
use native.Mathlib.Decide.{ℕ_discrete, dec_lt}
use lib.ListN.{get_elem?}
use Rattle.oak_model.specs.Counts.{one_at, one_if, total, Each}
use Rattle.oak_model.specs.KeyNumber.{key_number}
use Rattle.oak_model.proofs.Counting.{one_at-same, one_at-other, one_at-le, test-cases, total_some}
use Rattle.oak_model.proofs.RowLaws.{total_le}
use Rattle.oak_model.proofs.SumLaws.{total_empty}
use Rattle.chunk_core.specs.ValueWord.{names_header, header_in, generation_in, names_life}
use Rattle.oak_core.specs.declared.states.Joined.{Joined}
use Rattle.oak_core.specs.declared.states.KeyedWrite.{KeyedWrite}
use Rattle.oak_core.specs.declared.states.PassState.{PassState}
use Rattle.oak_core.specs.Callers.{of_caller, AreWritesOf, made_of, begins, CallersAgree}
use Rattle.oak_core.specs.KeyReads.{home_of}
use Rattle.oak_core.specs.Known.{known}
use Rattle.oak_core.specs.PassState.{history, of_key, knowledge_of}
use Rattle.oak_core.proofs.histories.CallerWrites.{caller-cases}
use Rattle.oak_core.proofs.memory.HomeWords.{NamesAt}
use Rattle.oak_core.proofs.histories.KnownWrites.{history_known}
use Rattle.oak_core.proofs.lessons.Teaching.{of_key-cases}

key_part : (f : KeyedWrite → ℕ) (l : List KeyedWrite) → 0 < total f l → (k : ℕ) × (0 < total f (of_key k l))
unfolding total of_key
key_part f [] p = absurd (omega arith)
key_part f (w ∷ ws) p = dite (dec_lt 0 (f w)) (λ l. (key_number w.key, of_key-cases (key_number w.key) w ws (λ t. 0 < total f t) (λ _. omega arith) (λ ne. absurd (ne refl))))
    (λ no. let r = key_part f ws (omega arith) in (r.0, of_key-cases r.0 w ws (λ t. 0 < total f t) (λ _. let q = r.1 in omega arith) (λ _. r.1)))

caller_less : (f : KeyedWrite → ℕ) (i : ℕ) (l : List KeyedWrite) → total f (of_caller i l) ≤ total f l
unfolding total of_caller
caller_less f i [] = omega arith
caller_less f i (w ∷ ws) = let t = caller_less f i ws in caller-cases i w ws (λ l. total f l ≤ f w + total f ws) (λ _. omega arith) (λ _. omega arith)

-- writes of a list that some pass made are in the histories
made_known : (hist : ℕ → List KeyedWrite) (f : KeyedWrite → ℕ) (i : ℕ) (mine : List KeyedWrite) → AreWritesOf hist i mine → 0 < total f mine → (k : ℕ) × (0 < total f (hist k))
made_known hist f i mine a p = let t = key_part f mine p in let e = ap (total f) (a.same t.0) in let l = caller_less f i (hist t.0) in let q = t.1 in (t.0, omega arith)

joined_known : (hist : ℕ → List KeyedWrite) (f : KeyedWrite → ℕ) (js : List Joined) → Each (λ (j : Joined). AreWritesOf hist j.number j.mine) js → 0 < total (λ (j : Joined). total f j.mine) js → (k : ℕ) × (0 < total f (hist k))
unfolding total
joined_known hist f [] h p = absurd (omega arith)
joined_known hist f (j ∷ js) h p = dite (dec_lt 0 (total f j.mine)) (λ l. made_known hist f j.number j.mine h.0 l) (λ no. joined_known hist f js h.1 (omega arith))

-- a spent pass made nothing that it still keeps
module _ (vs : List PassState) (callers : CallersAgree vs) (spent : (j : ℕ) (v : PassState) → get_elem? vs j ≡ some v → v.numbers.spent ≡ true → v.knowledge.mine ≡ []) (h g : ℕ) (at : NamesAt h g) (unknown : known (map knowledge_of vs) h g ≡ 0) where
  begun_life : (w : KeyedWrite) → begins (home_of h g) w ≤ names_life h g w.home
  begun_life w = dite (ℕ_discrete w.home (home_of h g)) (λ e. let n = ap (names_life h g) e in let o = one_at-same (header_in (home_of h g)) h at.header in let q = one_at-same (generation_in (home_of h g)) g at.generation in
      let s : names_life h g (home_of h g) ≡ 1 = one (names_header (home_of h g)) (one_at (header_in (home_of h g)) h) (one_at (generation_in (home_of h g)) g) at.names o q in let l = small w in omega arith)
      (λ ne. let z = none w ne in omega arith)
    where
      one : (a b c : ℕ) → a ≡ 1 → b ≡ 1 → c ≡ 1 → a * b * c ≡ 1
      one a b c e f d = grind arith

      small : (w : KeyedWrite) → begins (home_of h g) w ≤ 1
      small w = let o = one_at-le w.home (home_of h g) in test-cases w.inserts (λ t. one_if t * one_at w.home (home_of h g) ≤ 1) (λ _. omega arith) (λ _. omega arith)

      none : (w : KeyedWrite) → w.home ≢ home_of h g → begins (home_of h g) w ≡ 0
      none w ne = let o = one_at-other w.home (home_of h g) ne in ap (λ (t : ℕ). one_if w.inserts * t) o ∙ zero_times (one_if w.inserts)
        where
          zero_times : (a : ℕ) → a * 0 ≡ 0
          zero_times a = omega arith

  pub none_begun : total (made_of (begins (home_of h g))) vs ≡ 0
  none_begun = dite (dec_lt 0 (total (made_of (begins (home_of h g))) vs)) (λ l. absurd (found (total_some (made_of (begins (home_of h g))) vs l))) (λ no. omega arith)
    where
      in_history : (k : ℕ) × (0 < total (begins (home_of h g)) (history k (map knowledge_of vs))) → ⊥
      in_history t = let a = total_le (begins (home_of h g)) (λ (w : KeyedWrite). names_life h g w.home) (history t.0 (map knowledge_of vs)) begun_life in let k = history_known h g t.0 (map knowledge_of vs) (let q = t.1 in omega arith) in let u = unknown in omega arith

      found : (j : ℕ) × (v : PassState) × (get_elem? vs j ≡ some v) × (0 < made_of (begins (home_of h g)) v) → ⊥
      found t = let s = callers.writes t.0 t.1 t.2 in dite (dec_lt 0 (total (begins (home_of h g)) t.1.knowledge.mine))
          (λ l. in_history (made_known (λ k. history k (map knowledge_of vs)) (begins (home_of h g)) t.1.numbers.number t.1.knowledge.mine (s.own (going t.0 t.1 t.2 l)) l))
          (λ no. in_history (joined_known (λ k. history k (map knowledge_of vs)) (begins (home_of h g)) t.1.numbers.joined s.joined (let q = t.3 in omega arith)))
        where
          going : (j : ℕ) (v : PassState) → get_elem? vs j ≡ some v → 0 < total (begins (home_of h g)) v.knowledge.mine → v.numbers.spent ≡ false
          going j v e l = test-cases v.numbers.spent (λ b. (v.numbers.spent ≡ b) → v.numbers.spent ≡ false) (λ _ y. absurd (total_empty (begins (home_of h g)) (subst (λ (t : List KeyedWrite). 0 < total (begins (home_of h g)) t) (spent j v e y) l))) (λ _ y. y) refl
