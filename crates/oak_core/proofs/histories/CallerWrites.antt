-- A pass makes a write: it is the last of its own, and of no other's.
use Rattle.std.proofs.Common.{◌≡◌, ◌≢◌, ℕ, ◌+◌, ◌*◌, ◌^◌, ◌<◌, ◌≤◌, cond, Bool, true, false, List, [], ◌∷◌, ◌++◌, map, length, set, sym, refl, ap, ◌∙◌, subst, ⊎_elim, arith, eq-eqb, ne_eqb, append-nil, length-append}
use mathlib.Core.Logic.{dite}
use mathlib.Core.Option.{some}
use native.Mathlib.Decide.{ℕ_discrete, dec_lt}
use lib.ListN.{get_elem?}
use Rattle.oak_model.specs.Counts.{one_at, one_if, total, Each}
use Rattle.oak_model.specs.KeyNumber.{key_number}
use Rattle.oak_model.proofs.Counting.{one_at-same, one_at-true, one_at-le, test-cases, total_set, total_at, total_two, total_snoc}
use Rattle.oak_model.proofs.Lists.{at_set, at_map, map_set, map_set_same, each_append}
use Rattle.chunk_core.specs.ValueWord.{names_header}
use Rattle.oak_core.specs.declared.states.Joined.{Joined}
use Rattle.oak_core.specs.declared.states.KeyedWrite.{KeyedWrite}
use Rattle.oak_core.specs.declared.states.Knowledge.{Knowledge}
use Rattle.oak_core.specs.declared.states.Numbers.{Numbers}
use Rattle.oak_core.specs.declared.states.PassState.{PassState}
use Rattle.oak_core.specs.Callers.{of_caller, CallsRise, AreWritesOf, WritesStand, made_by, made_of, begins, CallersAgree}
use Rattle.oak_core.specs.Learning.{wrote}
use Rattle.oak_core.specs.PassState.{history, of_key, rooted, knowledge_of, numbers_of}
use Rattle.oak_core.specs.Rule.{HistoriesStand}
use Rattle.oak_core.proofs.histories.WrittenHistories.{wrote_here, wrote_others, of_key-append, of_key-one, of_key-other}

pub caller-cases : (i : ℕ) (w : KeyedWrite) (ws : List KeyedWrite) (P : List KeyedWrite → Type 0) → (w.write.caller ≡ i → P (w ∷ of_caller i ws)) → (w.write.caller ≢ i → P (of_caller i ws)) → P (of_caller i (w ∷ ws))
unfolding of_caller
caller-cases i w ws P same other = dite (ℕ_discrete w.write.caller i) (λ e. subst (λ (t : Bool). P (cond t (w ∷ of_caller i ws) (of_caller i ws))) (sym (eq-eqb w.write.caller i e)) (same e))
    (λ ne. subst (λ (t : Bool). P (cond t (w ∷ of_caller i ws) (of_caller i ws))) (sym (ne_eqb w.write.caller i ne)) (other ne))

of_caller-mine : (i : ℕ) (h : List KeyedWrite) (w : KeyedWrite) → w.write.caller ≡ i → of_caller i (h ++ w ∷ []) ≡ of_caller i h ++ w ∷ []
unfolding of_caller
of_caller-mine i [] w e = caller-cases i w [] (λ l. l ≡ w ∷ []) (λ _. refl) (λ ne. absurd (ne e))
of_caller-mine i (x ∷ xs) w e = let r = of_caller-mine i xs w e in caller-cases i x (xs ++ w ∷ []) (λ l. l ≡ of_caller i (x ∷ xs) ++ w ∷ [])
    (λ same. caller-cases i x xs (λ l. x ∷ of_caller i (xs ++ w ∷ []) ≡ l ++ w ∷ []) (λ _. ap (λ (l : List KeyedWrite). x ∷ l) r) (λ ne. absurd (ne same)))
    (λ ne. caller-cases i x xs (λ l. of_caller i (xs ++ w ∷ []) ≡ l ++ w ∷ []) (λ same. absurd (ne same)) (λ _. r))

of_caller-other : (i : ℕ) (h : List KeyedWrite) (w : KeyedWrite) → w.write.caller ≢ i → of_caller i (h ++ w ∷ []) ≡ of_caller i h
unfolding of_caller
of_caller-other i [] w n = caller-cases i w [] (λ l. l ≡ []) (λ e. absurd (n e)) (λ _. refl)
of_caller-other i (x ∷ xs) w n = let r = of_caller-other i xs w n in caller-cases i x (xs ++ w ∷ []) (λ l. l ≡ of_caller i (x ∷ xs))
    (λ same. caller-cases i x xs (λ l. x ∷ of_caller i (xs ++ w ∷ []) ≡ l) (λ _. ap (λ (l : List KeyedWrite). x ∷ l) r) (λ ne. absurd (ne same)))
    (λ ne. caller-cases i x xs (λ l. of_caller i (xs ++ w ∷ []) ≡ l) (λ same. absurd (ne same)) (λ _. r))

calls_snoc : (ws : List KeyedWrite) (w : KeyedWrite) → CallsRise ws → Each (λ (x : KeyedWrite). x.write.call < w.write.call) ws → CallsRise (ws ++ w ∷ [])
calls_snoc [] w r l = (tt, tt)
calls_snoc (x ∷ xs) w r l = (each_append (λ (y : KeyedWrite). x.write.call < y.write.call) xs (w ∷ []) r.0 (l.0, tt), calls_snoc xs w r.1 l.1)

module _ (vs : List PassState) (callers : CallersAgree vs) (histories : HistoriesStand (map knowledge_of vs)) (once : (i : ℕ) → total (rooted i) (map numbers_of vs) ≤ 1)
    (seat : ℕ) (v : PassState) (here : get_elem? vs seat ≡ some v) (going : v.numbers.spent ≡ false) (k : ℕ) (w : KeyedWrite) (key : key_number w.key ≡ k)
    (u : PassState) (numbers : u.numbers ≡ v.numbers) (knowledge : u.knowledge ≡ wrote k w (map knowledge_of vs) v.knowledge)
    (caller : w.write.caller ≡ v.numbers.number) (new : Each (λ (x : KeyedWrite). x.write.call < w.write.call) v.knowledge.mine) (small : w.write.call < 2 ^ 32)
    (alone : names_header w.home ≡ 1 → w.inserts ≡ true → total (made_of (begins w.home)) vs ≡ 0) where
  abbrev pub vs' : List PassState
  vs' = set vs seat u

  abbrev qs : List Knowledge
  qs = map knowledge_of vs

  abbrev hist : ℕ → List KeyedWrite
  hist j = history j (map knowledge_of vs)

  abbrev hist' : ℕ → List KeyedWrite
  hist' j = history j (map knowledge_of (set vs seat u))

  qs_is : map knowledge_of vs' ≡ set qs seat (wrote k w qs v.knowledge)
  qs_is = map_set knowledge_of vs seat u ∙ ap (λ (q : Knowledge). set qs seat q) knowledge

  here' : hist' k ≡ hist k ++ w ∷ []
  here' = ap (history k) qs_is ∙ wrote_here qs histories seat v.knowledge (at_map knowledge_of vs seat v here) k w key

  else' : (j : ℕ) → j ≢ k → hist' j ≡ hist j
  else' j ne = ap (history j) qs_is ∙ wrote_others qs histories seat v.knowledge (at_map knowledge_of vs seat v here) k w key j ne

  numbers_same : map numbers_of vs' ≡ map numbers_of vs
  numbers_same = map_set_same numbers_of vs seat v u here numbers

  mine_root : 0 < rooted v.numbers.number v.numbers
  mine_root = let o = one_at-same v.numbers.number v.numbers.number refl in let e : cond v.numbers.spent 0 (one_at v.numbers.number v.numbers.number) ≡ one_at v.numbers.number v.numbers.number = ap (λ (t : Bool). cond t 0 (one_at v.numbers.number v.numbers.number)) going in omega arith

  n_here : get_elem? (map numbers_of vs) seat ≡ some v.numbers
  n_here = at_map numbers_of vs seat v here

  -- of another number nothing changes
  other_caller : (i : ℕ) → i ≢ v.numbers.number → (j : ℕ) → of_caller i (hist' j) ≡ of_caller i (hist j)
  other_caller i ne j = dite (ℕ_discrete j k)
      (λ e. subst (λ (t : ℕ). of_caller i (hist' t) ≡ of_caller i (hist t)) (sym e) (ap (of_caller i) here' ∙ of_caller-other i (hist k) w (λ q. ne (sym q ∙ caller))))
      (λ no. ap (of_caller i) (else' j no))

  writes_other : (i : ℕ) (mine : List KeyedWrite) → i ≢ v.numbers.number → AreWritesOf hist i mine → AreWritesOf hist' i mine
  writes_other i mine ne a = record { same = λ j. other_caller i ne j ∙ a.same j; rise = a.rise; small = a.small }

  -- the pass's own
  writes_mine : AreWritesOf hist v.numbers.number v.knowledge.mine → AreWritesOf hist' v.numbers.number (v.knowledge.mine ++ w ∷ [])
  writes_mine a = record {
    same = λ j. dite (ℕ_discrete j k)
        (λ e. subst (λ (t : ℕ). of_caller v.numbers.number (hist' t) ≡ of_key t (v.knowledge.mine ++ w ∷ [])) (sym e)
        (ap (of_caller v.numbers.number) here' ∙ (of_caller-mine v.numbers.number (hist k) w caller ∙ (ap (λ (l : List KeyedWrite). l ++ w ∷ []) (a.same k) ∙ (ap (λ (l : List KeyedWrite). of_key k v.knowledge.mine ++ l) (sym (of_key-one k w key)) ∙ sym (of_key-append k v.knowledge.mine (w ∷ [])))))))
        (λ ne. ap (of_caller v.numbers.number) (else' j ne) ∙ (a.same j ∙ (sym (append-nil (of_key j v.knowledge.mine)) ∙ (ap (λ (l : List KeyedWrite). of_key j v.knowledge.mine ++ l) (sym (of_key-other j w (λ q. ne (sym q ∙ key)))) ∙ sym (of_key-append j v.knowledge.mine (w ∷ []))))));
    rise = calls_snoc v.knowledge.mine w a.rise new;
    small = each_append (λ (x : KeyedWrite). x.write.call < 2 ^ 32) v.knowledge.mine (w ∷ []) a.small (small, tt);
  }

  -- passes joined into one have other numbers
  joined_on : (js : List Joined) → total (λ (y : Joined). one_at y.number v.numbers.number) js ≡ 0 → Each (λ (j : Joined). AreWritesOf hist j.number j.mine) js → Each (λ (j : Joined). AreWritesOf hist' j.number j.mine) js
  unfolding total
  joined_on [] z e = tt
  joined_on (j ∷ js) z e = (writes_other j.number j.mine (λ q. let o = one_at-same j.number v.numbers.number q in absurd (omega arith)) e.0, joined_on js (omega arith) e.1)

  no_others : (j : ℕ) (t : PassState) → j ≢ seat → get_elem? vs j ≡ some t → rooted v.numbers.number t.numbers ≡ 0
  no_others j t ne at = let two = total_two (rooted v.numbers.number) (map numbers_of vs) seat j v.numbers t.numbers (λ q. ne (sym q)) n_here (at_map numbers_of vs j t at) in let o = once v.numbers.number in let m = mine_root in omega arith

  own_joined : total (λ (y : Joined). one_at y.number v.numbers.number) v.numbers.joined ≡ 0
  own_joined = let a = total_at (rooted v.numbers.number) (map numbers_of vs) seat v.numbers n_here in let o = once v.numbers.number in let s = one_at-same v.numbers.number v.numbers.number refl in
      let e : cond v.numbers.spent 0 (one_at v.numbers.number v.numbers.number) ≡ one_at v.numbers.number v.numbers.number = ap (λ (t : Bool). cond t 0 (one_at v.numbers.number v.numbers.number)) going in omega arith

  stands_on : (t : PassState) → rooted v.numbers.number t.numbers ≡ 0 → WritesStand hist t → WritesStand hist' t
  stands_on t z s = record {
    own = λ go. writes_other t.numbers.number t.knowledge.mine (λ q. let o = one_at-same t.numbers.number v.numbers.number q in let e : cond t.numbers.spent 0 (one_at t.numbers.number v.numbers.number) ≡ one_at t.numbers.number v.numbers.number = ap (λ (y : Bool). cond y 0 (one_at t.numbers.number v.numbers.number)) go in absurd (omega arith)) (s.own go);
    joined = joined_on t.numbers.joined (omega arith) s.joined;
  }

  stands_here : WritesStand hist' u
  stands_here = let s = callers.writes seat v here in record {
    own = λ _. subst (λ (t : ℕ × List KeyedWrite). AreWritesOf hist' t.0 t.1) (λ i. (ap (λ (n : Numbers). n.number) (sym numbers) i, ap (λ (q : Knowledge). q.mine) (sym knowledge) i)) (writes_mine (s.own going));
    joined = subst (λ (n : Numbers). Each (λ (j : Joined). AreWritesOf hist' j.number j.mine) n.joined) (sym numbers) (joined_on v.numbers.joined own_joined s.joined);
  }

  made_now : (f : KeyedWrite → ℕ) → made_of f u ≡ made_of f v + f w
  made_now f = let a = ap (λ (q : Knowledge). total f q.mine) knowledge in let b = ap (λ (n : Numbers). total (λ (j : Joined). total f j.mine) n.joined) numbers in let c = total_snoc f v.knowledge.mine w in omega arith

  pub made_all : (f : KeyedWrite → ℕ) → total (made_of f) vs' ≡ total (made_of f) vs + f w
  made_all f = let t = total_set (made_of f) vs seat v u here in let m = made_now f in omega arith

  -- one write more was made
  pub made_one : total made_by vs' ≡ total made_by vs + 1
  made_one = let t = total_set made_by vs seat v u here in let a = ap (λ (q : Knowledge). length q.mine) knowledge in let b = ap (λ (n : Numbers). total (λ (j : Joined). length j.mine) n.joined) numbers in let c = length-append v.knowledge.mine (w ∷ []) in omega arith

  pub callers_wrote : CallersAgree vs'
  callers_wrote = record {
    writes = λ j t at. ⊎_elim (λ (y : (j ≡ seat) × (u ≡ t)). subst (WritesStand hist') y.1 stands_here) (λ (y : (j ≢ seat) × (get_elem? vs j ≡ some t)). stands_on t (no_others j t y.0 y.1) (callers.writes j t y.1)) (at_set vs seat j u t at);
    others = λ i j z. let same = ap (total (rooted i)) numbers_same in other_caller i (λ e. let m = total_at (rooted i) (map numbers_of vs) seat v.numbers n_here in let r = ap (λ (t : ℕ). rooted t v.numbers) e in let p = mine_root in absurd (omega arith)) j ∙ callers.others i j (omega arith);
    distinct = λ x names. let m = made_all (begins x) in let d = callers.distinct x names in dite (dec_lt 0 (begins x w))
        (λ l. let b = begun x l in let a = alone (subst (λ (t : ℕ). names_header t ≡ 1) (sym b.1) names) b.0 in let s = subst (λ (t : ℕ). total (made_of (begins t)) vs ≡ 0) b.1 a in let one = begins_le x in omega arith)
        (λ no. omega arith);
  }
    where
      begun : (x : ℕ) → 0 < begins x w → (w.inserts ≡ true) × (w.home ≡ x)
      begun x l = test-cases w.inserts (λ t. 0 < one_if t * one_at w.home x → (t ≡ true) × (w.home ≡ x)) (λ _ p. (refl, one_at-true w.home x (omega arith))) (λ _ p. absurd (omega arith)) l

      begins_le : (x : ℕ) → begins x w ≤ 1
      begins_le x = let o = one_at-le w.home x in test-cases w.inserts (λ t. one_if t * one_at w.home x ≤ 1) (λ _. omega arith) (λ _. omega arith)
