-- A pass makes a write of a key: that key's history has it at its end, and the others stay.
use Rattle.std.proofs.Common.{◌≡◌, ◌≢◌, ℕ, ◌<◌, ◌≤◌, List, [], ◌∷◌, ◌++◌, map, length, set, sym, refl, ap, ◌∙◌, subst, ⊎_elim, arith}
use mathlib.Core.Logic.{dite}
use mathlib.Core.Option.{some, some-injective}
use native.Mathlib.Decide.{ℕ_discrete, dec_lt}
use lib.ListN.{get_elem?}
use Rattle.oak_model.specs.Counts.{Each, Every, Begins}
use Rattle.oak_model.specs.KeyNumber.{key_number}
use Rattle.oak_model.proofs.Lists.{at_map, at_unmap, at_set, set_there, set_else, at_longer, at_last, begins_trans, begins_self, begins_whole, longest_begins, longest_le, each_append, each_map, each_map_list}
use Rattle.oak_core.specs.declared.states.KeyedWrite.{KeyedWrite}
use Rattle.oak_core.specs.declared.states.Knowledge.{Knowledge}
use Rattle.oak_core.specs.Learning.{wrote}
use Rattle.oak_core.specs.PassState.{of_key, seen_of, history}
use Rattle.oak_core.specs.Rule.{HistoriesStand}
use Rattle.oak_core.proofs.histories.Histories.{each_of_every, none_long, seen_begins}
use Rattle.oak_core.proofs.lessons.Teaching.{of_key-cases, longest_one}

pub of_key-append : (k : ℕ) (a b : List KeyedWrite) → of_key k (a ++ b) ≡ of_key k a ++ of_key k b
unfolding of_key
of_key-append k [] b = refl
of_key-append k (w ∷ ws) b = let r = of_key-append k ws b in of_key-cases k w (ws ++ b) (λ l. l ≡ of_key k (w ∷ ws) ++ of_key k b)
    (λ e. of_key-cases k w ws (λ l. w ∷ of_key k (ws ++ b) ≡ l ++ of_key k b) (λ _. ap (λ (l : List KeyedWrite). w ∷ l) r) (λ ne. absurd (ne e)))
    (λ ne. of_key-cases k w ws (λ l. of_key k (ws ++ b) ≡ l ++ of_key k b) (λ e. absurd (ne e)) (λ _. r))

pub of_key-one : (k : ℕ) (w : KeyedWrite) → key_number w.key ≡ k → of_key k (w ∷ []) ≡ w ∷ []
unfolding of_key
of_key-one k w e = of_key-cases k w [] (λ l. l ≡ w ∷ []) (λ _. refl) (λ ne. absurd (ne e))

pub of_key-other : (k : ℕ) (w : KeyedWrite) → key_number w.key ≢ k → of_key k (w ∷ []) ≡ []
unfolding of_key
of_key-other k w ne = of_key-cases k w [] (λ l. l ≡ []) (λ e. absurd (ne e)) (λ _. refl)

of_key-twice : (k : ℕ) (l : List KeyedWrite) → of_key k (of_key k l) ≡ of_key k l
unfolding of_key
of_key-twice k [] = refl
of_key-twice k (w ∷ ws) = let r = of_key-twice k ws in of_key-cases k w ws (λ l. of_key k l ≡ l) (λ e. of_key-cases k w (of_key k ws) (λ l. l ≡ w ∷ of_key k ws) (λ _. ap (λ (l : List KeyedWrite). w ∷ l) r) (λ ne. absurd (ne e))) (λ _. r)

of_key-cross : (j k : ℕ) (l : List KeyedWrite) → j ≢ k → of_key j (of_key k l) ≡ []
unfolding of_key
of_key-cross j k [] n = refl
of_key-cross j k (w ∷ ws) n = let r = of_key-cross j k ws n in of_key-cases k w ws (λ l. of_key j l ≡ []) (λ e. of_key-cases j w (of_key k ws) (λ l. l ≡ []) (λ d. absurd (n (sym d ∙ e))) (λ _. r)) (λ _. r)

-- a history has the writes of its key alone

own_seen : (k : ℕ) (q : Knowledge) → of_key k (seen_of k q) ≡ seen_of k q
unfolding of_key
own_seen k q = dite (dec_lt 0 (length (seen_of k q))) (λ lt. let one = longest_one (map (of_key k) q.seen) lt in let log = at_unmap (of_key k) q.seen one.0 (seen_of k q) one.1 in subst (λ (h : List KeyedWrite). of_key k h ≡ h) log.2 (of_key-twice k log.0))
    (λ none. let e : seen_of k q ≡ [] = none_long (seen_of k q) (omega arith) in subst (λ (h : List KeyedWrite). of_key k h ≡ h) (sym e) refl)

pub history_own : (k : ℕ) (qs : List Knowledge) → of_key k (history k qs) ≡ history k qs
unfolding of_key
history_own k qs = dite (dec_lt 0 (length (history k qs))) (λ lt. let one = longest_one (map (seen_of k) qs) lt in let q = at_unmap (seen_of k) qs one.0 (history k qs) one.1 in subst (λ (h : List KeyedWrite). of_key k h ≡ h) q.2 (own_seen k q.0))
    (λ none. let e : history k qs ≡ [] = none_long (history k qs) (omega arith) in subst (λ (h : List KeyedWrite). of_key k h ≡ h) (sym e) refl)

pub history_cross : (j k : ℕ) (qs : List Knowledge) → j ≢ k → of_key j (history k qs) ≡ []
history_cross j k qs n = ap (of_key j) (sym (history_own k qs)) ∙ of_key-cross j k (history k qs) n

-- the history of k is H where all logs begin H, and one pass has seen as much
pub history_is : (k : ℕ) (H : List KeyedWrite) (qs : List Knowledge) → Every (λ (q : Knowledge). Each (λ (l : List KeyedWrite). Begins (of_key k l) H) q.seen) qs → (j : ℕ) (q : Knowledge) → get_elem? qs j ≡ some q → length H ≤ length (seen_of k q) → history k qs ≡ H
history_is k H qs all j q at long = begins_whole (history k qs) H
    (longest_begins H (map (seen_of k) qs) (each_map_list (seen_of k) (λ s. Begins s H) qs (each_of_every (λ x. Begins (seen_of k x) H) qs (λ i x e. seen_begins k H x (all i x e)))))
    (let m = longest_le (map (seen_of k) qs) j (seen_of k q) (at_map (seen_of k) qs j q at) in omega arith)

module _ (qs : List Knowledge) (rule : HistoriesStand qs) (i : ℕ) (q : Knowledge) (here : get_elem? qs i ≡ some q) (k : ℕ) (w : KeyedWrite) (key : key_number w.key ≡ k) where
  abbrev pub after : List Knowledge
  after = set qs i (wrote k w qs q)

  abbrev H : List KeyedWrite
  H = history k qs ++ w ∷ []

  there : get_elem? after i ≡ some (wrote k w qs q)
  there = set_there qs i q (wrote k w qs q) here

  new_here : of_key k H ≡ H
  new_here = of_key-append k (history k qs) (w ∷ []) ∙ (ap (λ (l : List KeyedWrite). l ++ of_key k (w ∷ [])) (history_own k qs) ∙ ap (λ (l : List KeyedWrite). history k qs ++ l) (of_key-one k w key))

  new_else : (j : ℕ) → j ≢ k → of_key j H ≡ []
  new_else j n = of_key-append j (history k qs) (w ∷ []) ∙ (ap (λ (l : List KeyedWrite). l ++ of_key j (w ∷ [])) (history_cross j k qs n) ∙ of_key-other j w (λ e. n (sym e ∙ key)))

  all_here : Every (λ (x : Knowledge). Each (λ (l : List KeyedWrite). Begins (of_key k l) H) x.seen) after
  all_here j x at = ⊎_elim (λ (t : (j ≡ i) × (wrote k w qs q ≡ x)). subst (λ (y : Knowledge). Each (λ (l : List KeyedWrite). Begins (of_key k l) H) y.seen) t.1
      (each_append (λ l. Begins (of_key k l) H) q.seen (H ∷ []) (longer i q here) (subst (λ t. Begins t H) (sym new_here) (begins_self H), tt)))
      (λ (t : (j ≢ i) × (get_elem? qs j ≡ some x)). longer j x t.1) (at_set qs i j (wrote k w qs q) x at)
    where
      longer : (j : ℕ) (x : Knowledge) → get_elem? qs j ≡ some x → Each (λ (l : List KeyedWrite). Begins (of_key k l) H) x.seen
      longer j x at = each_map (λ l. Begins (of_key k l) (history k qs)) (λ l. Begins (of_key k l) H) x.seen (λ l b. begins_trans (of_key k l) (history k qs) H b (w ∷ [], refl)) (rule k j x at)

  pub wrote_here : history k after ≡ history k qs ++ w ∷ []
  wrote_here = history_is k H after all_here i (wrote k w qs q) there
      (let l = longest_le (map (of_key k) (q.seen ++ H ∷ [])) (length q.seen) (of_key k H) (at_map (of_key k) (q.seen ++ H ∷ []) (length q.seen) H (at_last q.seen H)) in let e = ap length new_here in omega arith)

  all_else : (j : ℕ) → j ≢ k → Every (λ (x : Knowledge). Each (λ (l : List KeyedWrite). Begins (of_key j l) (history j qs)) x.seen) after
  all_else j n h x at = ⊎_elim (λ (t : (h ≡ i) × (wrote k w qs q ≡ x)). subst (λ (y : Knowledge). Each (λ (l : List KeyedWrite). Begins (of_key j l) (history j qs)) y.seen) t.1
      (each_append (λ l. Begins (of_key j l) (history j qs)) q.seen (H ∷ []) (rule j i q here) (subst (λ t. Begins t (history j qs)) (sym (new_else j n)) (history j qs, refl), tt)))
      (λ (t : (h ≢ i) × (get_elem? qs h ≡ some x)). rule j h x t.1) (at_set qs i h (wrote k w qs q) x at)

  -- it has seen no less of any key
  pub wrote_more : (j : ℕ) → length (seen_of j q) ≤ length (seen_of j (wrote k w qs q))
  wrote_more j = dite (dec_lt 0 (length (seen_of j q))) (λ lt. let one = longest_one (map (of_key j) q.seen) lt in let log = at_unmap (of_key j) q.seen one.0 (seen_of j q) one.1 in
      let l = longest_le (map (of_key j) (q.seen ++ H ∷ [])) one.0 (of_key j log.0) (at_map (of_key j) (q.seen ++ H ∷ []) one.0 log.0 (at_longer q.seen (H ∷ []) one.0 log.0 log.1)) in let e = ap length log.2 in omega arith)
      (λ none. omega arith)

  -- of the key as much as there is then
  pub wrote_seen : length (history k qs ++ w ∷ []) ≤ length (seen_of k (wrote k w qs q))
  wrote_seen = let l = longest_le (map (of_key k) (q.seen ++ H ∷ [])) (length q.seen) (of_key k H) (at_map (of_key k) (q.seen ++ H ∷ []) (length q.seen) H (at_last q.seen H)) in let e = ap length new_here in omega arith

  pub wrote_others : (j : ℕ) → j ≢ k → history j after ≡ history j qs
  wrote_others j n = dite (dec_lt 0 (length (history j qs))) some_there (λ none. history_is j (history j qs) after (all_else j n) i (wrote k w qs q) there (omega arith))
    where
      some_there : 0 < length (history j qs) → history j after ≡ history j qs
      some_there lt = let top = longest_one (map (seen_of j) qs) lt in let x = at_unmap (seen_of j) qs top.0 (history j qs) top.1 in let same = ap length x.2 in dite (ℕ_discrete top.0 i)
          (λ e. let y : x.0 ≡ q = some-injective x.0 q (sym x.1 ∙ (ap (get_elem? qs) e ∙ here)) in let s = ap (λ (t : Knowledge). length (seen_of j t)) y in let m = wrote_more j in history_is j (history j qs) after (all_else j n) i (wrote k w qs q) there (omega arith))
          (λ ne. history_is j (history j qs) after (all_else j n) top.0 x.0 (set_else qs i top.0 (wrote k w qs q) ne ∙ x.1) (omega arith))

  pub wrote_stand : HistoriesStand after
  wrote_stand j = dite (ℕ_discrete j k)
      (λ e. subst (λ (t : ℕ). Every (λ (x : Knowledge). Each (λ (l : List KeyedWrite). Begins (of_key t l) (history t after)) x.seen) after) (sym e) (subst (λ (h : List KeyedWrite). Every (λ (x : Knowledge). Each (λ (l : List KeyedWrite). Begins (of_key k l) h) x.seen) after) (sym wrote_here) all_here))
      (λ ne. subst (λ (h : List KeyedWrite). Every (λ (x : Knowledge). Each (λ (l : List KeyedWrite). Begins (of_key j l) h) x.seen) after) (sym (wrote_others j ne)) (all_else j ne))
