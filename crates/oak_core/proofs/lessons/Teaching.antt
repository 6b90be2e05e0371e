-- What a step teaches a pass changes no history, and the pass has then seen at least what it was taught.
use Rattle.std.proofs.Common.{◌≡◌, ◌≢◌, ℕ, zero, suc, ◌<◌, ◌≤◌, cond, Bool, List, [], ◌∷◌, ◌++◌, map, length, set, sym, refl, ap, ◌∙◌, subst, inl, inr, arith, eq-eqb, ne_eqb}
use Rattle.std.proofs.lemmas.Bool.{lt-ltb, le-ltb}
use mathlib.Core.Logic.{dite}
use mathlib.Core.Option.{some, some-injective, some-ne-none}
use native.Mathlib.Decide.{ℕ_discrete, dec_lt}
use lib.ListN.{get_elem?}
use Rattle.oak_model.specs.Counts.{Each, Begins, longest}
use Rattle.oak_model.specs.History.{StampsRise}
use Rattle.oak_model.specs.KeyNumber.{key_number}
use Rattle.oak_model.proofs.Changes.{Change, Among, AmongOf, stepped}
use Rattle.oak_model.proofs.Lists.{at_map, at_unmap, at_longer, begins_length, begins_whole, longest-cases, longest_begins, longest_le, each_append, each_map, each_map_list}
use Rattle.oak_core.specs.declared.states.KeyedWrite.{KeyedWrite}
use Rattle.oak_core.specs.declared.states.Knowledge.{Knowledge}
use Rattle.oak_core.specs.declared.states.Lesson.{Lesson}
use Rattle.oak_core.specs.KeyHistories.{writes_of, before}
use Rattle.oak_core.specs.Learning.{lesson, all_logs, lessons, taught}
use Rattle.oak_core.specs.PassState.{of_key, seen_of, history}
use Rattle.oak_core.specs.Rule.{HistoriesStand}
use Rattle.oak_core.proofs.histories.Histories.{each_of_every, history_same, histories_frame}
use Rattle.oak_core.proofs.histories.WritesBelow.{before-cases, before_append, before_first, cut_begins}

pub of_key-cases : (k : ℕ) (w : KeyedWrite) (ws : List KeyedWrite) (P : List KeyedWrite → Type 0) → (key_number w.key ≡ k → P (w ∷ of_key k ws)) → (key_number w.key ≢ k → P (of_key k ws)) → P (of_key k (w ∷ ws))
unfolding of_key
of_key-cases k w ws P same other = dite (ℕ_discrete (key_number w.key) k) (λ e. subst (λ (t : Bool). P (cond t (w ∷ of_key k ws) (of_key k ws))) (sym (eq-eqb (key_number w.key) k e)) (same e))
    (λ ne. subst (λ (t : Bool). P (cond t (w ∷ of_key k ws) (of_key k ws))) (sym (ne_eqb (key_number w.key) k ne)) (other ne))

lesson-cases : (T : ℕ → ℕ) (w : KeyedWrite) (ws : List KeyedWrite) (P : List KeyedWrite → Type 0) → (w.write.stamp < T (key_number w.key) → P (w ∷ lesson T ws)) → (T (key_number w.key) ≤ w.write.stamp → P (lesson T ws)) → P (lesson T (w ∷ ws))
unfolding lesson
lesson-cases T w ws P low high = dite (dec_lt w.write.stamp (T (key_number w.key))) (λ l. subst (λ (t : Bool). P (cond t (w ∷ lesson T ws) (lesson T ws))) (sym (lt-ltb w.write.stamp (T (key_number w.key)) l)) (low l))
    (λ no. subst (λ (t : Bool). P (cond t (w ∷ lesson T ws) (lesson T ws))) (sym (le-ltb w.write.stamp (T (key_number w.key)) (omega arith))) (high (omega arith)))

-- of each key the lesson has the writes below its number
pub lesson_key : (T : ℕ → ℕ) (k : ℕ) (l : List KeyedWrite) → of_key k (lesson T l) ≡ before (T k) (of_key k l)
unfolding of_key before lesson
lesson_key T k [] = refl
lesson_key T k (w ∷ ws) = let r = lesson_key T k ws in dite (ℕ_discrete (key_number w.key) k)
    (λ e. let n = ap T e in of_key-cases k w ws (λ t. of_key k (lesson T (w ∷ ws)) ≡ before (T k) t)
    (λ _. lesson-cases T w ws (λ t. of_key k t ≡ before (T k) (w ∷ of_key k ws))
    (λ low. of_key-cases k w (lesson T ws) (λ t. t ≡ before (T k) (w ∷ of_key k ws)) (λ _. before-cases (T k) w (of_key k ws) (λ t. w ∷ of_key k (lesson T ws) ≡ t) (λ _. ap (λ (t : List KeyedWrite). w ∷ t) r) (λ high. absurd (omega arith))) (λ ne. absurd (ne e)))
    (λ high. before-cases (T k) w (of_key k ws) (λ t. of_key k (lesson T ws) ≡ t) (λ low. absurd (omega arith)) (λ _. r)))
    (λ ne. absurd (ne e)))
    (λ ne. of_key-cases k w ws (λ t. of_key k (lesson T (w ∷ ws)) ≡ before (T k) t) (λ e. absurd (ne e))
    (λ _. lesson-cases T w ws (λ t. of_key k t ≡ before (T k) (of_key k ws)) (λ _. of_key-cases k w (lesson T ws) (λ t. t ≡ before (T k) (of_key k ws)) (λ e. absurd (ne e)) (λ _. r)) (λ _. r)))

-- the logs of all passes

each_logs : (P : List KeyedWrite → Type 0) (qs : List Knowledge) → Each (λ (q : Knowledge). Each P q.seen) qs → Each P (all_logs qs)
unfolding all_logs
each_logs P [] h = tt
each_logs P (q ∷ qs) h = each_append P q.seen (all_logs qs) h.0 (each_logs P qs h.1)

among_behind : {A : Type 0} (xs ys : List A) (a : A) → Among ys a → Among (xs ++ ys) a
among_behind [] ys a r = r
among_behind (x ∷ xs) ys a r = let t = among_behind xs ys a r in (suc t.0, t.1)

log_among : (qs : List Knowledge) (i : ℕ) (q : Knowledge) (j : ℕ) (l : List KeyedWrite) → get_elem? qs i ≡ some q → get_elem? q.seen j ≡ some l → Among (all_logs qs) l
unfolding all_logs
log_among [] i q j l e d = absurd (some-ne-none q (sym e))
log_among (x ∷ xs) zero q j l e d = (j, at_longer x.seen (all_logs xs) j l (ap (λ (y : Knowledge). get_elem? y.seen j) (some-injective x q e) ∙ d))
log_among (x ∷ xs) (suc i) q j l e d = among_behind x.seen (all_logs xs) l (log_among xs i q j l e d)

-- the longest is one of them, or there is none
pub longest_one : (xs : List (List KeyedWrite)) → (0 < length (longest xs)) → (j : ℕ) × (get_elem? xs j ≡ some (longest xs))
unfolding longest
longest_one [] h = absurd (omega arith)
longest_one (x ∷ xs) h = longest-cases x xs (λ s. 0 < length s → (j : ℕ) × (get_elem? (x ∷ xs) j ≡ some s)) (λ _ p. let r = longest_one xs p in (suc r.0, r.1)) (λ _ _. (zero, refl)) h

module _ (T : ℕ → ℕ) (ls : List Lesson) (qs : List Knowledge) (rule : HistoriesStand qs) (rise : (k : ℕ) → StampsRise 0 (writes_of (history k qs))) (i : ℕ) (q : Knowledge) (here : get_elem? qs i ≡ some q) where
  -- all that is taught begins a history
  lessons_begin : (k : ℕ) → Each (λ (l : List KeyedWrite). Begins (of_key k l) (history k qs)) (lessons T qs)
  lessons_begin k = each_map_list (lesson T) (λ l. Begins (of_key k l) (history k qs)) (all_logs qs) (each_map (λ l. Begins (of_key k l) (history k qs)) (λ l. Begins (of_key k (lesson T l)) (history k qs)) (all_logs qs)
      (λ l b. subst (λ t. Begins t (history k qs)) (sym (lesson_key T k l)) (cut_begins (T k) (of_key k l) (history k qs) b (rise k)))
      (each_logs (λ l. Begins (of_key k l) (history k qs)) qs (each_of_every (λ (y : Knowledge). Each (λ l. Begins (of_key k l) (history k qs)) y.seen) qs (rule k))))

  -- the pass has seen what it was taught
  pub taught_much : (k : ℕ) → length (before (T k) (history k qs)) ≤ length (seen_of k (taught T ls qs q))
  taught_much k = dite (dec_lt 0 (length (history k qs))) some_there (λ none. let n = begins_length (before (T k) (history k qs)) (history k qs) (before_first (T k) 0 (history k qs) (rise k)) in omega arith)
    where
      some_there : 0 < length (history k qs) → length (before (T k) (history k qs)) ≤ length (seen_of k (taught T ls qs q))
      some_there lt = let top = longest_one (map (seen_of k) qs) lt in let holder = at_unmap (seen_of k) qs top.0 (history k qs) top.1 in
          let same = holder.2 in let one = longest_one (map (of_key k) holder.0.seen) (subst (λ (h : List KeyedWrite). 0 < length h) (sym same) lt) in
          let log = at_unmap (of_key k) holder.0.seen one.0 (seen_of k holder.0) one.1 in
          let a = log_among qs top.0 holder.0 one.0 log.0 holder.1 log.1 in
          let b = among_behind q.seen (lessons T qs) (lesson T log.0) (a.0, at_map (lesson T) (all_logs qs) a.0 log.0 a.1) in
          let c = at_map (of_key k) (q.seen ++ lessons T qs) b.0 (lesson T log.0) b.1 in
          let l = longest_le (map (of_key k) (q.seen ++ lessons T qs)) b.0 (of_key k (lesson T log.0)) c in
          let e = ap length (lesson_key T k log.0 ∙ ap (before (T k)) (log.2 ∙ same)) in omega arith

  -- of each key the lesson has its writes below the number
  pub lessons_are : (k : ℕ) → longest (map (of_key k) (lessons T qs)) ≡ before (T k) (history k qs)
  lessons_are k = begins_whole (longest (map (of_key k) (lessons T qs))) (before (T k) (history k qs))
      (longest_begins (before (T k) (history k qs)) (map (of_key k) (lessons T qs)) (each_map_list (of_key k) (λ s. Begins s (before (T k) (history k qs))) (lessons T qs)
      (each_map_list (lesson T) (λ l. Begins (of_key k l) (before (T k) (history k qs))) (all_logs qs) (each_map (λ l. Begins (of_key k l) (history k qs)) (λ l. Begins (of_key k (lesson T l)) (before (T k) (history k qs))) (all_logs qs)
      (λ l b. subst (λ t. Begins t (before (T k) (history k qs))) (sym (lesson_key T k l)) (before (T k) b.0, ap (before (T k)) b.1 ∙ before_append (T k) (of_key k l) b.0))
      (each_logs (λ l. Begins (of_key k l) (history k qs)) qs (each_of_every (λ (y : Knowledge). Each (λ l. Begins (of_key k l) (history k qs)) y.seen) qs (rule k)))))))
      (dite (dec_lt 0 (length (history k qs))) long (λ none. let n = begins_length (before (T k) (history k qs)) (history k qs) (before_first (T k) 0 (history k qs) (rise k)) in omega arith))
    where
      long : 0 < length (history k qs) → length (before (T k) (history k qs)) ≤ length (longest (map (of_key k) (lessons T qs)))
      long lt = let top = longest_one (map (seen_of k) qs) lt in let holder = at_unmap (seen_of k) qs top.0 (history k qs) top.1 in
          let same = holder.2 in let one = longest_one (map (of_key k) holder.0.seen) (subst (λ (h : List KeyedWrite). 0 < length h) (sym same) lt) in
          let log = at_unmap (of_key k) holder.0.seen one.0 (seen_of k holder.0) one.1 in
          let a = log_among qs top.0 holder.0 one.0 log.0 holder.1 log.1 in
          let c = at_map (of_key k) (lessons T qs) a.0 (lesson T log.0) (at_map (lesson T) (all_logs qs) a.0 log.0 a.1) in
          let l = longest_le (map (of_key k) (lessons T qs)) a.0 (of_key k (lesson T log.0)) c in
          let e = ap length (lesson_key T k log.0 ∙ ap (before (T k)) (log.2 ∙ same)) in omega arith

  -- and no less than before
  pub taught_more : (k : ℕ) → length (seen_of k q) ≤ length (seen_of k (taught T ls qs q))
  taught_more k = dite (dec_lt 0 (length (seen_of k q))) (λ lt. let one = longest_one (map (of_key k) q.seen) lt in let log = at_unmap (of_key k) q.seen one.0 (seen_of k q) one.1 in
      let c = at_map (of_key k) (q.seen ++ lessons T qs) one.0 log.0 (at_longer q.seen (lessons T qs) one.0 log.0 log.1) in
      let l = longest_le (map (of_key k) (q.seen ++ lessons T qs)) one.0 (of_key k log.0) c in let e = ap length log.2 in omega arith)
      (λ none. omega arith)

  c : Change qs (set qs i (taught T ls qs q)) (q ∷ []) (taught T ls qs q ∷ [])
  c = stepped qs i q (taught T ls qs q) here

  new : (k : ℕ) → Each (λ (w : Knowledge). Each (λ (l : List KeyedWrite). Begins (of_key k l) (history k qs)) w.seen) (taught T ls qs q ∷ [])
  new k = (each_append (λ l. Begins (of_key k l) (history k qs)) q.seen (lessons T qs) (rule k i q here) (lessons_begin k), tt)

  kept : (k : ℕ) (y : Knowledge) → AmongOf (q ∷ []) y → (w : Knowledge) × Among (set qs i (taught T ls qs q)) w × (length (seen_of k y) ≤ length (seen_of k w))
  kept k y (inl e) = (taught T ls qs q, c.come.0, (let l = taught_more k in let s = ap (λ (x : Knowledge). length (seen_of k x)) e in omega arith))
  kept k y (inr e) = absurd e

  pub taught_same : (k : ℕ) → history k (set qs i (taught T ls qs q)) ≡ history k qs
  taught_same = history_same c i q here rule new kept

  pub taught_stand : HistoriesStand (set qs i (taught T ls qs q))
  taught_stand = histories_frame c i q here rule new kept
