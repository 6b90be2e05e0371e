-- What a write teaches its pass: the history that it ends. A write above the level of its key keeps the points on lessons.
use Rattle.std.proofs.Common.{◌≡◌, ◌≢◌, ℕ, suc, ◌+◌, ◌*◌, ◌<◌, ◌≤◌, List, [], ◌∷◌, ◌++◌, map, length, sym, refl, ap, ◌∙◌, subst, arith, set}
use mathlib.Core.Logic.{dite}
use mathlib.Core.Option.{some}
use native.Mathlib.Decide.{ℕ_discrete}
use lib.ListN.{get_elem?}
use Rattle.oak_model.specs.Counts.{longest}
use Rattle.oak_model.specs.History.{StampsRise}
use Rattle.oak_model.specs.KeyNumber.{key_number}
use Rattle.oak_model.specs.Limits.{Sizes}
use Rattle.oak_model.proofs.Counting.{one_at-same, one_at-other}
use Rattle.oak_model.proofs.Lists.{at_map, at_last, longest_le, longest-cases, map_set}
use Rattle.chunk_core.specs.ValueWord.{names_header}
use Rattle.oak_core.specs.declared.states.KeyedWrite.{KeyedWrite}
use Rattle.oak_core.specs.declared.states.Knowledge.{Knowledge}
use Rattle.oak_core.specs.declared.states.PassState.{PassState}
use Rattle.oak_core.specs.KeyHistories.{writes_of, stamp_behind, before}
use Rattle.oak_core.specs.KeyReads.{level_in, level_now, history_now, word_now, base_now}
use Rattle.oak_core.specs.Learning.{reach_of, wrote, write_lesson, heard_of}
use Rattle.oak_core.specs.Lessons.{GoesUp, LessonStands, PinsKnow, HeardStands}
use Rattle.oak_core.specs.Memory.{Memory}
use Rattle.oak_core.specs.PassState.{of_key, seen_of, history, knowledge_of}
use Rattle.oak_core.specs.Rule.{HistoriesStand}
use Rattle.oak_core.proofs.lessons.HeardKeeps.{heard_one}
use Rattle.oak_core.proofs.histories.HistoryEnds.{last_snoc}
use Rattle.oak_core.proofs.keyed.Levels.{level-named, level_at}
use Rattle.oak_core.proofs.histories.WritesBelow.{before_whole, none_behind}
use Rattle.oak_core.proofs.histories.WrittenHistories.{of_key-append, of_key-one, of_key-other, history_own, history_cross, wrote_more, wrote_here, wrote_others}

-- a write above the level, behind which the entry names a header
pub goes_written : (base base' w w' v : ℕ) (h h' : List KeyedWrite) (x : KeyedWrite) → level_in base (stamp_behind h) w < x.write.stamp → w' ≡ v + 1 → names_header v ≡ 1 → h' ≡ h ++ x ∷ [] → GoesUp (level_in base (stamp_behind h) w) (level_in base' (stamp_behind h') w') h h'
goes_written base base' w w' v h h' x lt e n eh = record {
  rises = let a = level-named base' (stamp_behind h') w' v e n in let b = ap stamp_behind eh ∙ last_snoc (λ y. y.write.stamp) 0 h x in omega arith;
  more = x ∷ [];
  grown = eh;
  above = (lt, tt);
}

-- what a write teaches its pass

one_longest : (l : List KeyedWrite) → longest (l ∷ []) ≡ l
unfolding longest
one_longest [] = refl
one_longest (w ∷ ws) = longest-cases (w ∷ ws) [] (λ t. t ≡ w ∷ ws) (λ l. absurd (omega arith)) (λ _. refl)

module _ (qs : List Knowledge) (rule : HistoriesStand qs) (i : ℕ) (q : Knowledge) (here : get_elem? qs i ≡ some q) (k : ℕ) (w : KeyedWrite) (key : key_number w.key ≡ k) (level : ℕ → ℕ) (hist : ℕ → List KeyedWrite)
    (hist_here : hist k ≡ history k qs ++ w ∷ []) (rise : (j : ℕ) → StampsRise 0 (writes_of (hist j))) (upto : w.write.stamp ≤ level k) where
  abbrev H : List KeyedWrite
  H = history k qs ++ w ∷ []

  own : of_key k H ≡ H
  own = of_key-append k (history k qs) (w ∷ []) ∙ (ap (λ (l : List KeyedWrite). l ++ of_key k (w ∷ [])) (history_own k qs) ∙ ap (λ (l : List KeyedWrite). history k qs ++ l) (of_key-one k w key))

  cross : (j : ℕ) → j ≢ k → of_key j H ≡ []
  cross j n = of_key-append j (history k qs) (w ∷ []) ∙ (ap (λ (l : List KeyedWrite). l ++ of_key j (w ∷ [])) (history_cross j k qs n) ∙ of_key-other j w (λ e. n (sym e ∙ key)))

  reach_here : reach_of (write_lesson w (history k qs)).taught k ≡ suc w.write.stamp
  reach_here = ap (λ (t : ℕ). t * suc w.write.stamp) (one_at-same k (key_number w.key) (sym key)) ∙ (let u : 1 * suc w.write.stamp ≡ suc w.write.stamp = omega arith in u)

  reach_else : (j : ℕ) → j ≢ k → reach_of (write_lesson w (history k qs)).taught j ≡ 0
  reach_else j ne = ap (λ (t : ℕ). t * suc w.write.stamp) (one_at-other j (key_number w.key) (λ e. ne (e ∙ key))) ∙ (let u : 0 * suc w.write.stamp ≡ 0 = omega arith in u)

  whole : before (suc w.write.stamp) H ≡ H
  whole = (before_whole (suc w.write.stamp) 0 H (subst (λ (l : List KeyedWrite). StampsRise 0 (writes_of l)) hist_here (rise k)) (let e = last_snoc (λ y. y.write.stamp) 0 (history k qs) w in omega arith)).1

  pub lesson_wrote : LessonStands level hist (wrote k w qs q) (write_lesson w (history k qs))
  lesson_wrote = record {
    upto = λ j. dite (ℕ_discrete j k) (λ e. let r = reach_here in let a = ap (reach_of (write_lesson w (history k qs)).taught) e in let b = ap level e in omega arith) (λ ne. let r = reach_else j ne in omega arith);
    writes = λ j. dite (ℕ_discrete j k)
        (λ e. subst (λ (t : ℕ). heard_of t (write_lesson w (history k qs)) ≡ before (reach_of (write_lesson w (history k qs)).taught t) (hist t)) (sym e)
        (one_longest (of_key k H) ∙ (own ∙ sym (ap (λ (n : ℕ). before n (hist k)) reach_here ∙ (ap (before (suc w.write.stamp)) hist_here ∙ whole)))))
        (λ ne. one_longest (of_key j H) ∙ (cross j ne ∙ sym (ap (λ (n : ℕ). before n (hist j)) (reach_else j ne) ∙ none_behind 0 0 (hist j) (rise j) (omega arith))));
    absent = λ j. tt;
    seen = λ j. let e = ap length (one_longest (of_key j H)) in let l = longest_le (map (of_key j) (q.seen ++ H ∷ [])) (length q.seen) (of_key j H) (at_map (of_key j) (q.seen ++ H ∷ []) (length q.seen) H (at_last q.seen H)) in omega arith;
  }

-- a step of one seat that writes: the memory becomes another, and the state of its pass
module _ (z : Sizes) (m m' : Memory) (vs : List PassState) (seat : ℕ) (v u : PassState) (here : get_elem? vs seat ≡ some v) (heard : HeardStands z m vs) where
  abbrev vs' : List PassState
  vs' = set vs seat u

  -- a write of the key k, above its level, behind which its entry names a header
  pub heard_write : (k : ℕ) (w : KeyedWrite) (home : ℕ) → key_number w.key ≡ k → HistoriesStand (map knowledge_of vs) → ((j : ℕ) → StampsRise 0 (writes_of (history_now (set vs seat u) j)))
      → u.knowledge ≡ wrote k w (map knowledge_of vs) v.knowledge → level_now z m vs k < w.write.stamp → word_now z m' (set vs seat u) k ≡ home + 1 → names_header home ≡ 1
      → ((j : ℕ) → j ≢ k → word_now z m' (set vs seat u) j ≡ word_now z m vs j) → ((j : ℕ) → base_now z m vs j ≤ base_now z m' (set vs seat u) j) → PinsKnow u → HeardStands z m' (set vs seat u)
  heard_write k w home key histories rise knowledge above now names ew le pins =
      heard_one z m m' vs seat v u here heard (level_at z m m' vs vs' k (goes_written (base_now z m vs k) (base_now z m' vs' k) (word_now z m vs k) (word_now z m' vs' k) home (history_now vs k) (history_now vs' k) w above now names hist_here) ew le hist_else)
      (λ j. let e = ap (λ (q : Knowledge). length (seen_of j q)) knowledge in let t = wrote_more (map knowledge_of vs) histories seat v.knowledge q_here k w key j in omega arith)
      (write_lesson w (history_now vs k) ∷ []) (ap (λ (q : Knowledge). q.heard) knowledge)
      (subst (λ (q : Knowledge). LessonStands (level_now z m' vs') (history_now vs') q (write_lesson w (history_now vs k))) (sym knowledge) (lesson_wrote (map knowledge_of vs) histories seat v.knowledge q_here k w key (level_now z m' vs') (history_now vs') hist_here rise upto), tt) pins
    where
      q_here : get_elem? (map knowledge_of vs) seat ≡ some v.knowledge
      q_here = at_map knowledge_of vs seat v here

      qs_is : map knowledge_of (set vs seat u) ≡ set (map knowledge_of vs) seat (wrote k w (map knowledge_of vs) v.knowledge)
      qs_is = map_set knowledge_of vs seat u ∙ ap (λ (q : Knowledge). set (map knowledge_of vs) seat q) knowledge

      hist_here : history_now vs' k ≡ history_now vs k ++ w ∷ []
      hist_here = ap (history k) qs_is ∙ wrote_here (map knowledge_of vs) histories seat v.knowledge q_here k w key

      hist_else : (j : ℕ) → j ≢ k → history_now vs' j ≡ history_now vs j
      hist_else j ne = ap (history j) qs_is ∙ wrote_others (map knowledge_of vs) histories seat v.knowledge q_here k w key j ne

      upto : w.write.stamp ≤ level_now z m' vs' k
      upto = let l = level-named (base_now z m' vs' k) (stamp_behind (history_now vs' k)) (word_now z m' vs' k) home now names in let s = ap stamp_behind hist_here ∙ last_snoc (λ y. y.write.stamp) 0 (history_now vs k) w in omega arith
