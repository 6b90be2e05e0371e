-- Lessons stand on: a step teaches what meets the points on them, and no later step undoes it.
use Rattle.std.proofs.Common.{◌≡◌, ◌≢◌, ℕ, suc, ◌≤◌, List, ◌∷◌, ◌++◌, [], length, set, sym, ap, ◌∙◌, subst, ⊎_elim, arith}
use mathlib.Core.Option.{some}
use lib.ListN.{get_elem?}
use Rattle.oak_model.specs.Counts.{Each, Every}
use Rattle.oak_model.specs.History.{StampsRise}
use Rattle.oak_model.proofs.Changes.{Change}
use Rattle.oak_model.proofs.Lists.{at_set, each_append, each_map}
use Rattle.oak_core.specs.declared.states.KeyedWrite.{KeyedWrite}
use Rattle.oak_core.specs.declared.states.Knowledge.{Knowledge}
use Rattle.oak_core.specs.declared.states.Lesson.{Lesson}
use Rattle.oak_core.specs.declared.states.Taught.{Taught}
use Rattle.oak_core.specs.KeyHistories.{writes_of, before}
use Rattle.oak_core.specs.Learning.{reach_of, heard_of, lesson_by, taught_by}
use Rattle.oak_core.specs.Lessons.{IsAbsentBehind, LessonStands, LessonsStand, GoesUp}
use Rattle.oak_core.specs.PassState.{seen_of, history}
use Rattle.oak_core.specs.Rule.{HistoriesStand}
use Rattle.oak_core.proofs.lessons.Teaching.{lessons_are, taught_much}
use Rattle.oak_core.proofs.histories.WritesBelow.{before_above}

-- a step after which no level is lower, and each write above the level before it

module _ (level level' : ℕ → ℕ) (hist hist' : ℕ → List KeyedWrite) (up : (k : ℕ) → GoesUp (level k) (level' k) (hist k) (hist' k)) where
  pub lesson_stays : (q q' : Knowledge) → ((k : ℕ) → length (seen_of k q) ≤ length (seen_of k q')) → (l : Lesson) → LessonStands level hist q l → LessonStands level' hist' q' l
  lesson_stays q q' more l s = record {
    upto = λ k. let u = s.upto k in let r = (up k).rises in omega arith;
    writes = λ k. s.writes k ∙ sym (ap (before (reach_of l.taught k)) (up k).grown ∙ before_above (reach_of l.taught k) (level k) (hist k) (up k).more (s.upto k) (up k).above);
    absent = s.absent;
    seen = λ k. let a = s.seen k in let b = more k in omega arith;
  }

  pub lessons_stay : (q q' : Knowledge) → ((k : ℕ) → length (seen_of k q) ≤ length (seen_of k q')) → (ls : List Lesson) → Each (LessonStands level hist q) ls → Each (LessonStands level' hist' q') ls
  lessons_stay q q' more ls s = each_map (LessonStands level hist q) (LessonStands level' hist' q') ls (λ l t. lesson_stays q q' more l t) s

  -- the pass of one seat learns more, and the others nothing
  pub heard_step : (qs : List Knowledge) (i : ℕ) (q q' : Knowledge) → get_elem? qs i ≡ some q → Every (LessonsStand level hist) qs → ((k : ℕ) → length (seen_of k q) ≤ length (seen_of k q'))
      → (ls : List Lesson) → q'.heard ≡ q.heard ++ ls → Each (LessonStands level' hist' q') ls → Every (LessonsStand level' hist') (set qs i q')
  heard_step qs i q q' here all more ls is new j x at = ⊎_elim (λ (t : (j ≡ i) × (q' ≡ x)). subst (LessonsStand level' hist') t.1
      (subst (Each (LessonStands level' hist' q')) (sym is) (each_append (LessonStands level' hist' q') q.heard ls (lessons_stay q q' more q.heard (all i q here)) new)))
      (λ (t : (j ≢ i) × (get_elem? qs j ≡ some x)). lessons_stay x x (λ k. omega arith) x.heard (all j x t.1)) (at_set qs i j q' x at)

  -- no pass learns
  pub heard_still : (qs : List Knowledge) → Every (LessonsStand level hist) qs → Every (LessonsStand level' hist') qs
  heard_still qs all j x at = lessons_stay x x (λ k. omega arith) x.heard (all j x at)

  -- some go and others come, as at a split and a join
  pub heard_change : {qs qs' gone fresh : List Knowledge} (c : Change qs qs' gone fresh) → Every (LessonsStand level hist) qs → Each (LessonsStand level' hist') fresh → Every (LessonsStand level' hist') qs'
  heard_change c all new = c.every (LessonsStand level' hist') new (λ j x _ at. lessons_stay x x (λ k. omega arith) x.heard (all j x at))

-- what is taught

module _ (x : Taught) (qs : List Knowledge) (rule : HistoriesStand qs) (rise : (k : ℕ) → StampsRise 0 (writes_of (history k qs))) (i : ℕ) (q : Knowledge) (here : get_elem? qs i ≡ some q) where
  pub heard_taught : (k : ℕ) → heard_of k (lesson_by x qs) ≡ before (reach_of x k) (history k qs)
  heard_taught k = lessons_are (reach_of x) (lesson_by x qs ∷ []) qs rule rise i q here k

  -- a step that goes to the level at most teaches what meets the points
  pub lesson_taught : (level : ℕ → ℕ) → ((k : ℕ) → reach_of x k ≤ suc (level k)) → ((k : ℕ) → IsAbsentBehind x k (before (reach_of x k) (history k qs))) → LessonStands level (λ k. history k qs) (taught_by x qs q) (lesson_by x qs)
  lesson_taught level upto absent = record {
    upto = upto;
    writes = heard_taught;
    absent = λ k. subst (IsAbsentBehind x k) (sym (heard_taught k)) (absent k);
    seen = λ k. let m = taught_much (reach_of x) (lesson_by x qs ∷ []) qs rule rise i q here k in let e = ap length (heard_taught k) in omega arith;
  }
