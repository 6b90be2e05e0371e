-- The place of a number that a pass knows is its place in the key's history, at that moment and at each later one.
use Rattle.std.proofs.Common.{◌≡◌, ℕ, suc, ◌<◌, ◌≤◌, cond, Bool, List, [], ◌∷◌, ◌++◌, length, sym, refl, ap, ◌∙◌, subst, inl, inr, arith, le-leb, length-append}
use Rattle.std.proofs.lemmas.Bool.{lt-leb}
use Rattle.oak_model.specs.Counts.{Each, Has, Begins}
use Rattle.oak_model.specs.History.{StampsRise, place_of}
use Rattle.oak_core.specs.declared.states.KeyedWrite.{KeyedWrite}
use Rattle.oak_core.specs.declared.states.Knowledge.{Knowledge}
use Rattle.oak_core.specs.declared.states.Lesson.{Lesson}
use Rattle.oak_core.specs.KeyHistories.{writes_of, stamp_behind, before}
use Rattle.oak_core.specs.KnownPlaces.{KnowsPlace}
use Rattle.oak_core.specs.Learning.{reach_of, heard_of}
use Rattle.oak_core.specs.Lessons.{LessonStands, LessonsStand}
use Rattle.oak_core.specs.PassState.{seen_of}
use Rattle.oak_core.proofs.histories.Histories.{none_long}
use Rattle.oak_core.proofs.histories.WritesBelow.{before-cases, before_append, before_whole, none_behind}

-- the place of a number is how many writes are below the next one
pub place_length : (at : ℕ) (h : List KeyedWrite) → place_of (writes_of h) at ≡ length (before (suc at) h)
unfolding before
place_length at [] = refl
place_length at (w ∷ ws) = let r = place_length at ws in before-cases (suc at) w ws (λ t. place_of (writes_of (w ∷ ws)) at ≡ length t)
    (λ low. subst (λ (b : Bool). cond b (suc (place_of (writes_of ws) at)) (place_of (writes_of ws) at) ≡ suc (length (before (suc at) ws))) (sym (le-leb w.write.stamp at (omega arith))) (ap suc r))
    (λ high. subst (λ (b : Bool). cond b (suc (place_of (writes_of ws) at)) (place_of (writes_of ws) at) ≡ length (before (suc at) ws)) (sym (lt-leb w.write.stamp at (omega arith))) r)

-- where all writes are at most the number, its place is the end
pub place_end : (at : ℕ) (h : List KeyedWrite) → StampsRise 0 (writes_of h) → stamp_behind h ≤ at → place_of (writes_of h) at ≡ length h
place_end at h r l = place_length at h ∙ ap length (before_whole (suc at) 0 h r (omega arith)).1

-- of the writes below n, those below m
before_before : (m n : ℕ) (h : List KeyedWrite) → m ≤ n → before m (before n h) ≡ before m h
unfolding before
before_before m n [] l = refl
before_before m n (w ∷ ws) l = let r = before_before m n ws l in before-cases n w ws (λ t. before m t ≡ before m (w ∷ ws))
    (λ low. before-cases m w (before n ws) (λ t. t ≡ before m (w ∷ ws)) (λ a. before-cases m w ws (λ t. w ∷ before m (before n ws) ≡ t) (λ _. ap (λ (t : List KeyedWrite). w ∷ t) r) (λ b. absurd (omega arith)))
    (λ b. before-cases m w ws (λ t. before m (before n ws) ≡ t) (λ a. absurd (omega arith)) (λ _. r)))
    (λ high. before-cases m w ws (λ t. before m (before n ws) ≡ t) (λ a. absurd (omega arith)) (λ _. r))

-- where the first part is as long as what is below n, nothing of the rest is below it
cut_in : (n s : ℕ) (a b : List KeyedWrite) → StampsRise s (writes_of (a ++ b)) → length (before n (a ++ b)) ≤ length a → before n b ≡ []
unfolding before
cut_in n s [] b r l = none_long (before n b) l
cut_in n s (x ∷ xs) b r l = before-cases n x (xs ++ b) (λ t. length t ≤ suc (length xs) → before n b ≡ [])
    (λ low m. cut_in n x.write.stamp xs b r.1 (omega arith))
    (λ high _. cut_in n x.write.stamp xs b r.1 (let e = ap length (none_behind n x.write.stamp (xs ++ b) r.1 high) in omega arith)) l

-- one of the lessons
pub each_is : (level : ℕ → ℕ) (hist : ℕ → List KeyedWrite) (q : Knowledge) (ls : List Lesson) (l : Lesson) → Each (LessonStands level hist q) ls → Has l ls → LessonStands level hist q l
each_is level hist q [] l e h = absurd h
each_is level hist q (x ∷ xs) l e (inl same) = subst (LessonStands level hist q) (sym same) e.0
each_is level hist q (x ∷ xs) l e (inr h) = each_is level hist q xs l e.1 h

module _ (level : ℕ → ℕ) (hist : ℕ → List KeyedWrite) (q : Knowledge) (k : ℕ) (rise : StampsRise 0 (writes_of (hist k))) (begins : Begins (seen_of k q) (hist k)) where
  -- a number that a lesson covers has one place: among what was heard, in what is seen now, and in the history
  pub heard_place : (l : Lesson) → LessonStands level hist q l → (at : ℕ) → at < reach_of l.taught k → place_of (writes_of (heard_of k l)) at ≡ place_of (writes_of (hist k)) at
  heard_place l s at lt = place_length at (heard_of k l) ∙ (ap length (ap (before (suc at)) (s.writes k) ∙ before_before (suc at) (reach_of l.taught k) (hist k) lt) ∙ sym (place_length at (hist k)))

  pub seen_place : (l : Lesson) → LessonStands level hist q l → (at : ℕ) → at < reach_of l.taught k → place_of (writes_of (seen_of k q)) at ≡ place_of (writes_of (hist k)) at
  unfolding before
  seen_place l s at lt = place_length at (seen_of k q) ∙ (sym (let a = ap length (ap (before (suc at)) begins.1 ∙ before_append (suc at) (seen_of k q) begins.0) in let b = length-append (before (suc at) (seen_of k q)) (before (suc at) begins.0) in let c = ap length none in omega arith) ∙ sym (place_length at (hist k)))
    where
      few : length (before (reach_of l.taught k) (seen_of k q ++ begins.0)) ≤ length (seen_of k q)
      few = let a = s.seen k in let b = ap length (s.writes k) in let c = ap (λ (h : List KeyedWrite). length (before (reach_of l.taught k) h)) begins.1 in omega arith

      past : before (reach_of l.taught k) begins.0 ≡ []
      past = cut_in (reach_of l.taught k) 0 (seen_of k q) begins.0 (subst (λ (h : List KeyedWrite). StampsRise 0 (writes_of h)) begins.1 rise) few

      none : before (suc at) begins.0 ≡ []
      none = sym (before_before (suc at) (reach_of l.taught k) begins.0 lt) ∙ ap (before (suc at)) past

  -- what a pass knows of a number's place is so, at any moment
  pub known_place : LessonsStand level hist q → (at r : ℕ) → KnowsPlace k at r q → (place_of (writes_of (seen_of k q)) at ≡ r) × (place_of (writes_of (hist k)) at ≡ r)
  known_place all at r x = let s = each_is level hist q q.heard x.lesson all x.there in let h = heard_place x.lesson s at x.covers in (seen_place x.lesson s at x.covers ∙ (sym h ∙ x.place), sym h ∙ x.place)
