-- Reads of keys: what a lesson just heard tells of a key is one, and a read stays one in each later state.
use Rattle.std.proofs.Common.{◌≡◌, ℕ, suc, ◌<◌, ◌≤◌, List, [], ◌∷◌, ◌++◌, length, sym, refl, ap, ◌∙◌, arith}
use Rattle.oak_model.specs.Counts.{Has, Begins}
use Rattle.oak_model.specs.History.{History, StampsRise, place_of, state_at}
use Rattle.oak_model.specs.State.{State}
use Rattle.oak_model.proofs.HistoryLaws.{Extends as Longer, state_at-extends, state_at-end, Extends-self}
use Rattle.oak_model.proofs.Lists.{begins_length, begins_whole}
use Rattle.oak_core.specs.declared.states.KeyedWrite.{KeyedWrite}
use Rattle.oak_core.specs.declared.states.Lesson.{Lesson}
use Rattle.oak_core.specs.declared.states.PassState.{PassState}
use Rattle.oak_core.specs.KeyHistories.{writes_of, state_behind, stamp_behind}
use Rattle.oak_core.specs.KnownPlaces.{Remembers, ReadAt}
use Rattle.oak_core.specs.Learning.{reach_of}
use Rattle.oak_core.specs.Lessons.{LessonStands, LessonsStand}
use Rattle.oak_core.specs.PassState.{Extends, seen_of}
use Rattle.oak_core.proofs.known.KnownPlaces.{heard_place, known_place, place_end}

-- a longer history of one key, by its writes alone

writes_length : (h : List KeyedWrite) → length (writes_of h) ≡ length h
writes_length [] = refl
writes_length (x ∷ xs) = ap suc (writes_length xs)

writes_append : (a b : List KeyedWrite) → writes_of (a ++ b) ≡ writes_of a ++ writes_of b
writes_append [] b = refl
writes_append (x ∷ xs) b = ap (λ (l : History). x.write ∷ l) (writes_append xs b)

pub writes_extend : (a b : List KeyedWrite) → Begins a b → Longer (writes_of a) (writes_of b)
writes_extend a b e = (writes_of e.0, ap writes_of e.1 ∙ writes_append a e.0)

-- the state at a place that was seen is the one there of all that begins so
pub same_state : (a b : List KeyedWrite) (r : ℕ) → Begins a b → r ≤ length a → state_at (writes_of b) r ≡ state_at (writes_of a) r
same_state a b r e l = state_at-extends (writes_of a) (writes_of b) r (writes_extend a b e) (let n = writes_length a in omega arith)

-- a read stays one in every later state, and is one since every earlier one

pub read_stays : (k at : ℕ) (s : State) (v w x : PassState) → Extends w x → Remembers w.knowledge x.knowledge → ReadAt k at s v w → ReadAt k at s v x
read_stays k at s v w x e m r = record {
  place = r.place;
  known = m k at r.place r.known;
  from = r.from;
  to = let n = begins_length (seen_of k w.knowledge) (seen_of k x.knowledge) (e k) in let t = r.to in omega arith;
  state = same_state (seen_of k w.knowledge) (seen_of k x.knowledge) r.place (e k) r.to ∙ r.state;
}

pub read_since : (k at : ℕ) (s : State) (u v w : PassState) → Extends u v → ReadAt k at s v w → ReadAt k at s u w
read_since k at s u v w e r = record {
  place = r.place;
  known = r.known;
  from = let n = begins_length (seen_of k u.knowledge) (seen_of k v.knowledge) (e k) in let f = r.from in omega arith;
  to = r.to;
  state = r.state;
}

-- What a lesson that the pass has just heard tells of a key: all of its writes are at most the number, so the read is of the state behind the last one, and the place is the end of what is seen.
pub read_heard : (level : ℕ → ℕ) (hist : ℕ → List KeyedWrite) (k at : ℕ) (v w : PassState) (l : Lesson) → Has l w.knowledge.heard → at < reach_of l.taught k → LessonStands level hist w.knowledge l → StampsRise 0 (writes_of (hist k)) → stamp_behind (hist k) ≤ at
    → Begins (seen_of k w.knowledge) (hist k) → length (hist k) ≤ length (seen_of k w.knowledge) → length (seen_of k v.knowledge) ≤ length (hist k)
    → (r : ReadAt k at (state_behind (hist k)) v w) × (r.place ≡ length (seen_of k w.knowledge))
read_heard level hist k at v w l there covers stands rise last begins long from = (
  record {
    place = length (seen_of k w.knowledge);
    known = record { lesson = l; there = there; covers = covers; place = heard_place level hist w.knowledge k rise begins l stands at covers ∙ (place_end at (hist k) rise last ∙ sym (ap length same)) };
    from = let n = ap length same in omega arith;
    to = omega arith;
    state = ap (state_at (writes_of (seen_of k w.knowledge))) (sym (writes_length (seen_of k w.knowledge))) ∙ (state_at-end (writes_of (seen_of k w.knowledge)) (writes_of (seen_of k w.knowledge)) (Extends-self (writes_of (seen_of k w.knowledge))) ∙ ap state_behind same);
  },
  refl,
)
  where
    same : seen_of k w.knowledge ≡ hist k
    same = begins_whole (seen_of k w.knowledge) (hist k) begins long

-- at any moment the place of a read's number is its place, and there its state stands in the history
pub read_now : (level : ℕ → ℕ) (hist : ℕ → List KeyedWrite) (k at : ℕ) (s : State) (v w : PassState) → LessonsStand level hist w.knowledge → StampsRise 0 (writes_of (hist k)) → Begins (seen_of k w.knowledge) (hist k) → (r : ReadAt k at s v w)
    → (place_of (writes_of (hist k)) at ≡ r.place) × (state_at (writes_of (hist k)) r.place ≡ s)
read_now level hist k at s v w all rise begins r = ((known_place level hist w.knowledge k rise begins all at r.place r.known).1, same_state (seen_of k w.knowledge) (hist k) r.place begins r.to ∙ r.state)
