-- A step of one seat keeps the points on lessons where each key goes up by it: one that teaches nothing, and one that teaches what meets the points.
use Rattle.std.proofs.Common.{◌≡◌, ◌≢◌, ℕ, suc, ◌≤◌, List, [], ◌∷◌, ◌++◌, map, length, set, sym, ap, ◌∙◌, subst, ⊎_elim, arith, append-nil}
use mathlib.Core.Option.{some}
use lib.ListN.{get_elem?}
use Rattle.oak_model.specs.Counts.{Each, Every, longest}
use Rattle.oak_model.specs.History.{StampsRise}
use Rattle.oak_model.specs.Limits.{Sizes}
use Rattle.oak_model.proofs.Lists.{at_map, at_set, map_set}
use Rattle.oak_core.specs.declared.states.KeyedWrite.{KeyedWrite}
use Rattle.oak_core.specs.declared.states.Knowledge.{Knowledge}
use Rattle.oak_core.specs.declared.states.Lesson.{Lesson}
use Rattle.oak_core.specs.declared.states.PassState.{PassState}
use Rattle.oak_core.specs.declared.states.Taught.{Taught}
use Rattle.oak_core.specs.KeyHistories.{writes_of, before}
use Rattle.oak_core.specs.KeyReads.{word_now, base_now, history_now, level_now}
use Rattle.oak_core.specs.Learning.{reach_of, lesson_by, taught_by}
use Rattle.oak_core.specs.Lessons.{IsAbsentBehind, LessonStands, LessonsStand, PinsKnow, HeardStands, GoesUp}
use Rattle.oak_core.specs.Memory.{Memory}
use Rattle.oak_core.specs.PassState.{of_key, seen_of, knowledge_of}
use Rattle.oak_core.specs.Rule.{HistoriesStand}
use Rattle.oak_core.proofs.lessons.LessonLaws.{lessons_stay, heard_step, lesson_taught}
use Rattle.oak_core.proofs.keyed.Levels.{level_framed}
use Rattle.oak_core.proofs.lessons.Teaching.{taught_more}

-- a step of one seat: the memory becomes another, and the state of its pass
module _ (z : Sizes) (m m' : Memory) (vs : List PassState) (seat : ℕ) (v u : PassState) (here : get_elem? vs seat ≡ some v) (heard : HeardStands z m vs) where
  abbrev vs' : List PassState
  vs' = set vs seat u

  abbrev qs : List Knowledge
  qs = map knowledge_of vs

  -- each key goes up
  abbrev AllGoUp : Type 0
  AllGoUp = (k : ℕ) → GoesUp (level_now z m vs k) (level_now z m' (set vs seat u) k) (history_now vs k) (history_now (set vs seat u) k)

  -- the law that carries all kinds: each key goes up, and what the pass of the seat learns meets the points
  pub heard_one : AllGoUp → ((k : ℕ) → length (seen_of k v.knowledge) ≤ length (seen_of k u.knowledge))
      → (ls : List Lesson) → u.knowledge.heard ≡ v.knowledge.heard ++ ls → Each (LessonStands (level_now z m' (set vs seat u)) (history_now (set vs seat u)) u.knowledge) ls → PinsKnow u → HeardStands z m' (set vs seat u)
  heard_one up more ls is new pins = record {
    lessons = subst (Every (LessonsStand (level_now z m' vs') (history_now vs'))) (sym (map_set knowledge_of vs seat u))
        (heard_step (level_now z m vs) (level_now z m' vs') (history_now vs) (history_now vs') up (map knowledge_of vs) seat v.knowledge u.knowledge (at_map knowledge_of vs seat v here) heard.lessons more ls is new);
    pins = λ j t at. ⊎_elim (λ (y : (j ≡ seat) × (u ≡ t)). subst PinsKnow y.1 pins) (λ (y : (j ≢ seat) × (get_elem? vs j ≡ some t)). heard.pins j t y.1) (at_set vs seat j u t at);
  }

  -- it learns nothing
  pub heard_idle : AllGoUp → u.knowledge ≡ v.knowledge → PinsKnow u → HeardStands z m' (set vs seat u)
  heard_idle up same pins = heard_one up (λ k. let e = ap (λ (q : Knowledge). length (seen_of k q)) same in omega arith) [] (ap (λ (q : Knowledge). q.heard) same ∙ sym (append-nil v.knowledge.heard)) tt pins

  -- a load that teaches: no key changes, and the lesson goes to the levels at most
  pub heard_load : (x : Taught) → HistoriesStand (map knowledge_of vs) → ((k : ℕ) → StampsRise 0 (writes_of (history_now vs k)))
      → ((k : ℕ) → word_now z m' (set vs seat u) k ≡ word_now z m vs k) → ((k : ℕ) → base_now z m vs k ≤ base_now z m' (set vs seat u) k) → ((k : ℕ) → history_now (set vs seat u) k ≡ history_now vs k)
      → u.knowledge.seen ≡ (taught_by x (map knowledge_of vs) v.knowledge).seen → u.knowledge.heard ≡ (taught_by x (map knowledge_of vs) v.knowledge).heard
      → ((k : ℕ) → reach_of x k ≤ suc (level_now z m vs k)) → ((k : ℕ) → IsAbsentBehind x k (before (reach_of x k) (history_now vs k))) → PinsKnow u → HeardStands z m' (set vs seat u)
  heard_load x histories rise ew le eh seen is upto absent pins =
      heard_one (level_framed z m m' vs vs' ew le eh) (λ k. let t = taught_more (reach_of x) (lesson_by x qs ∷ []) qs histories rise seat v.knowledge q_here k in let e = seen_same k in omega arith)
      (lesson_by x qs ∷ []) is (lesson_moved, tt) pins
    where
      q_here : get_elem? (map knowledge_of vs) seat ≡ some v.knowledge
      q_here = at_map knowledge_of vs seat v here

      seen_same : (k : ℕ) → length (seen_of k u.knowledge) ≡ length (seen_of k (taught_by x (map knowledge_of vs) v.knowledge))
      seen_same k = ap (λ (l : List (List KeyedWrite)). length (longest (map (of_key k) l))) seen

      first : LessonStands (level_now z m vs) (history_now vs) (taught_by x (map knowledge_of vs) v.knowledge) (lesson_by x (map knowledge_of vs))
      first = lesson_taught x qs histories rise seat v.knowledge q_here (level_now z m vs) upto absent

      lesson_moved : LessonStands (level_now z m' vs') (history_now vs') u.knowledge (lesson_by x (map knowledge_of vs))
      lesson_moved = (lessons_stay (level_now z m vs) (level_now z m' vs') (history_now vs) (history_now vs') (level_framed z m m' vs vs' ew le eh) (taught_by x qs v.knowledge) u.knowledge (λ k. let e = seen_same k in omega arith) (lesson_by x qs ∷ []) (first, tt)).0
