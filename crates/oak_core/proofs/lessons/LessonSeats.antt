-- By a split and a join no key changes: the one copies the lessons, and the other puts those of both passes together. A first pass has none.
use Rattle.std.proofs.Common.{◌≡◌, ◌≢◌, ℕ, ◌≤◌, ◌⊎◌, List, [], ◌∷◌, ◌++◌, map, length, set, sym, refl, ap, ◌∙◌, subst, ⊎_elim, arith, append-nil, None}
use mathlib.Core.Option.{some}
use lib.ListN.{get_elem?}
use Rattle.oak_model.specs.Counts.{total, Each, Begins}
use Rattle.oak_model.specs.Limits.{Sizes}
use Rattle.oak_model.proofs.Changes.{Change, divided, joined, change_parts}
use Rattle.oak_model.proofs.Lists.{at_map, each_append, every_one}
use Rattle.arena_core.specs.Place.{content}
use Rattle.chunk_core.specs.declared.holds.RoomHolds.{RoomHolds}
use Rattle.chunk_core.specs.CoverSums.{each, word_for, base_for}
use Rattle.chunk_core.specs.Covers.{Cover, cover_at}
use Rattle.chunk_core.specs.RoomHolds.{no_rooms}
use Rattle.chunk_core.proofs.CoverLaws.{moves, covers_still}
use Rattle.oak_core.specs.declared.states.Knowledge.{Knowledge}
use Rattle.oak_core.specs.declared.states.PassState.{PassState}
use Rattle.oak_core.specs.KeyReads.{sum_now, history_now, level_now}
use Rattle.oak_core.specs.Lessons.{LessonStands, LessonsStand, PinsKnow, HeardStands, GoesUp}
use Rattle.oak_core.specs.Memory.{Memory}
use Rattle.oak_core.specs.PassState.{of_key, seen_of, history, rooms_held, knowledge_of, left_state, right_state, both_state, spent_state}
use Rattle.oak_core.specs.Rule.{HistoriesStand}
use Rattle.oak_core.specs.Schedule.{MayJoin}
use Rattle.oak_core.proofs.histories.Histories.{history_same, seen_both}
use Rattle.oak_core.proofs.lessons.LessonLaws.{lessons_stay, heard_change}
use Rattle.oak_core.proofs.keyed.Levels.{level_framed}
use Rattle.oak_core.proofs.known.PinsKnown.{pins_stay, pins_none}

-- a pass that holds nothing has no moving range
idle_moves : (F : Cover → ℕ) (a b : RoomHolds) → b ≡ no_rooms → total (moves F) (a ∷ b ∷ []) ≡ total (moves F) (a ∷ [])
unfolding total
idle_moves F a b e = let n : moves F b ≡ 0 = ap (moves F) e in omega arith

-- what is added up over covers stays where what goes and what comes have the same ranges
sums_same : (z : Sizes) (m : Memory) (vs vs' : List PassState) (gone fresh : List RoomHolds) → Change (map rooms_held vs) (map rooms_held vs') gone fresh → ((F : Cover → ℕ) → total (moves F) gone ≡ total (moves F) fresh) → (F : Cover → ℕ) → sum_now z m vs' F ≡ sum_now z m vs F
sums_same z m vs vs' gone fresh c same F = let s = covers_still z.chunks m.rooms.pin (cover_at m.rooms (content m.arena.bytes)) (map rooms_held vs) (map rooms_held vs') gone fresh c F in let e = same F in omega arith

-- then no level changes
levels_same : (z : Sizes) (m : Memory) (vs vs' : List PassState) → ((F : Cover → ℕ) → sum_now z m vs' F ≡ sum_now z m vs F) → ((k : ℕ) → history_now vs' k ≡ history_now vs k) → (k : ℕ) → GoesUp (level_now z m vs k) (level_now z m vs' k) (history_now vs k) (history_now vs' k)
levels_same z m vs vs' same hist = level_framed z m m vs vs' (λ k. same (each (word_for k))) (λ k. let e = same (base_for k) in omega arith) hist

module _ (z : Sizes) (m : Memory) (vs : List PassState) (histories : HistoriesStand (map knowledge_of vs)) (seat : ℕ) (v : PassState) (here : get_elem? vs seat ≡ some v) where
  q_here : get_elem? (map knowledge_of vs) seat ≡ some v.knowledge
  q_here = at_map knowledge_of vs seat v here

  -- the lessons of one pass, at the states after
  moved : (q q' : Knowledge) (vs' : List PassState) → ((k : ℕ) → GoesUp (level_now z m vs k) (level_now z m vs' k) (history_now vs k) (history_now vs' k)) → ((k : ℕ) → length (seen_of k q) ≤ length (seen_of k q')) → LessonsStand (level_now z m vs) (history_now vs) q → Each (LessonStands (level_now z m vs') (history_now vs') q') q.heard
  moved q q' vs' up more s = lessons_stay (level_now z m vs) (level_now z m vs') (history_now vs) (history_now vs') up q q' more q.heard s

  -- a split

  abbrev left : PassState
  left = left_state v

  abbrev right : PassState
  right = right_state v

  abbrev apart : Change vs (set vs seat (left_state v) ++ right_state v ∷ []) (v ∷ []) (left_state v ∷ right_state v ∷ [])
  apart = divided vs seat v (left_state v) (right_state v) here

  pub sums_divided : (F : Cover → ℕ) → sum_now z m (set vs seat (left_state v) ++ right_state v ∷ []) F ≡ sum_now z m vs F
  sums_divided = sums_same z m vs (set vs seat left ++ right ∷ []) (v.rooms ∷ []) (v.rooms ∷ no_rooms ∷ []) (change_parts rooms_held apart) (λ F. sym (idle_moves F v.rooms no_rooms refl))

  pub history_divided : (k : ℕ) → history_now (set vs seat (left_state v) ++ right_state v ∷ []) k ≡ history_now vs k
  history_divided = history_same (change_parts knowledge_of apart) seat v.knowledge q_here histories
      (λ k. let h = histories k seat v.knowledge q_here in (h, (h, tt)))
      (λ k y g. (v.knowledge, (change_parts knowledge_of apart).come.0, ⊎_elim (λ (q : v.knowledge ≡ y). let e = ap (λ (x : Knowledge). length (seen_of k x)) q in omega arith) (λ (q : ⊥). absurd q) g))

  pub heard_split : HeardStands z m vs → HeardStands z m (set vs seat (left_state v) ++ right_state v ∷ [])
  heard_split heard = let vs' : List PassState = set vs seat left ++ right ∷ [] in let up = levels_same z m vs vs' sums_divided history_divided in let mine = heard.lessons seat v.knowledge q_here in record {
    lessons = heard_change (level_now z m vs) (level_now z m vs') (history_now vs) (history_now vs') up (change_parts knowledge_of apart) heard.lessons
        (moved v.knowledge left.knowledge vs' up (λ k. omega arith) mine, (moved v.knowledge right.knowledge vs' up (λ k. omega arith) mine, tt));
    pins = apart.every PinsKnow (pins_stay v left refl [] (sym (append-nil v.knowledge.heard)) (heard.pins seat v here), (pins_none right refl, tt)) (λ j t _ at. heard.pins j t at);
  }

  -- a join

  module _ (other : ℕ) (w : PassState) (there : get_elem? vs other ≡ some w) (ne : other ≢ seat) (may : MayJoin w) where
    abbrev both : PassState
    both = both_state v w

    abbrev together : Change vs (set (set vs seat (both_state v w)) other spent_state) (v ∷ w ∷ []) (both_state v w ∷ spent_state ∷ [])
    together = joined vs seat other v w (both_state v w) spent_state here there ne

    w_there : get_elem? (map knowledge_of vs) other ≡ some w.knowledge
    w_there = at_map knowledge_of vs other w there

    -- it has seen no less than each of the two
    more : (k : ℕ) → (length (seen_of k v.knowledge) ≤ length (seen_of k (both_state v w).knowledge)) × (length (seen_of k w.knowledge) ≤ length (seen_of k (both_state v w).knowledge))
    more k = seen_both k v.knowledge w.knowledge both.knowledge refl

    pub sums_joined : (F : Cover → ℕ) → sum_now z m (set (set vs seat (both_state v w)) other spent_state) F ≡ sum_now z m vs F
    sums_joined = sums_same z m vs (set (set vs seat both) other spent_state) (v.rooms ∷ w.rooms ∷ []) (v.rooms ∷ no_rooms ∷ []) (change_parts rooms_held together) (λ F. idle_moves F v.rooms w.rooms may.idle.rooms ∙ sym (idle_moves F v.rooms no_rooms refl))

    pub history_joined : (k : ℕ) → history_now (set (set vs seat (both_state v w)) other spent_state) k ≡ history_now vs k
    history_joined = history_same (change_parts knowledge_of together) seat v.knowledge q_here histories
        (λ k. (each_append (λ l. Begins (of_key k l) (history k (map knowledge_of vs))) v.knowledge.seen w.knowledge.seen (histories k seat v.knowledge q_here) (histories k other w.knowledge w_there), (tt, tt)))
        (λ k y g. let b = more k in (
          both.knowledge,
          (change_parts knowledge_of together).come.0,
          ⊎_elim (λ (q : v.knowledge ≡ y). let e = ap (λ (x : Knowledge). length (seen_of k x)) q in omega arith)
              (λ (o : (w.knowledge ≡ y) ⊎ ⊥). ⊎_elim (λ (q : w.knowledge ≡ y). let e = ap (λ (x : Knowledge). length (seen_of k x)) q in omega arith) (λ (q : ⊥). absurd q) o) g,
        ))

    pub heard_join : HeardStands z m vs → HeardStands z m (set (set vs seat (both_state v w)) other spent_state)
    heard_join heard = let vs' : List PassState = set (set vs seat both) other spent_state in let up = levels_same z m vs vs' sums_joined history_joined in record {
      lessons = heard_change (level_now z m vs) (level_now z m vs') (history_now vs) (history_now vs') up (change_parts knowledge_of together) heard.lessons (
        each_append (LessonStands (level_now z m vs') (history_now vs') both.knowledge) v.knowledge.heard w.knowledge.heard
            (moved v.knowledge both.knowledge vs' up (λ k. (more k).0) (heard.lessons seat v.knowledge q_here))
            (moved w.knowledge both.knowledge vs' up (λ k. (more k).1) (heard.lessons other w.knowledge w_there)),
        (tt, tt),
      );
      pins = together.every PinsKnow (pins_stay v both refl w.knowledge.heard refl (heard.pins seat v here), (pins_none spent_state refl, tt)) (λ j t _ at. heard.pins j t at);
    }

-- a pass alone, without lessons and pins
pub heard_first : (z : Sizes) (m : Memory) (v : PassState) → v.knowledge.heard ≡ [] → v.rooms.pin ≡ None → v.headers.pin ≡ None → HeardStands z m (v ∷ [])
heard_first z m v none room header = record {
  lessons = every_one (LessonsStand (level_now z m (v ∷ [])) (history_now (v ∷ []))) v.knowledge (subst (Each (LessonStands (level_now z m (v ∷ [])) (history_now (v ∷ [])) v.knowledge)) (sym none) tt);
  pins = every_one PinsKnow v (pins_none v header);
}
