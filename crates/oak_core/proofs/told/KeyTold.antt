-- What a pass has of a key whose writes it was taught up to a number, not below the key's last stamp, nor above its level: all of the key's history, which it read so.
use Rattle.std.proofs.Common.{◌≡◌, ℕ, ◌≤◌, inl, List, [], ◌∷◌, ◌++◌, map, length, sym, refl, ap, ◌∙◌, subst, arith}
use mathlib.Core.Option.{some}
use lib.ListN.{get_elem?}
use Rattle.oak_model.specs.Counts.{Has}
use Rattle.oak_model.specs.History.{StampsRise}
use Rattle.oak_model.specs.KeyNumber.{key_number}
use Rattle.oak_model.specs.Limits.{Sizes}
use Rattle.oak_model.specs.State.{State}
use Rattle.oak_model.proofs.Lists.{at_map, begins_length}
use Rattle.oak_core.specs.declared.states.Knowledge.{Knowledge}
use Rattle.oak_core.specs.declared.states.Lesson.{Lesson}
use Rattle.oak_core.specs.declared.states.PassState.{PassState}
use Rattle.oak_core.specs.KeyHistories.{writes_of, state_behind, stamp_behind}
use Rattle.oak_core.specs.KeyReads.{history_now, level_now}
use Rattle.oak_core.specs.KnownPlaces.{KnowsPlace, ReadAt}
use Rattle.oak_core.specs.LastReads.{ReadsLast}
use Rattle.oak_core.specs.Learning.{of_key_to, lesson_by, taught_by}
use Rattle.oak_core.specs.Memory.{memory}
use Rattle.oak_core.specs.PassState.{seen_of, history, knowledge_of}
use Rattle.oak_core.specs.Rule.{Rule}
use Rattle.oak_core.specs.Step.{Step, Told}
use Rattle.oak_core.specs.TableState.{TableState}
use Rattle.oak_core.proofs.histories.Histories.{seen_stands}
use Rattle.oak_core.proofs.lessons.LessonReach.{reach_one, reach_here}
use Rattle.oak_core.proofs.known.PinsKnown.{has_later}
use Rattle.oak_core.proofs.lessons.TaughtReads.{taught_whole, read_taught}
use Rattle.oak_model.proofs.Lists.{begins_length}

module _ (z : Sizes) (s : TableState) (r : Rule z s) (seat : ℕ) (v : PassState) (here : get_elem? s.states seat ≡ some v) (w : PassState) (key : List ℕ) (n : ℕ) (knowledge : w.knowledge ≡ taught_by (of_key_to key n) (map knowledge_of s.states) v.knowledge) where
  abbrev qs : List Knowledge
  qs = map knowledge_of s.states

  abbrev k : ℕ
  k = key_number key

  q_here : get_elem? qs seat ≡ some v.knowledge
  q_here = at_map knowledge_of s.states seat v here

  rise : (j : ℕ) → StampsRise 0 (writes_of (history j qs))
  rise j = (r.keys.legal j).legal.stamps

  seen_now : w.knowledge.seen ≡ (taught_by (of_key_to key n) qs v.knowledge).seen
  seen_now = ap (λ (q : Knowledge). q.seen) knowledge

  -- up to the last stamp or further, but not above the level
  module _ (last : stamp_behind (history_now s.states (key_number key)) ≤ n) (le : n ≤ level_now z (memory z s.words) s.states (key_number key)) where
    pub key_whole : seen_of (key_number key) w.knowledge ≡ history_now s.states (key_number key)
    key_whole = taught_whole (of_key_to key n) qs r.histories rise seat v.knowledge q_here w seen_now k (let e = reach_here key n in omega arith)

    read_it : (x : ReadAt (key_number key) n (state_behind (history (key_number key) (map knowledge_of s.states))) v w) × (x.place ≡ length (seen_of (key_number key) w.knowledge))
    read_it = read_taught (of_key_to key n) qs r.histories rise seat v.knowledge q_here w seen_now (level_now z (memory z s.words) s.states) (reach_one (level_now z (memory z s.words) s.states) key n le) (λ j. tt)
        (subst (λ (l : List Lesson). Has (lesson_by (of_key_to key n) qs) l) (sym (ap (λ (q : Knowledge). q.heard) knowledge)) (has_later v.knowledge.heard (lesson_by (of_key_to key n) qs ∷ []) (lesson_by (of_key_to key n) qs) (inl refl)))
        k n (reach_here key n) last v (begins_length (seen_of k v.knowledge) (history k qs) (seen_stands qs r.histories k seat v.knowledge q_here))

    pub key_read : ReadAt (key_number key) n (state_behind (history_now s.states (key_number key))) v w
    key_read = read_it.0

    pub key_place : KnowsPlace (key_number key) n (length (seen_of (key_number key) w.knowledge)) w.knowledge
    unfolding read_it key_read
    key_place = subst (λ (p : ℕ). KnowsPlace (key_number key) n p w.knowledge) read_it.1 key_read.known

    pub key_state : state_behind (seen_of (key_number key) w.knowledge) ≡ state_behind (history_now s.states (key_number key))
    key_state = ap state_behind key_whole

-- so a step that taught them, with a sight, has read the key
module _ (z : Sizes) (call : ℕ) (x : Step) (v : PassState) (n : ℕ) (w : PassState) (t : Told z call x v n w) (key : List ℕ) (at : ℕ) (knowledge : w.knowledge ≡ taught_by (of_key_to key at) (map knowledge_of t.table.states) v.knowledge)
    (sights : w.findings.sights ≡ v.findings.sights ++ record { call = call; taught = of_key_to key at } ∷ [])
    (last : stamp_behind (history_now t.table.states (key_number key)) ≤ at) (level : at ≤ level_now z (memory z t.table.words) t.table.states (key_number key)) (state : State) (now : state_behind (history_now t.table.states (key_number key)) ≡ state) where
  pub key_last : ReadsLast (key_number key) at state v w
  key_last = record {
    read = subst (λ (s : State). ReadAt (key_number key) at s v w) now (key_read z t.table t.rule t.seat v t.here w key at knowledge last level);
    sighted = (_, sights, record { sight = _; there = inl refl; just = reach_here key at });
    ends = record { known = key_place z t.table t.rule t.seat v t.here w key at knowledge last level; state = key_state z t.table t.rule t.seat v t.here w key at knowledge last level ∙ now };
  }
