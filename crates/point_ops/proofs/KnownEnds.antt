-- A lesson of a key up to a number at which all ends that its pass has seen of the key teaches nothing of it.
use Rattle.std.proofs.Common.{◌≡◌, ℕ, suc, Bool, true, false, List, map, length, sym, ap, ◌∙◌, subst, arith}
use mathlib.Core.Option.{some}
use lib.ListN.{get_elem?}
use Rattle.oak_model.specs.Counts.{Begins}
use Rattle.oak_model.specs.History.{StampsRise}
use Rattle.oak_model.specs.KeyNumber.{key_number}
use Rattle.oak_model.specs.Limits.{Sizes}
use Rattle.oak_model.specs.State.{State}
use Rattle.oak_model.proofs.Lists.{at_map, begins_whole}
use Rattle.oak_core.specs.declared.states.KeyedWrite.{KeyedWrite}
use Rattle.oak_core.specs.declared.states.Knowledge.{Knowledge}
use Rattle.oak_core.specs.declared.states.PassState.{PassState}
use Rattle.oak_core.specs.KeyHistories.{writes_of, before, state_behind}
use Rattle.oak_core.specs.KeyReads.{history_now, level_now}
use Rattle.oak_core.specs.KnownPlaces.{KnowsPlace}
use Rattle.oak_core.specs.LastReads.{EndsAs}
use Rattle.oak_core.specs.Learning.{of_key_to, taught_where}
use Rattle.oak_core.specs.Memory.{memory}
use Rattle.oak_core.specs.PassState.{history, knowledge_of, seen_of}
use Rattle.oak_core.specs.Step.{Step, Told}
use Rattle.oak_core.proofs.histories.Histories.{seen_stands}
use Rattle.oak_core.proofs.known.KnownPlaces.{known_place, place_length}
use Rattle.oak_core.proofs.lessons.LessonReach.{reach_here}
use Rattle.oak_core.proofs.lessons.TaughtReads.{begins_shorter}
use Rattle.oak_core.proofs.lessons.TaughtSteps.{taught_remembers}
use Rattle.oak_core.proofs.histories.WritesBelow.{before_first}
use Rattle.point_ops.proofs.RemovalSeen.{taught_just}

module _ (z : Sizes) (call : ℕ) (x : Step) (v : PassState) (n : ℕ) (w : PassState) (t : Told z call x v n w) (key : List ℕ) (at : ℕ) (s : State) (ends : EndsAs (key_number key) at s v.knowledge) where
  abbrev qs : List Knowledge
  qs = map knowledge_of t.table.states

  abbrev k : ℕ
  k = key_number key

  q_here : get_elem? qs t.seat ≡ some v.knowledge
  q_here = at_map knowledge_of t.table.states t.seat v t.here

  rise : (j : ℕ) → StampsRise 0 (writes_of (history j qs))
  rise j = (t.rule.keys.legal j).legal.stamps

  begun : Begins (seen_of k v.knowledge) (history k qs)
  begun = seen_stands qs t.rule.histories k t.seat v.knowledge q_here

  -- what it has seen is the key's writes up to the number
  same_long : length (before (suc at) (history k qs)) ≡ length (seen_of k v.knowledge)
  same_long = sym (place_length at (history k qs)) ∙ (known_place (level_now z (memory z t.table.words) t.table.states) (history_now t.table.states) v.knowledge k (rise k) begun (t.rule.heard.lessons t.seat v.knowledge q_here) at (length (seen_of k v.knowledge)) ends.known).1

  all_seen : seen_of k v.knowledge ≡ before (suc at) (history k qs)
  all_seen = begins_whole (seen_of k v.knowledge) (before (suc at) (history k qs)) (begins_shorter (seen_of k v.knowledge) (before (suc at) (history k qs)) (history k qs) begun (before_first (suc at) 0 (history k qs) (rise k)) (let l = same_long in omega arith)) (let l = same_long in omega arith)

  pub still_seen : (b : Bool) → w.knowledge ≡ taught_where b (of_key_to key at) (map knowledge_of t.table.states) v.knowledge → seen_of (key_number key) w.knowledge ≡ seen_of (key_number key) v.knowledge
  still_seen false e = ap (seen_of k) e
  still_seen true e = let r = reach_here key at in taught_just (of_key_to key at) qs t.rule.histories rise t.seat v.knowledge q_here w.knowledge (ap (λ (q : Knowledge). q.seen) e) k (let l = same_long in let m = ap (λ (i : ℕ). length (before i (history k qs))) r in omega arith)
      ∙ (ap (λ (i : ℕ). before i (history k qs)) r ∙ sym all_seen)

  pub ends_still : (b : Bool) → w.knowledge ≡ taught_where b (of_key_to key at) (map knowledge_of t.table.states) v.knowledge → EndsAs (key_number key) at s w.knowledge
  ends_still b e = let same = still_seen b e in record {
    known = subst (λ (l : List KeyedWrite). KnowsPlace k at (length l) w.knowledge) (sym same) (taught_remembers z call x v n w t b (of_key_to key at) e k at (length (seen_of k v.knowledge)) ends.known);
    state = ap state_behind same ∙ ends.state;
  }
