-- A step of one seat that teaches its pass what all logs have below some numbers: no history changes, and all that a pass has seen is the beginning of it.
use Rattle.std.proofs.Common.{◌≡◌, ℕ, ◌≤◌, List, [], map, length, set, sym, ap, subst, arith}
use mathlib.Core.Option.{some}
use lib.ListN.{get_elem?}
use Rattle.oak_model.specs.Counts.{Each, Begins, longest}
use Rattle.oak_model.specs.History.{StampsRise}
use Rattle.oak_model.proofs.Lists.{at_map, set_there}
use Rattle.oak_core.specs.declared.states.KeyedWrite.{KeyedWrite}
use Rattle.oak_core.specs.declared.states.Knowledge.{Knowledge}
use Rattle.oak_core.specs.declared.states.PassState.{PassState}
use Rattle.oak_core.specs.KeyHistories.{writes_of}
use Rattle.oak_core.specs.KeyReads.{history_now}
use Rattle.oak_core.specs.Learning.{taught}
use Rattle.oak_core.specs.PassState.{of_key, seen_of, history, knowledge_of}
use Rattle.oak_core.specs.Rule.{HistoriesStand}
use Rattle.oak_core.proofs.known.SeenMore.{history_more, histories_more}
use Rattle.oak_core.proofs.lessons.Teaching.{taught_more, taught_same, taught_stand}

module _ (T : ℕ → ℕ) (vs : List PassState) (histories : HistoriesStand (map knowledge_of vs)) (rise : (k : ℕ) → StampsRise 0 (writes_of (history_now vs k))) (seat : ℕ) (v u : PassState) (here : get_elem? vs seat ≡ some v) (seen : u.knowledge.seen ≡ (taught T [] (map knowledge_of vs) v.knowledge).seen) where
  abbrev qs : List Knowledge
  qs = map knowledge_of vs

  q_here : get_elem? (map knowledge_of vs) seat ≡ some v.knowledge
  q_here = at_map knowledge_of vs seat v here

  -- the pass has seen just what it was taught
  pub seen_taught : (k : ℕ) → seen_of k u.knowledge ≡ seen_of k (taught T [] (map knowledge_of vs) v.knowledge)
  seen_taught k = ap (λ (l : List (List KeyedWrite)). longest (map (of_key k) l)) seen

  taught_begin : (k : ℕ) → Each (λ (l : List KeyedWrite). Begins (of_key k l) (history_now vs k)) u.knowledge.seen
  taught_begin k = subst (λ (t : List (List KeyedWrite)). Each (λ (l : List KeyedWrite). Begins (of_key k l) (history k qs)) t) (sym seen)
      (subst (λ (h : List KeyedWrite). Each (λ (l : List KeyedWrite). Begins (of_key k l) h) (taught T [] qs v.knowledge).seen) (taught_same T [] qs histories rise seat v.knowledge q_here k)
      (taught_stand T [] qs histories rise seat v.knowledge q_here k seat (taught T [] qs v.knowledge) (set_there qs seat v.knowledge (taught T [] qs v.knowledge) q_here)))

  more : (k : ℕ) → length (seen_of k v.knowledge) ≤ length (seen_of k u.knowledge)
  more k = let l = taught_more T [] qs histories rise seat v.knowledge q_here k in let t = ap length (seen_taught k) in omega arith

  pub history_taught : (k : ℕ) → history_now (set vs seat u) k ≡ history_now vs k
  history_taught = history_more vs seat v u here histories taught_begin more

  pub histories_taught : HistoriesStand (map knowledge_of (set vs seat u))
  histories_taught = histories_more vs seat v u here histories taught_begin more
