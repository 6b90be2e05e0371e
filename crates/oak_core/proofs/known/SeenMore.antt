-- A pass that has seen no less of each key than it had, and nothing but parts of the histories, leaves all histories.
use Rattle.std.proofs.Common.{◌≡◌, ℕ, ◌≤◌, List, [], ◌∷◌, map, length, set, sym, ap, ◌∙◌, subst, inl, inr, arith}
use mathlib.Core.Option.{some}
use lib.ListN.{get_elem?}
use Rattle.oak_model.specs.Counts.{Begins, Each}
use Rattle.oak_model.proofs.Changes.{Among, AmongOf, Change, stepped}
use Rattle.oak_model.proofs.Lists.{at_map, map_set}
use Rattle.oak_core.specs.declared.states.KeyedWrite.{KeyedWrite}
use Rattle.oak_core.specs.declared.states.Knowledge.{Knowledge}
use Rattle.oak_core.specs.declared.states.PassState.{PassState}
use Rattle.oak_core.specs.KeyReads.{history_now}
use Rattle.oak_core.specs.PassState.{history, knowledge_of, of_key, seen_of}
use Rattle.oak_core.specs.Rule.{HistoriesStand}
use Rattle.oak_core.proofs.histories.Histories.{histories_frame, history_same}

module _ (vs : List PassState) (seat : ℕ) (v u : PassState) (here : get_elem? vs seat ≡ some v) (histories : HistoriesStand (map knowledge_of vs)) (begin : (k : ℕ) → Each (λ (l : List KeyedWrite). Begins (of_key k l) (history_now vs k)) u.knowledge.seen) (more : (k : ℕ) → length (seen_of k v.knowledge) ≤ length (seen_of k u.knowledge)) where
  abbrev qs : List Knowledge
  qs = map knowledge_of vs

  q_here : get_elem? (map knowledge_of vs) seat ≡ some v.knowledge
  q_here = at_map knowledge_of vs seat v here

  change : Change qs (set qs seat u.knowledge) (v.knowledge ∷ []) (u.knowledge ∷ [])
  change = stepped qs seat v.knowledge u.knowledge q_here

  kept : (k : ℕ) (y : Knowledge) → AmongOf (v.knowledge ∷ []) y → (w : Knowledge) × Among (set qs seat u.knowledge) w × (length (seen_of k y) ≤ length (seen_of k w))
  kept k y (inl e) = (u.knowledge, change.come.0, (let l = more k in let s = ap (λ (x : Knowledge). length (seen_of k x)) e in omega arith))
  kept k y (inr e) = absurd e

  pub history_more : (k : ℕ) → history_now (set vs seat u) k ≡ history_now vs k
  history_more k = ap (history k) (map_set knowledge_of vs seat u) ∙ history_same change seat v.knowledge q_here histories (λ j. (begin j, tt)) kept k

  pub histories_more : HistoriesStand (map knowledge_of (set vs seat u))
  histories_more = subst HistoriesStand (sym (map_set knowledge_of vs seat u)) (histories_frame change seat v.knowledge q_here histories (λ j. (begin j, tt)) kept)
