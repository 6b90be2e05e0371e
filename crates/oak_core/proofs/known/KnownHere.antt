-- What a pass knows at one moment, by the points that stand then: the places that it knows, and what it has read, are so in the histories of that moment.
use Rattle.std.proofs.Common.{◌≡◌, ℕ, List, map, cond, Bool, true, [], ap, ◌∙◌}
use mathlib.Core.Option.{some}
use lib.ListN.{get_elem?}
use Rattle.oak_model.specs.Counts.{Begins}
use Rattle.oak_model.specs.History.{StampsRise, place_of, state_at}
use Rattle.oak_model.specs.Limits.{Sizes}
use Rattle.oak_model.specs.State.{State}
use Rattle.oak_model.proofs.Lists.{at_map}
use Rattle.oak_core.specs.declared.states.PassState.{PassState}
use Rattle.oak_core.specs.KeyHistories.{writes_of}
use Rattle.oak_core.specs.KeyReads.{history_now, level_now}
use Rattle.oak_core.specs.KeyRule.{HistoriesAreLegal}
use Rattle.oak_core.specs.KnownPlaces.{KnowsPlace, ReadAt}
use Rattle.oak_core.specs.Lessons.{LessonsStand, HeardStands}
use Rattle.oak_core.specs.Memory.{Memory, memory}
use Rattle.oak_core.specs.PassState.{seen_of, knowledge_of}
use Rattle.oak_core.specs.Rule.{HistoriesStand}
use Rattle.oak_core.proofs.histories.Histories.{seen_stands}
use Rattle.oak_core.proofs.known.KnownPlaces.{known_place}
use Rattle.oak_core.proofs.known.KnownReads.{read_now}
use Rattle.oak_core.specs.Splitting.{Ends}
use Rattle.oak_model.specs.Key.{is_key}
use Rattle.oak_model.specs.KeyNumber.{key_number}

module _ (z : Sizes) (m : Memory) (vs : List PassState) (legal : HistoriesAreLegal vs) (histories : HistoriesStand (map knowledge_of vs)) (heard : HeardStands z m vs) (seat : ℕ) (v : PassState) (here : get_elem? vs seat ≡ some v) where
  rise : (k : ℕ) → StampsRise 0 (writes_of (history_now vs k))
  rise k = (legal k).legal.stamps

  begins : (k : ℕ) → Begins (seen_of k v.knowledge) (history_now vs k)
  begins k = seen_stands (map knowledge_of vs) histories k seat v.knowledge (at_map knowledge_of vs seat v here)

  lessons : LessonsStand (level_now z m vs) (history_now vs) v.knowledge
  lessons = heard.lessons seat v.knowledge (at_map knowledge_of vs seat v here)

  pub known_here : (k at r : ℕ) → KnowsPlace k at r v.knowledge → (place_of (writes_of (seen_of k v.knowledge)) at ≡ r) × (place_of (writes_of (history_now vs k)) at ≡ r)
  known_here k = known_place (level_now z m vs) (history_now vs) v.knowledge k (rise k) (begins k) lessons

  pub read_here : (k at : ℕ) (s : State) (u : PassState) (r : ReadAt k at s u v) → (place_of (writes_of (history_now vs k)) at ≡ r.place) × (state_at (writes_of (history_now vs k)) r.place ≡ s)
  read_here k at s u = read_now (level_now z m vs) (history_now vs) k at s u v lessons (rise k) (begins k)

-- each place that the pass knows is that in the history of a table that it closes
abbrev pub PlacesKnown : PassState → Type 0
PlacesKnown v = (key : List ℕ) (at r : ℕ) → is_key key ≡ true → KnowsPlace (key_number key) at r v.knowledge → place_of (cond (is_key key) (writes_of (seen_of (key_number key) v.knowledge)) []) at ≡ r

pub places_at_end : (z : Sizes) (words : List ℕ) (v : PassState) → Ends z words v → PlacesKnown v
places_at_end z words v e key at r is knows = ap (λ (b : Bool). place_of (cond b (writes_of (seen_of (key_number key) v.knowledge)) []) at) is
    ∙ (known_here z (memory z e.table.words) e.table.states e.rule.keys.legal e.rule.histories e.rule.heard e.seat v e.here (key_number key) at r knows).0
