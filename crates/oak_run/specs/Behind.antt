-- Histories that go on from what a pass has seen, each write with its life.
use Rattle.std.specs.Prelude.{◌≡◌, ℕ, ◌≤◌, cond, List, []}
use Rattle.oak_model.specs.Counts.{Begins, total}
use Rattle.oak_model.specs.History.{Histories, place_of}
use Rattle.oak_model.specs.Key.{is_key}
use Rattle.oak_model.specs.KeyNumber.{key_number}
use Rattle.chunk_core.specs.ValueWord.{names_header}
use Rattle.oak_core.specs.declared.states.KeyedWrite.{KeyedWrite}
use Rattle.oak_core.specs.declared.states.PassState.{PassState}
use Rattle.oak_core.specs.Callers.{begins}
use Rattle.oak_core.specs.KeyHistories.{IsKeyHistory, writes_of}
use Rattle.oak_core.specs.KnownPlaces.{KnowsPlace}
use Rattle.oak_core.specs.PassState.{seen_of}

-- no life is begun twice
abbrev pub BegunOnce : List KeyedWrite → Type 0
BegunOnce h = (v : ℕ) → names_header v ≡ 1 → total (begins v) h ≤ 1

-- They begin with what the pass has seen, a number has that place in them which the pass knows, and each is a legal one, of lives that are begun once.
pub record GoesBehind (v : PassState) (hs : ℕ → List KeyedWrite) : Type 0 where
  pub seen : (k : ℕ) → Begins (seen_of k v.knowledge) (hs k)
  pub places : (k at r : ℕ) → KnowsPlace k at r v.knowledge → place_of (writes_of (hs k)) at ≡ r
  pub legal : (k : ℕ) → IsKeyHistory k (hs k)
  pub once : (k : ℕ) → BegunOnce (hs k)

-- the writes alone, by keys; what is no key has none
abbrev pub histories : (ℕ → List KeyedWrite) → Histories
histories hs q = cond (is_key q) (writes_of (hs (key_number q))) []
