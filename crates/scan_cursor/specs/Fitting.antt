-- Histories that go on from what a pass has seen, against which its scan is judged.
use Rattle.std.specs.Prelude.{◌≡◌, ℕ, cond, true, false, List, [], length}
use Rattle.oak_model.specs.Counts.{Begins}
use Rattle.oak_model.specs.History.{Histories, place_of}
use Rattle.oak_model.specs.Key.{is_key}
use Rattle.oak_model.specs.KeyNumber.{key_number}
use Rattle.oak_core.specs.declared.states.PassState.{PassState}
use Rattle.oak_core.specs.KeyHistories.{writes_of}
use Rattle.oak_core.specs.KnownPlaces.{KnowsPlace}
use Rattle.oak_core.specs.PassState.{seen_of}

-- how many writes of the key the pass has seen; of what is no key there are none
abbrev pub seen_length : PassState → List ℕ → ℕ
seen_length v q = cond (is_key q) (length (seen_of (key_number q) v.knowledge)) 0

-- They begin with what the pass has seen, what is no key has none, and a number has that place in them which the pass knows.
pub record GoOnFrom (v : PassState) (h : Histories) : Type 0 where
  pub seen : (q : List ℕ) → is_key q ≡ true → Begins (writes_of (seen_of (key_number q) v.knowledge)) (h q)
  pub others : (q : List ℕ) → is_key q ≡ false → h q ≡ []
  pub places : (q : List ℕ) (at r : ℕ) → is_key q ≡ true → KnowsPlace (key_number q) at r v.knowledge → place_of (h q) at ≡ r

-- the place of the number that a scan found for a key
abbrev pub places_at : Histories → (List ℕ → ℕ) → List ℕ → ℕ
places_at h ats q = cond (is_key q) (place_of (h q) (ats q)) 0
