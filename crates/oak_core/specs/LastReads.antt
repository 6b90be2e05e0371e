-- A key that a call read at a number to which all goes that its pass has seen of it then, and a life of a key that a pass knows from the entry.
use Rattle.std.specs.Prelude.{◌≡◌, ℕ, ◌⊎◌, length, List}
use Rattle.oak_model.specs.Counts.{Has}
use Rattle.oak_model.specs.State.{State}
use Rattle.oak_core.specs.declared.states.Knowledge.{Knowledge}
use Rattle.oak_core.specs.declared.states.PassState.{PassState}
use Rattle.oak_core.specs.KeyHistories.{state_behind, home_behind, homes_in}
use Rattle.oak_core.specs.KnownPlaces.{KnowsPlace, ReadAt}
use Rattle.oak_core.specs.PassState.{seen_of}
use Rattle.oak_core.specs.Sights.{SightedSince}

-- all that the pass has seen of the key ends at the place of the number, where the key has the state
pub record EndsAs (k at : ℕ) (s : State) (q : Knowledge) : Type 0 where
  pub known : KnowsPlace k at (length (seen_of k q)) q
  pub state : state_behind (seen_of k q) ≡ s

-- the key was read, at the place of the number, which was found for it between the two states, and all that is seen of it ends there
pub record ReadsLast (k at : ℕ) (s : State) (v w : PassState) : Type 0 where
  pub read : ReadAt k at s v w
  pub sighted : SightedSince k at v.findings w.findings
  pub ends : EndsAs k at s w.knowledge

-- the call of the pass loaded the life from an entry of the key
abbrev pub KnowsLifeOf : ℕ → List ℕ → ℕ → Knowledge → Type 0
KnowsLifeOf call key home q = Has (record { call = call; key = key; home = home }) q.loaded

-- what the pass has seen of the key does not go past the life
abbrev pub NotPast : ℕ → ℕ → Knowledge → Type 0
NotPast k home q = (home_behind (seen_of k q) ≡ home) ⊎ (homes_in home (seen_of k q) ≡ 0)
