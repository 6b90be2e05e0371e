-- What the load of the count of a pinned room finds: the entries below it, and that each other key of the range was absent at the place of the base.
use Rattle.std.specs.Prelude.{◌≡◌, ℕ, length, ◌++◌, List, None}
use Rattle.oak_model.specs.Counts.{Each}
use Rattle.oak_core.specs.declared.states.Knowledge.{Knowledge}
use Rattle.oak_core.specs.declared.states.PassState.{PassState}
use Rattle.oak_core.specs.declared.states.Sight.{Sight}
use Rattle.oak_core.specs.KeyHistories.{state_behind}
use Rattle.oak_core.specs.KnownPlaces.{KnowsPlace, ReadAt}
use Rattle.oak_core.specs.PassState.{seen_of}
use Rattle.oak_core.specs.Sights.{IsSightedBare}

-- the number was found for the key in the call, as the base of a room in which the key had no entry
pub record SightedBare (call k at : ℕ) (v w : PassState) : Type 0 where
  pub more : List Sight
  pub sights : w.findings.sights ≡ v.findings.sights ++ more
  pub calls : Each (λ (s : Sight). s.call ≡ call) more
  pub sighted : IsSightedBare k at more

-- the key was read in the call, absent at the place of the number, which was found for it there
pub record ReadAbsent (call k at : ℕ) (v w : PassState) : Type 0 where
  pub read : ReadAt k at None v w
  pub sighted : SightedBare call k at v w

-- all that the pass has seen of the key ends at the place of the number, and the key is absent there
pub record EndsAbsent (k at : ℕ) (q : Knowledge) : Type 0 where
  pub known : KnowsPlace k at (length (seen_of k q)) q
  pub state : state_behind (seen_of k q) ≡ None
