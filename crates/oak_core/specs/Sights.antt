-- Which numbers a call found for which keys, and which lives it found to be over. A pass notes both at the steps that teach it, in lists that only grow.
use Rattle.std.specs.Prelude.{◌≡◌, ℕ, suc, cond, Bool, List, [], ◌∷◌, ◌++◌}
use Rattle.oak_model.specs.Counts.{Has}
use Rattle.oak_core.specs.declared.states.Findings.{Findings}
use Rattle.oak_core.specs.declared.states.Gone.{Gone}
use Rattle.oak_core.specs.declared.states.Sight.{Sight}
use Rattle.oak_core.specs.declared.states.Taught.{Taught}
use Rattle.oak_core.specs.declared.states.Taught.TheVariants.{OfKey, OfGap}
use Rattle.oak_core.specs.Learning.{reach_of}

-- the sights after a step of the call that taught x, where it taught it; its finding is the next that is met
abbrev pub sights_with : Bool → ℕ → Taught → Findings → List Sight
sights_with known call x fs = cond known (fs.sights ++ record { call = call; taught = x } ∷ []) fs.sights

-- the lives over, after a step of the call that found one so
abbrev pub gones_with : Bool → ℕ → List ℕ → ℕ → Findings → List Gone
gones_with over call key home fs = cond over (fs.gones ++ record { call = call; home = home; key = key } ∷ []) fs.gones

-- The number was found for the key by one of the sights: it goes for the key to just that number.
pub record IsSighted (k at : ℕ) (sights : List Sight) : Type 0 where
  pub sight : Sight
  pub there : Has sight sights
  pub just : reach_of sight.taught k ≡ suc at

-- whether the sight is that of a link that stepped over the key, which had no entry
abbrev pub IsBare : Taught → Type 0
IsBare (OfKey n) = ⊥
IsBare (OfGap g) = Unit {0}

-- and found without an entry: the number is the base of a room that was pinned
pub record IsSightedBare (k at : ℕ) (sights : List Sight) : Type 0 where
  pub sight : Sight
  pub there : Has sight sights
  pub just : reach_of sight.taught k ≡ suc at
  pub bare : IsBare sight.taught

-- the number was found for the key in what was noted from the first findings to the second
abbrev pub SightedSince : ℕ → ℕ → Findings → Findings → Type 0
SightedSince k at fs gs = (more : List Sight) × (gs.sights ≡ fs.sights ++ more) × IsSighted k at more

-- the life of the key was found to be over by one of those noted
pub record IsFoundOver (home : ℕ) (key : List ℕ) (gones : List Gone) : Type 0 where
  pub gone : Gone
  pub there : Has gone gones
  pub home_is : gone.home ≡ home
  pub key_is : gone.key ≡ key

-- it was found so in what was noted from the first findings to the second
abbrev pub FoundOverSince : ℕ → List ℕ → Findings → Findings → Type 0
FoundOverSince home key fs gs = (more : List Gone) × (gs.gones ≡ fs.gones ++ more) × IsFoundOver home key more
