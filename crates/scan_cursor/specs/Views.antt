-- A pass in its call, and what a read of a key says.
use Rattle.std.specs.Prelude.{◌≡◌, ℕ, ◌<◌, ◌≤◌, true, List, Some, None}
use Rattle.oak_model.specs.Key.{is_key}
use Rattle.oak_model.specs.KeyNumber.{key_number}
use Rattle.oak_model.specs.Limits.{Sizes}
use Rattle.oak_model.specs.State.{State}
use Rattle.oak_core.specs.declared.states.PassState.{PassState}
use Rattle.oak_core.specs.CallSteps.{Learns}
use Rattle.oak_core.specs.KeyReads.{home_of}
use Rattle.oak_core.specs.KnownPlaces.{ReadAt}
use Rattle.oak_core.specs.LastReads.{NotPast}
use Rattle.oak_core.specs.LifeKeys.{key_in_loaded, loaded_in}
use Rattle.oak_core.specs.QuietSteps.{Quiet}
use Rattle.oak_core.specs.Sights.{SightedSince}

-- the table's sizes, the call, and the state of the pass
pub record View : Type 0 where
  pub sizes : Sizes
  pub call : ℕ
  pub state : PassState

abbrev pub view_of : Sizes → ℕ → PassState → View
view_of z call v = record { sizes = z; call = call; state = v }

-- The later one is of the same call, in which the pass met more, by loads, pins and their undoing alone, may have learned, and wrote nothing.
pub record Later (a b : View) : Type 0 where
  pub sizes : b.sizes ≡ a.sizes
  pub call : b.call ≡ a.call
  pub learns : Learns a.call a.state b.state
  pub quiet : Quiet a.state b.state

-- Between the two the key was read: at the place of a number that was found for it between them it has this state. The place is not before what was seen at the first, and no later write will come at or below the number.
pub record ReadsKey (a b : View) (k : List ℕ) (at : ℕ) (s : State) : Type 0 where
  pub read : ReadAt (key_number k) at s a.state b.state
  pub sighted : SightedSince (key_number k) at a.state.findings b.state.findings

-- each key between the two numbers, the second left out, was read absent at the place of its number
abbrev pub Absents : View → View → ℕ → ℕ → (List ℕ → ℕ) → Type 0
Absents a b from past ats = (q : List ℕ) → is_key q ≡ true → from ≤ key_number q → key_number q < past → ReadsKey a b q (ats q) None

-- the call loaded the life of the header at the generation from an entry of the key, and what the pass has seen of the key does not go past that
pub record KnowsLast (k : List ℕ) (h g : ℕ) (v : View) : Type 0 where
  pub inside : h < v.sizes.headers
  pub loaded : key_in_loaded h g v.state.knowledge.loaded ≡ Some k
  pub named : loaded_in v.call h g v.state.knowledge.loaded ≡ true
  pub last : NotPast (key_number k) (home_of h g) v.state.knowledge

-- so it was of some key at an earlier moment of the call
pub record IsKnown (h g : ℕ) (v : View) : Type 0 where
  pub key : List ℕ
  pub moment : View
  pub knows : KnowsLast key h g moment
  pub since : Later moment v
