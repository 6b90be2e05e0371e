-- What the load of an entry's value word finds, and what it tells of the entry's key.
use Rattle.std.specs.Prelude.{◌≡◌, ℕ, ◌<◌, ◌^◌, ◌++◌, List, [], ◌∷◌, Some, None}
use Rattle.oak_model.specs.KeyNumber.{key_number}
use Rattle.oak_model.specs.Limits.{Sizes}
use Rattle.chunk_core.specs.Rooms.{at_value}
use Rattle.chunk_core.specs.ValueWord.{names_header, header_in, generation_in}
use Rattle.oak_core.specs.declared.states.PassState.{PassState}
use Rattle.oak_core.specs.CallSteps.{StepOfCall}
use Rattle.oak_core.specs.KeyReads.{home_of}
use Rattle.oak_core.specs.Known.{knows_life}
use Rattle.oak_core.specs.LastReads.{KnowsLifeOf, NotPast, ReadsLast}
use Rattle.oak_core.specs.LifeKeys.{key_known}
use Rattle.oak_core.specs.Memory.{in_rooms, memory}
use Rattle.oak_core.specs.Step.{load}
use Rattle.chunk_ops.specs.declared.entries.Content.{Content}
use Rattle.chunk_ops.specs.declared.entries.Content.TheVariants.{Value, Floor}

-- what a value word says
abbrev pub Says : Content → ℕ → Type 0
Says (Value h g) n = (names_header n ≡ 1) × (header_in n ≡ h) × (generation_in n ≡ g)
Says (Floor stamp) n = (names_header n ≡ 0) × (n ≡ stamp) × (stamp < 2 ^ 63)

-- a header is one of the table's, and the pass knows it at the generation
abbrev pub IsUsable : Content → Sizes → PassState → Type 0
IsUsable (Value h g) z w = (h < z.headers) × (0 < knows_life h g w.knowledge)
IsUsable (Floor stamp) z w = Unit {0}

-- the value word of the entry was loaded in the call, and says so
pub record FindsContent (z : Sizes) (call r i : ℕ) (c : Content) (v w : PassState) : Type 0 where
  pub step : StepOfCall z call (load (in_rooms (at_value r i))) v w
  pub says : Says c step.number
  pub usable : IsUsable c z w

-- The entry of the key was loaded in the call, and named the header at the generation: the load taught that life of the key.
pub record EntryNamed (z : Sizes) (call r i : ℕ) (key : List ℕ) (h g : ℕ) (v w : PassState) : Type 0 where
  pub step : StepOfCall z call (load (in_rooms (at_value r i))) v w
  pub home : step.number ≡ home_of h g
  pub taught : step.to.knowledge.loaded ≡ step.from.knowledge.loaded ++ record { call = call; key = key; home = home_of h g } ∷ []

-- so the pass knows that life of the key, and its key by it, and has not seen the key go past it
pub record FindsLife (z : Sizes) (call r i : ℕ) (key : List ℕ) (h g : ℕ) (v w : PassState) : Type 0 where
  pub named : EntryNamed z call r i key h g v w
  pub life : KnowsLifeOf call key (home_of h g) w.knowledge
  pub known : key_known h g w.knowledge ≡ Some key
  pub last : NotPast (key_number key) (home_of h g) w.knowledge

-- By a floor the key was read absent in the call, at the place of the floor, which was found for it there and at which all ends that was seen of the key; by a header the pass knows the life.
abbrev pub TellsOf : Content → Sizes → (call r i : ℕ) → List ℕ → PassState → PassState → Type 0
TellsOf (Value h g) z call r i key v w = FindsLife z call r i key h g v w
TellsOf (Floor stamp) z call r i key v w = ReadsLast (key_number key) stamp None v w

-- to a pass that is alone: the words stay, and the entry's value word says so in them
abbrev pub SaysIn : Content → Sizes → (r i : ℕ) → List ℕ → List ℕ → Type 0
SaysIn c z r i before after = (after ≡ before) × Says c ((memory z before).rooms.value r i)
