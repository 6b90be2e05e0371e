-- What a look at a life finds that an entry named. v is the state of the pass before it, w the one behind it.
use Rattle.std.specs.Prelude.{◌≡◌, ℕ, true, List, None}
use Rattle.pin_word.specs.PinWord.{state_of}
use Rattle.oak_model.specs.KeyNumber.{key_number}
use Rattle.oak_model.specs.Limits.{Sizes}
use Rattle.header_core.specs.declared.states.TheConstants.{LIVE}
use Rattle.header_core.specs.Headers.{at_pin}
use Rattle.oak_core.specs.declared.states.PassState.{PassState}
use Rattle.oak_core.specs.AloneWords.{Runs}
use Rattle.oak_core.specs.CallSteps.{Learns}
use Rattle.oak_core.specs.KeyReads.{home_of}
use Rattle.oak_core.specs.LastReads.{NotPast, ReadsLast}
use Rattle.oak_core.specs.LifeKeys.{loaded_in}
use Rattle.oak_core.specs.Memory.{in_headers}
use Rattle.oak_core.specs.QuietSteps.{Quiet}
use Rattle.value_ops.specs.declared.pinning.BadPin.TheVariants.{Dead as DeadPin}
use Rattle.value_ops.specs.Pinning.{DropsPin, KnowsLife, KnowsMore, PinsDud, PinsLive}
use Rattle.value_ops.specs.PinnedValues.{ReadsLife}
use Rattle.point_ops.specs.FoundWords.{FoundWord}
use Rattle.point_ops.specs.Halting.{IsDeadAt, IsLockedOut}
use Rattle.point_ops.specs.declared.lives.Life.{Life}
use Rattle.point_ops.specs.declared.lives.Life.TheVariants.{Live, Dead}
use Rattle.point_ops.specs.declared.lives.Pinned.{Pinned}
use Rattle.point_ops.specs.declared.lives.Pinned.TheVariants as pinned
use Rattle.point_ops.specs.LoneLives.{RefusesLook}
use Rattle.chunk_ops.specs.PinRecords.{OnlyLearns}

-- The stamp was loaded under the good pin of the header, which was undone then, by loads, pins and their undoing alone. A key of which the pass knew the life was read there.
pub record ReadsUnder (z : Sizes) (call h g at : ℕ) (v w : PassState) : Type 0 where
  pub learns : Learns call v w
  pub quiet : Quiet v w
  pub knows : KnowsMore v.knowledge w.knowledge
  pub blocks : w.blocks ≡ v.blocks
  pub headers : w.headers ≡ record v.headers { pin = None }
  pub rooms : w.rooms ≡ v.rooms
  pub reads : (key : List ℕ) → KnowsLife h g key v.knowledge → (bytes : List ℕ) × ReadsLife h g key at bytes v w
  -- to a pass that is alone
  pub still : Runs (DropsPin z h) v w

-- The header was found live, with its stamp and its value; or dead, with the stamp of the removal. So a key of which the pass knew the life was read, present, or absent where the call had loaded the life from the key's entry.
abbrev pub LooksAt : Life → Sizes → (call h g : ℕ) → PassState → PassState → Type 0
LooksAt (Live at) z call h g v w = FoundWord z call (in_headers (at_pin h)) (λ n. state_of n ≡ LIVE) v w
    × ((key : List ℕ) → KnowsLife h g key v.knowledge → (bytes : List ℕ) × ReadsLife h g key at bytes v w)
LooksAt (Dead at) z call h g v w = FoundWord z call (in_headers (at_pin h)) (IsDeadAt g) v w
    × ((key : List ℕ) → KnowsLife h g key v.knowledge → NotPast (key_number key) (home_of h g) v.knowledge → loaded_in call h g v.knowledge.loaded ≡ true → ReadsLast (key_number key) at None v w)

-- The header was pinned, live at the generation; or it was found dead, with the stamp of the removal, and the pin undone.
abbrev pub PinsLife : Pinned → Sizes → (call h g : ℕ) → PassState → PassState → Type 0
PinsLife (pinned.Value p) z call h g v w = (p.header ≡ h) × (p.generation ≡ g) × PinsLive z call h g v w
PinsLife (pinned.Absent at) z call h g v w = PinsDud z call h g (DeadPin at) v w

-- The header was found locked, or of another generation, and the pin undone. The pass only met these steps. To a pass that is alone the header was not live at the generation.
pub record RefusesLife (z : Sizes) (call h g : ℕ) (v w : PassState) : Type 0 where
  pub only : OnlyLearns call v w
  pub knows : KnowsMore v.knowledge w.knowledge
  pub found : FoundWord z call (in_headers (at_pin h)) (IsLockedOut g) v w
  pub alone : Runs (RefusesLook z h g v) v w
