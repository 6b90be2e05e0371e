-- What the findings of passes show of a run.
use Rattle.std.specs.Prelude.{◌≡◌, ℕ, ◌≤◌, suc, Bool, true, List, Option, take, ⊤}
use Rattle.oak_model.specs.declared.replies.Lack.{Lack}
use Rattle.oak_model.specs.declared.replies.Lack.TheVariants.{Block, Header, Room}
use Rattle.oak_model.specs.declared.shapes.Usage.{Usage}
use Rattle.oak_model.specs.Counts.{Begins, Has}
use Rattle.oak_model.specs.KeyNumber.{key_number}
use Rattle.oak_model.specs.Limits.{Sizes}
use Rattle.oak_core.specs.declared.states.Finding.{Finding}
use Rattle.oak_core.specs.declared.states.Findings.{Findings}
use Rattle.oak_core.specs.declared.states.Gone.{Gone}
use Rattle.oak_core.specs.declared.states.KeyedWrite.{KeyedWrite}
use Rattle.oak_core.specs.declared.states.Sight.{Sight}
use Rattle.oak_core.specs.KeyHistories.{home_behind}
use Rattle.oak_core.specs.Lack.{Lacks}
use Rattle.oak_core.specs.Learning.{reach_of}
use Rattle.oak_core.specs.RoomLacks.{RoomLackFound}
use Rattle.oak_core.specs.Sights.{IsBare}
use Rattle.oak_run.specs.Behind.{histories}
use Rattle.oak_run.specs.Closing.{Closing}

-- a sight of the call goes for the key to just the number, and the key had no entry where that is said
pub record SightedIn (call k at : ℕ) (bare : Bool) (sights : List Sight) : Type 0 where
  pub sight : Sight
  pub there : Has sight sights
  pub call_is : sight.call ≡ call
  pub just : reach_of sight.taught k ≡ suc at
  pub bare_is : bare ≡ true → IsBare sight.taught

-- the call found the life of the key to be over
pub record OverIn (call : ℕ) (key : List ℕ) (home : ℕ) (gones : List Gone) : Type 0 where
  pub gone : Gone
  pub there : Has gone gones
  pub call_is : gone.call ≡ call
  pub key_is : gone.key ≡ key
  pub home_is : gone.home ≡ home

-- a room that is lacking is the key's own: the one that covers the key was held full, and each other was found not free
abbrev pub KeysRoom : Lack → Sizes → (began ended : ℕ) → List Finding → ℕ → Type 0
KeysRoom (Block c) z began ended met k = ⊤
KeysRoom Header z began ended met k = ⊤
KeysRoom Room z began ended met k = (from : ℕ) × (began ≤ from) × RoomLackFound z from ended met k

-- Findings of the call, from the place `began` on and before `ended`, show nothing free of what it lacked for the key, but for the spare block.
pub record LackedIn (z : Sizes) (call : ℕ) (lack : Lack) (k : ℕ) (spare : Option ℕ) (fs : Findings) : Type 0 where
  pub began : ℕ
  pub ended : ℕ
  pub lacks : Lacks z call lack spare began ended fs
  pub its_room : KeysRoom lack z began ended fs.met k

-- the life that the key has at the place
abbrev pub home_at : ℕ → List KeyedWrite → ℕ
home_at r h = home_behind (take r h)

-- what passes found, by their numbers, beside these histories and ends
abbrev pub closing_by : (ℕ → Findings) → (ℕ → List KeyedWrite) → Usage → Sizes → ℕ → ℕ → Closing
closing_by by hs used z retired open_rooms = record {
  history = histories hs;
  Refused = λ thread n lack. Has (record { call = n; lack = lack }) (by thread).fulls;
  Lacked = λ thread n lack q spare. LackedIn z n lack (key_number q) spare (by thread);
  Found = λ thread n q at bare. SightedIn n (key_number q) at bare (by thread).sights;
  FoundGone = λ thread n q r. OverIn n q (home_at r (hs (key_number q))) (by thread).gones;
  usage = used;
  sizes = z;
  retired = retired;
  open_rooms = open_rooms;
}

-- the later findings go on from the earlier ones
pub record FindsMore (f g : Findings) : Type 0 where
  pub met : Begins f.met g.met
  pub sights : Begins f.sights g.sights
  pub gones : Begins f.gones g.gones
  pub fulls : Begins f.fulls g.fulls
  pub swept : Begins f.swept g.swept
