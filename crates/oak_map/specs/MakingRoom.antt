-- Which way a call that puts went, after a try without an answer.
use Rattle.std.specs.Prelude.{◌≡◌, ℕ, ◌⊎◌, Bool, true, false, List, Option, Some, None}
use Rattle.oak_model.specs.declared.replies.Lack.{Lack}
use Rattle.oak_model.specs.declared.replies.Lack.TheVariants.{Block, Header, Room}
use Rattle.oak_model.specs.Limits.{Sizes}
use Rattle.oak_core.specs.declared.states.PassState.{PassState}
use Rattle.oak_core.specs.Noting.{Notes}
use Rattle.chunk_ops.specs.PinRecords.{OnlyMeets}
use Rattle.point_ops.specs.declared.halts.Halt.{Halt}
use Rattle.point_ops.specs.declared.halts.Halt.TheVariants.{Busy, Moved, Crowded, NoBlock, NoHeader}
use Rattle.rebalance.specs.Busy.{GivesUpRewriting}
use Rattle.rebalance.specs.Calls.{FindsNoRoom, Halves, Loosens, Settles}
use Rattle.oak_map.specs.declared.going_on.Way.{Way}
use Rattle.oak_map.specs.declared.going_on.Way.TheVariants.{Halted, Loosened, Opened, Lacks}

-- ---- what is to be done

-- the call lacks this, by why its try was refused; a room, where it found none for a half of its chunk
abbrev pub IsLacking : Lack → Halt → Sizes → ℕ → List ℕ → PassState → PassState → Type 0
IsLacking (Block c) halt z call key v w = (halt ≡ NoBlock c) × (w ≡ v)
IsLacking Header halt z call key v w = (halt ≡ NoHeader) × (w ≡ v)
IsLacking Room halt z call key v w = (halt ≡ Crowded) × FindsNoRoom z call key v w

-- what was done so far for another try
abbrev pub FindsWay : Way → Halt → Sizes → ℕ → List ℕ → PassState → PassState → Type 0
FindsWay Halted halt z call key v w = ((halt ≡ Busy) ⊎ (halt ≡ Moved)) × (w ≡ v)
FindsWay Loosened halt z call key v w = (halt ≡ Crowded) × Loosens z call key v w
FindsWay (Opened room) halt z call key v w = (halt ≡ Crowded) × Halves z call key room v w
FindsWay (Lacks lack) halt z call key v w = IsLacking lack halt z call key v w

-- another pass had the chunk that was to be split
abbrev pub FindsBusy : Halt → Sizes → (call looks : ℕ) → List ℕ → PassState → PassState → Type 0
FindsBusy halt z call looks key v w = (halt ≡ Crowded) × GivesUpRewriting z call looks key v w

-- ---- what was done

-- it tries again, and has settled if it had
pub record TriesAgain (settled then : Bool) (result : Option Lack) : Type 0 where
  pub none : result ≡ None
  pub same : then ≡ settled

-- it lacks something: once it has settled it was noted with that, and before it settled
pub record IsRefused (z : Sizes) (call : ℕ) (settled then : Bool) (lack : Lack) (result : Option Lack) (v w : PassState) : Type 0 where
  pub full : settled ≡ true → (result ≡ Some lack) × Notes z call lack v w
  pub again : settled ≡ false → (result ≡ None) × (then ≡ true) × Settles z call v w

-- it made room in the chunk of the key; where it opened its range as two, it only met more behind that, by loads, pins and their undoing alone, while the index was told
abbrev pub MakesRoom : Sizes → ℕ → List ℕ → PassState → PassState → Type 0
MakesRoom z call key v w = Loosens z call key v w ⊎ ((room : ℕ) × (x : PassState) × Halves z call key room v x × OnlyMeets call x w)

-- it made room, or tries again since another pass had the chunk, or it found no room and lacks that
abbrev pub SplitsChunk : Sizes → ℕ → List ℕ → (settled then : Bool) → Option Lack → PassState → PassState → Type 0
SplitsChunk z call key settled then result v w =
    (TriesAgain settled then result × (((looks : ℕ) × GivesUpRewriting z call looks key v w) ⊎ MakesRoom z call key v w))
    ⊎ ((x : PassState) × FindsNoRoom z call key v x × IsRefused z call settled then Room result x w)

-- by why it was refused
abbrev pub MakesWay : Halt → Sizes → ℕ → List ℕ → (settled then : Bool) → Option Lack → PassState → PassState → Type 0
MakesWay Busy z call key settled then result v w = TriesAgain settled then result × (w ≡ v)
MakesWay Moved z call key settled then result v w = TriesAgain settled then result × (w ≡ v)
MakesWay Crowded z call key settled then result v w = SplitsChunk z call key settled then result v w
MakesWay (NoBlock c) z call key settled then result v w = IsRefused z call settled then (Block c) result v w
MakesWay NoHeader z call key settled then result v w = IsRefused z call settled then Header result v w
