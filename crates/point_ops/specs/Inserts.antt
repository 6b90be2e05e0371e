-- What the parts of an insertion leave, and why they are given up. v is the state of the pass at the part's begin, w the one at its end.
use Rattle.std.specs.Prelude.{◌≡◌, ℕ, ◌<◌, ◌⊎◌, List, length, Option, Some, None}
use Rattle.oak_model.specs.declared.classes.Class.{Class}
use Rattle.oak_model.specs.declared.replies.Lack.TheVariants.{Block}
use Rattle.oak_model.specs.Class.{class_of}
use Rattle.oak_model.specs.Limits.{Sizes}
use Rattle.arena_core.specs.HeldBlocks.{no_blocks}
use Rattle.oak_core.specs.declared.states.Finding.{Finding}
use Rattle.oak_core.specs.declared.states.PassState.{PassState}
use Rattle.oak_core.specs.CallSteps.{Stands}
use Rattle.oak_core.specs.HeldRows.{HasFresh}
use Rattle.oak_core.specs.Lack.{TookBut}
use Rattle.oak_core.specs.Memory.{rooms_at}
use Rattle.oak_core.specs.QuietSteps.{MetOnly, Quiet}
use Rattle.chunk_ops.specs.declared.entries.AddHalt.{AddHalt}
use Rattle.chunk_ops.specs.declared.entries.AddHalt.TheVariants as adds
use Rattle.chunk_ops.specs.declared.entries.EntryNo.{EntryNo}
use Rattle.arena_ops.specs.Storing.{HasBytes}
use Rattle.arena_ops.specs.Taking.{TookThis}
use Rattle.chunk_ops.specs.Setting.{FoundSet}
use Rattle.value_ops.specs.OneHeader.{IsOneHeader, IsOneBlock}
use Rattle.point_ops.specs.Halting.{AllTaken, NoneFree, SetWith, RoomCrowded, RoomChanged}
use Rattle.point_ops.specs.declared.halts.Halt.{Halt}
use Rattle.point_ops.specs.declared.halts.Halt.TheVariants.{Busy, Moved, Crowded, NoBlock, NoHeader}

-- the step's word lies in front of those of the rooms, and of blocks it took none but this
abbrev pub TakesOnly : Sizes → Class → ℕ → Finding → Type 0
TakesOnly z c b f = (f.word < rooms_at z) × TookThis c b f

-- the pass learned nothing, and holds one block more, which has the bytes; it took no other
pub record MakesBlock (z : Sizes) (call : ℕ) (c : Class) (b : ℕ) (bytes : List ℕ) (v w : PassState) : Type 0 where
  pub stands : Stands call v w
  pub headers : w.headers ≡ v.headers
  pub rooms : w.rooms ≡ v.rooms
  pub one : IsOneBlock c b w.blocks
  pub has : HasBytes z c b bytes w
  pub own : MetOnly (TakesOnly z c b) v w

-- the pass learned nothing, and has one header more, fresh, with the stamp and the value
pub record MakesFresh (z : Sizes) (call h g stamp : ℕ) (bytes : List ℕ) (v w : PassState) : Type 0 where
  pub stands : Stands call v w
  pub blocks : w.blocks ≡ no_blocks
  pub rooms : w.rooms ≡ v.rooms
  pub one : IsOneHeader h w.headers
  pub fresh : HasFresh z h g stamp bytes w

-- the pass learned nothing, and holds what it held
pub record GivesAllBack (call : ℕ) (v w : PassState) : Type 0 where
  pub stands : Stands call v w
  pub blocks : w.blocks ≡ v.blocks
  pub headers : w.headers ≡ v.headers
  pub rooms : w.rooms ≡ v.rooms

-- why a value of the class was not made
abbrev pub MakingHalts : Halt → Sizes → ℕ → Class → PassState → PassState → Type 0
MakingHalts Busy z call c v w = ⊥
MakingHalts Moved z call c v w = ⊥
MakingHalts Crowded z call c v w = ⊥
MakingHalts (NoBlock b) z call c v w = (b ≡ c) × AllTaken z call c None v w × Quiet v w
MakingHalts NoHeader z call c v w = NoneFree z call v w

-- why the key was given no entry
abbrev pub AddingHalts : Halt → Sizes → ℕ → List ℕ → PassState → PassState → Type 0
AddingHalts Busy z call key v w = RoomChanged z call key v w
AddingHalts Moved z call key v w = ⊥
AddingHalts Crowded z call key v w = RoomCrowded z call key v w
AddingHalts (NoBlock c) z call key v w = (class_of (length key) ≡ Some c) × SetWith z call c v v w × Quiet v w
AddingHalts NoHeader z call key v w = ⊥

-- there is a spare block, that of the value, only where the key has its class and no entry
abbrev pub SpareFor : Option ℕ → Class → (key value : List ℕ) → Option EntryNo → Type 0
SpareFor None c key value entry = Unit {0}
SpareFor (Some b) c key value entry = (class_of (length value) ≡ Some c) × (class_of (length key) ≡ Some c) × (entry ≡ None)

-- why a value was not inserted for a key that was read absent at the floor; entry says whether it has one
abbrev pub InsertHalts : Halt → Sizes → ℕ → (key value : List ℕ) → Option EntryNo → ℕ → PassState → PassState → Type 0
InsertHalts Busy z call key value entry floor v w = RoomChanged z call key v w ⊎ ((r : ℕ) × (i : ℕ) × FoundSet z call r i floor key v w)
InsertHalts Moved z call key value entry floor v w = ⊥
InsertHalts Crowded z call key value entry floor v w = (entry ≡ None) × RoomCrowded z call key v w
InsertHalts (NoBlock c) z call key value entry floor v w = (spare : Option ℕ) × AllTaken z call c spare v w × SpareFor spare c key value entry × ((class_of (length value) ≡ Some c) ⊎ ((class_of (length key) ≡ Some c) × (entry ≡ None))) × MetOnly (TookBut (Block c) spare) v w
InsertHalts NoHeader z call key value entry floor v w = NoneFree z call v w

-- why a call is given up for which no entry was added
abbrev pub halt_of : AddHalt → Halt
halt_of adds.Crowded = Crowded
halt_of adds.Busy = Busy
