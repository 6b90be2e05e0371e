-- Which ranges a pass swept: those that it opened with a value in each entry.
use Rattle.std.specs.Prelude.{ℕ, ◌-◌, ◌==◌, cond, List, [], ◌∷◌, ◌++◌, length, Option, Some, None}
use Rattle.oak_model.specs.Counts.{total}
use Rattle.chunk_core.specs.declared.holds.EntryWords.{EntryWords}
use Rattle.chunk_core.specs.declared.holds.RoomCopy.{RoomCopy}
use Rattle.chunk_core.specs.KeyWords.{low_bytes, high_bytes}
use Rattle.chunk_core.specs.RoomCopies.{copy_of, entries_held}
use Rattle.chunk_core.specs.RoomStep.{RoomStep, open_room}
use Rattle.chunk_core.specs.ValueWord.{names_header}
use Rattle.oak_core.specs.declared.states.PassState.{PassState}
use Rattle.oak_core.specs.declared.states.Swept.{Swept}

-- how many linked entries of a held room have no value
abbrev pub valueless : RoomCopy → ℕ
valueless w = total (λ (e : EntryWords). 1 - names_header e.value) (entries_held w)

-- the range of the room, with how many findings were met before, where each of its linked entries has a value
abbrev pub sweep : Option RoomCopy → ℕ → List Swept
sweep None met = []
sweep (Some w) met = cond (valueless w == 0) (record { low = low_bytes w.low; high = high_bytes w.high; met = met } ∷ []) []

-- the ranges that the pass has swept after a step
abbrev pub swept_by : RoomStep → PassState → List Swept
swept_by (open_room r) v = v.findings.swept ++ sweep (copy_of r v.rooms.held) (length v.findings.met)
swept_by _ v = v.findings.swept
