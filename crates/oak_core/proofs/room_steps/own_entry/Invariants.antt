use Rattle.std.proofs.Common.{ℕ}
use Rattle.chunk_core.specs.RoomStep.{EntryField}
use Rattle.oak_core.specs.RoomCalls.{NamesEntryWord, OwnsEntry}
use Rattle.oak_core.specs.Passes.{state, key, call_of}
use Rattle.oak_core.proofs.room_steps.own_entry.Given as goal

abbrev pub ghosts-store_said : goal.ghosts-store_said
ghosts-store_said a = record { told = λ _ w. (f : EntryField) (r i : ℕ) → NamesEntryWord (key a.table.now) f r i a.word → OwnsEntry (key a.table.now) (call_of a.pass.now) f r i a.value (state a.pass.now) w }
