use Rattle.std.proofs.Common.{ℕ}
use Rattle.chunk_core.specs.RoomStep.{of_value}
use Rattle.oak_core.specs.RoomCalls.{NamesEntryWord, UnlinksEntryWord}
use Rattle.oak_core.specs.Passes.{state, key, call_of}
use Rattle.oak_core.proofs.room_steps.unlink.Given as goal

abbrev pub ghosts-store_said : goal.ghosts-store_said
ghosts-store_said a = record { told = λ _ w. (r i : ℕ) → NamesEntryWord (key a.table.now) of_value r i a.word → UnlinksEntryWord (key a.table.now) (call_of a.pass.now) r i a.value (state a.pass.now) w }
