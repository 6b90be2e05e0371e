use Rattle.std.proofs.Common.{ℕ}
use Rattle.chunk_core.specs.RoomStep.{of_value}
use Rattle.oak_core.specs.RoomCalls.{NamesEntryWord, SetsValueWord}
use Rattle.oak_core.specs.Passes.{state, key, call_of}
use Rattle.oak_core.proofs.room_steps.set_value.Given as goal

abbrev pub ghosts-exchange_of_kind : goal.ghosts-exchange_of_kind
ghosts-exchange_of_kind a = record { told = λ n w. (r i : ℕ) → NamesEntryWord (key a.table.now) of_value r i a.word → SetsValueWord (key a.table.now) (call_of a.pass.now) r i a.old a.new a.kind (state a.pass.now) n w }
