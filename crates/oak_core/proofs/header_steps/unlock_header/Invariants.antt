use Rattle.std.proofs.Common.{ℕ}
use Rattle.oak_core.specs.HeaderCalls.{NamesPin, Unlocks}
use Rattle.oak_core.specs.Passes.{state, key, call_of}
use Rattle.oak_core.proofs.header_steps.unlock_header.Given as goal

abbrev pub ghosts-sub_of_kind : goal.ghosts-sub_of_kind
ghosts-sub_of_kind a = record { told = λ n w. (h : ℕ) → NamesPin (key a.table.now) h a.word → Unlocks (key a.table.now) (call_of a.pass.now) h a.kind (state a.pass.now) n w }
