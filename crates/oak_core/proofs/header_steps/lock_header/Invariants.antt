use Rattle.std.proofs.Common.{ℕ}
use Rattle.oak_core.specs.HeaderCalls.{NamesLock, Locks}
use Rattle.oak_core.specs.Passes.{state, key, call_of}
use Rattle.oak_core.proofs.header_steps.lock_header.Given as goal

abbrev pub ghosts-exchange_said : goal.ghosts-exchange_said
ghosts-exchange_said a = record { told = λ n w. (h : ℕ) → NamesLock (key a.table.now) h a.word a.old a.new → Locks (key a.table.now) (call_of a.pass.now) h a.old (state a.pass.now) n w }
