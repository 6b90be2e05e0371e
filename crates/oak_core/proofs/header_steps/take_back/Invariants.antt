use Rattle.std.proofs.Common.{ℕ}
use Rattle.oak_core.specs.HeaderCalls.{NamesPin, TakesBack}
use Rattle.oak_core.specs.Passes.{state, key, call_of}
use Rattle.oak_core.proofs.header_steps.take_back.Given as goal

abbrev pub ghosts-add_said : goal.ghosts-add_said
ghosts-add_said a = record { told = λ n w. (h : ℕ) → NamesPin (key a.table.now) h a.word → TakesBack (key a.table.now) (call_of a.pass.now) h a.amount (state a.pass.now) n w }
