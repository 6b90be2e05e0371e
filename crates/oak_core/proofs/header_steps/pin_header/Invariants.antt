use Rattle.std.proofs.Common.{ℕ}
use Rattle.oak_core.specs.HeaderCalls.{NamesPin, Pins}
use Rattle.oak_core.specs.Passes.{state, key, call_of}
use Rattle.oak_core.proofs.header_steps.pin_header.Given as goal

abbrev pub ghosts-add_wanted : goal.ghosts-add_wanted
ghosts-add_wanted a = record { told = λ n w. (h : ℕ) → NamesPin (key a.table.now) h a.word → Pins (key a.table.now) (call_of a.pass.now) h a.wanted (state a.pass.now) n w }
