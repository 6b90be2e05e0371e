use Rattle.std.proofs.Common.{ℕ}
use Rattle.oak_core.specs.HeaderCalls.{NamesPin, Unpins}
use Rattle.oak_core.specs.Passes.{state, key, call_of}
use Rattle.oak_core.proofs.header_steps.unpin_header.Given as goal

abbrev pub ghosts-sub_said : goal.ghosts-sub_said
ghosts-sub_said a = record { told = λ n w. (h : ℕ) → NamesPin (key a.table.now) h a.word → Unpins (key a.table.now) (call_of a.pass.now) h (state a.pass.now) n w }
