use Rattle.std.proofs.Common.{ℕ}
use Rattle.header_core.specs.declared.holds.HeldAs.{HeldAs}
use Rattle.oak_core.specs.HeaderCalls.{NamesRelease, Releases}
use Rattle.oak_core.specs.Passes.{state, key, call_of}
use Rattle.oak_core.proofs.header_steps.release_header.Given as goal

abbrev pub ghosts-sub_said : goal.ghosts-sub_said
ghosts-sub_said a = record { told = λ n w. (h : ℕ) (s : HeldAs) → NamesRelease (key a.table.now) h s a.word a.amount → Releases (key a.table.now) (call_of a.pass.now) h s (state a.pass.now) n w }
