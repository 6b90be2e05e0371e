use Rattle.std.proofs.Common.{ℕ}
use Rattle.oak_model.specs.declared.classes.Class.{Class}
use Rattle.oak_core.specs.ArenaCalls.{NamesMask, Clears}
use Rattle.oak_core.specs.Passes.{state, key, call_of}
use Rattle.oak_core.proofs.steps.clear_bit.Given as goal

abbrev pub ghosts-and_said : goal.ghosts-and_said
ghosts-and_said a = record { told = λ n w. (c : Class) (b : ℕ) → NamesMask (key a.table.now) c b a.word a.bits → Clears (key a.table.now) (call_of a.pass.now) c b (state a.pass.now) n w }
