use Rattle.std.proofs.Common.{ℕ}
use Rattle.oak_model.specs.declared.classes.Class.{Class}
use Rattle.oak_core.specs.ArenaCalls.{NamesBit, Sets}
use Rattle.oak_core.specs.Passes.{state, key, call_of}
use Rattle.oak_core.proofs.steps.take_bit.Given as goal

abbrev pub ghosts-or_said : goal.ghosts-or_said
ghosts-or_said a = record { told = λ n w. (c : Class) (b : ℕ) → NamesBit (key a.table.now) c b a.word a.bits → Sets (key a.table.now) (call_of a.pass.now) c b (state a.pass.now) n w }
