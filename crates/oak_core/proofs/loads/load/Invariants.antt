use Rattle.oak_core.specs.Passes.{state, key, call_of}
use Rattle.oak_core.specs.Splitting.{Loads}
use Rattle.oak_core.proofs.loads.load.Given as goal

abbrev pub ghosts-load_said : goal.ghosts-load_said
ghosts-load_said a = record { told = λ n w. Loads (key a.table.now) (call_of a.pass.now) a.word (state a.pass.now) n w }
