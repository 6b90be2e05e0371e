use Rattle.oak_core.specs.Noting.{Notes}
use Rattle.oak_core.specs.Passes.{state, key, call_of}
use Rattle.oak_core.proofs.table.Pass.note_full.Given as goal

abbrev pub ghosts-note_said : goal.ghosts-note_said
ghosts-note_said a = record { told = λ n w. Notes (key a.table.now) (call_of a.pass.now) a._lack (state a.pass.now) w }
