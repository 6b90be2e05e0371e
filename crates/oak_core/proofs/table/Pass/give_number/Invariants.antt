use Rattle.std.proofs.Common.{◌≡◌, ℕ, ◌^◌}
use Rattle.oak_core.specs.Passes.{state, key, call_of}
use Rattle.oak_core.specs.Step.{Told, give_number}
use Rattle.oak_core.proofs.table.Pass.give_number.Given as goal

abbrev pub ghosts-or_said : goal.ghosts-or_said
ghosts-or_said a = record { told = λ n w. (k : ℕ) → a.bits ≡ 2 ^ k → Told (key a.table.now) (call_of a.pass.now) (give_number k) (state a.pass.now) n w }
