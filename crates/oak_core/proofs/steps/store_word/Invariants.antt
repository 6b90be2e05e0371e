use Rattle.std.proofs.Common.{ℕ}
use Rattle.oak_model.specs.declared.classes.Class.{Class}
use Rattle.oak_core.specs.ArenaCalls.{NamesWord, BlockOwner, MayStoreTo, Writes}
use Rattle.oak_core.specs.Passes.{state, key, call_of}
use Rattle.oak_core.proofs.steps.store_word.Given as goal

abbrev pub ghosts-store_said : goal.ghosts-store_said
ghosts-store_said a = record { told = λ _ w. (o : BlockOwner) (c : Class) (b k : ℕ) → NamesWord (key a.table.now) c b k a.word → MayStoreTo (key a.table.now) o c b (state a.pass.now) → Writes (key a.table.now) (call_of a.pass.now) o c b k a.value (state a.pass.now) w }
