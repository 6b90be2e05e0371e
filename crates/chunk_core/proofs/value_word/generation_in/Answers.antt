use Rattle.std.proofs.Common.{refl}
use Rattle.chunk_core.specs.ValueWord.{generation_in}
use Rattle.chunk_core.proofs.value_word.generation_in.Goals as goal

pub returns : goal.returns
unfolding generation_in
returns c = refl
