use Rattle.std.proofs.Common.{refl}
use Rattle.chunk_core.specs.ValueWord.{header_in}
use Rattle.chunk_core.proofs.value_word.header_in.Goals as goal

pub returns : goal.returns
unfolding header_in
returns c = refl
