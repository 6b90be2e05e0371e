use Rattle.std.proofs.Common.{refl}
use Rattle.chunk_core.specs.LinkedEntries.{prefix_in}
use Rattle.chunk_core.proofs.count_word.prefix_in.Goals as goal

pub returns : goal.returns
unfolding prefix_in
returns c = refl
