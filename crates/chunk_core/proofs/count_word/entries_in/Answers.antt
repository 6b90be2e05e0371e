use Rattle.std.proofs.Common.{refl}
use Rattle.chunk_core.specs.LinkedEntries.{entries_in}
use Rattle.chunk_core.proofs.count_word.entries_in.Goals as goal

pub returns : goal.returns
unfolding entries_in
returns c = refl
