use Rattle.oak_core.proofs.memory.WordNumbers.{word_numbers}
use Rattle.oak_core.proofs.layout.words_in_numbers.Goals as goal

pub returns : goal.returns
returns c = record { words = word_numbers }
