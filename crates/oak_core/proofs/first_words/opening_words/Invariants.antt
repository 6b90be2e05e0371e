use Rattle.oak_core.proofs.openings.OpeningWords.{IsLaid}
use Rattle.oak_core.proofs.first_words.opening_words.Given as goal

abbrev pub invariant-loop-header : goal.invariant-loop-header
invariant-loop-header l = IsLaid l.fn.shape l.fn.generation l.header l.words.items
