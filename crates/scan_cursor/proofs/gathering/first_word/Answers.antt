use Rattle.std.proofs.Common.{◌≡◌, ◌∙◌, ℕ, List, get_or, refl}
use Rattle.arena_core.specs.Words.{word_at}
use Rattle.chunk_ops.specs.Stored.{key_words}
use Rattle.oak_model.specs.Counts.{rows}
use Rattle.scan_cursor.proofs.gathering.first_word.Goals as goal

first_of : (q : List ℕ) → get_or (key_words q) 0 0 ≡ word_at q 0
unfolding rows
first_of q = refl

pub returns : goal.returns
returns c = λ k s. (λ j. get_or ((c.parts.ensures j).1) 0 0) ∙ ((λ j. get_or (s.words j) 0 0) ∙ first_of k)
