-- Words that come to stand one behind the other in those of the table, and bytes that come to stand in a block so.
use Rattle.std.specs.Prelude.{◌≡◌, ℕ, suc, List, [], ◌∷◌, slice_set}
use Rattle.oak_model.specs.declared.classes.Class.{Class}
use Rattle.oak_model.specs.Class.{class_number}
use Rattle.oak_model.specs.Limits.{Sizes}
use Rattle.arena_core.specs.Arena.{at_bytes}
use Rattle.arena_core.specs.Words.{words_of}
use Rattle.oak_core.specs.Memory.{in_arena, index}

-- the words, with these from number i on
abbrev pub put_from : ℕ → List ℕ → List ℕ → List ℕ
put_from i [] words = words
put_from i (x ∷ xs) words = put_from (suc i) xs (slice_set words i x)

-- one word becomes this
abbrev pub PutsWord : ℕ → ℕ → List ℕ → List ℕ → Type 0
PutsWord i x before after = after ≡ slice_set before i x

-- the words from one on become those in which these bytes stand
abbrev pub PutsBytes : ℕ → List ℕ → List ℕ → List ℕ → Type 0
PutsBytes first bytes before after = after ≡ put_from first (words_of bytes) before

-- the first words of the block become those of the bytes; no other word changed
abbrev pub PutsBytesIn : Sizes → Class → ℕ → List ℕ → List ℕ → List ℕ → Type 0
PutsBytesIn z c b = PutsBytes (index z (in_arena (at_bytes (class_number c) b 0)))
