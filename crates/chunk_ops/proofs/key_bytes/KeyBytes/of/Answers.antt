use Rattle.std.proofs.Common.{ℕ, ◌≤◌, take, sym, ◌∙◌, subst}
use Rattle.oak_model.specs.declared.limits.TheConstants.{GREATEST_KEY}
use Rattle.oak_model.specs.WordBytes.{bytes_of}
use Rattle.chunk_ops.proofs.KeyCopies.{stored_bytes}
use Rattle.chunk_ops.proofs.key_bytes.KeyBytes.of.Goals as goal

pub from_words-requires : goal.from_words-requires
from_words-requires c = subst (λ (n : ℕ). n ≤ GREATEST_KEY) (λ j. (sym c.parts-len.ensures j).0) c.requires

pub returns : goal.returns
returns c = λ b s. c.from_words.ensures ∙ ((λ j. take (c.parts-len.ensures j).0 (bytes_of (c.parts-len.ensures j).1)) ∙ stored_bytes c.args.key.now b s)
