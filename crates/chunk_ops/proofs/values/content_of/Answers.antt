use Rattle.std.proofs.Common.{ℕ, sym, subst, arith}
use Rattle.chunk_ops.specs.declared.entries.Content.TheVariants.{Value}
use Rattle.chunk_ops.specs.Contents.{Says}
use Rattle.chunk_ops.proofs.ContentLoads.{says_floor, says_value}
use Rattle.chunk_ops.proofs.values.content_of.Goals as goal

pub returns-then-word-lt-NAMES : goal.returns-then-word-lt-NAMES
returns-then-word-lt-NAMES c = says_floor c.args.word c.if-word-lt-NAMES.true

pub returns : goal.returns
returns c = subst (λ (p : ℕ × ℕ). Says (Value p.0 p.1) c.args.word) (λ j. (sym c.header_in.ensures j, sym c.generation_in.ensures j)) (says_value c.args.word (omega arith) c.if-word-lt-NAMES.false)
