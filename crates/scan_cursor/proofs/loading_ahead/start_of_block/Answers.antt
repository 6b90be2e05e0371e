use Rattle.std.specs.Prelude.{ℕ, Option, Some, None, IfSome}
use Rattle.std.proofs.Common.{sym, subst}
use Rattle.std.specs.Option.{unwrap_or}
use Rattle.oak_model.specs.Limits.{Sizes}
use Rattle.oak_core.specs.Passes.{key as sizes}
use Rattle.scan_cursor.specs.LoadingAhead.{IsPlainWord}
use Rattle.scan_cursor.proofs.WordsAhead.{word_0}
use Rattle.scan_cursor.proofs.loading_ahead.start_of_block.Goals as goal

word_or_0 : (z : Sizes) (o : Option ℕ) → IfSome o (IsPlainWord z) → IsPlainWord z (unwrap_or o 0)
word_or_0 z None w = word_0 z
word_or_0 z (Some n) w = w

pub returns-clause-word : goal.returns-clause-word
returns-clause-word c = let z = sizes c.args.table.now in subst (IsPlainWord z) (sym c.unwrap_or.ensures) (word_or_0 z c.start_among-2.result c.start_among-2.ensures)
