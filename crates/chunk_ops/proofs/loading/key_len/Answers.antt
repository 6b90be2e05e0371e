use Rattle.std.proofs.Common.{◌∙◌}
use Rattle.chunk_ops.proofs.loading.key_len.Goals as goal

pub returns-clause-length : goal.returns-clause-length
returns-clause-length c = λ k h. let f = c.key_word.ensures.word k h in (c.length_in.ensures.is ∙ f.long, f.key)
