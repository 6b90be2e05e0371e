use Rattle.std.proofs.Common.{◌∙◌}
use Rattle.std.specs.Ordering.{nat_cmp, ordering_then}
use Rattle.oak_model.specs.Key.{key_cmp}
use Rattle.chunk_ops.proofs.StoredLaws.{words_then_lengths}
use Rattle.chunk_ops.proofs.stored.StoredKey.order.Goals as goal

pub returns : goal.returns
returns c = λ a b p q. c.cmp.ensures ∙ ((λ k. ordering_then (key_cmp (p.words k) (q.words k)) (nat_cmp (p.long k) (q.long k))) ∙ words_then_lengths a b p.bytes q.bytes p.few)
