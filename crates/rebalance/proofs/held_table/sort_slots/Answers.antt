use Rattle.std.specs.Ordering.{nat_cmp, ordering_then}
use Rattle.oak_model.specs.Key.{key_cmp}
use Rattle.rebalance.proofs.Sorting.{distinct_sorted, sorted_rises, then_then}
use Rattle.rebalance.proofs.held_table.sort_slots.Goals as goal

pub returns-clause-rise : goal.returns-clause-rise
returns-clause-rise c = let ys = c.sort_unstable.new.self in sorted_rises _ (λ a b. ordering_then (nat_cmp a.key b.key) (nat_cmp a.value b.value)) (λ a b. then_then (key_cmp a.words b.words) (nat_cmp a.length b.length) (ordering_then (nat_cmp a.key b.key) (nat_cmp a.value b.value))) ys (distinct_sorted c.args.slots.now ys c.sort_unstable.ensures.permutation c.requires) c.sort_unstable.ensures.sorted
