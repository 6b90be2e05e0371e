use Rattle.std.proofs.Common.{sym, subst, rules}
use Rattle.std.proofs.lemmas.List.Sorted.{IsPartitionPoint-from_clause}
use Rattle.oak_script.specs.Stamps.{AreInOrder, IsEndOf, is_not_behind}
use Rattle.oak_script.proofs.StampLemmas.{not_behind_come_first}
use Rattle.oak_script.proofs.places.Stamps.end.Goals as goal

pub returns : goal.returns
returns c =
    let k = c.args.key.now in
    let ws = c.as_slice-writes.result.now in
    let sorted : AreInOrder ws = subst AreInOrder (sym c.as_slice-writes.ensures.value) c.args.self.now.in_order in
    let found : IsEndOf k c.args.at ws c.partition_point.result = record {
      within = c.partition_point.ensures.bound;
      point = IsPartitionPoint-from_clause (is_not_behind k c.args.at) ws _ c.partition_point.ensures.partitioned (not_behind_come_first k c.args.at ws sorted) (λ a r q h. search rules);
    } in
    subst (λ l. IsEndOf k c.args.at l c.partition_point.result) c.as_slice-writes.ensures.value found
