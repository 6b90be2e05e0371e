use Rattle.std.proofs.Common.{◌≡◌, true, false, List, subst, sym, rules}
use Rattle.std.specs.List.Sorted.{IsPartitionPoint}
use Rattle.std.proofs.lemmas.List.Sorted.{IsPartitionPoint-from_clause}
use Rattle.chunk_index.specs.Lows.{Low, IsRising, comes}
use Rattle.chunk_index.proofs.LowLaws.{comes_first}
use Rattle.chunk_index.proofs.lows.Lows.count.Goals as goal

pub returns-clause-point : goal.returns-clause-point
returns-clause-point c =
    let key = c.args.key.now in
    let ps = c.deref.result.now in
    let is : ps ≡ c.self.inside.lows.items = search rules in
    let up : IsRising ps = subst (λ (l : List Low). IsRising l) (sym is) c.self.invariant.0 in
    let found = IsPartitionPoint-from_clause (comes c.args.equal key) ps c.partition_point.result c.partition_point.ensures.partitioned (comes_first c.args.equal key ps up) (λ a r q h. search rules) in
    let seen : ps ≡ c.args.self.now = search rules in
    subst (λ (l : List Low). IsPartitionPoint (λ p. comes c.args.equal key p ≡ true) (λ p. comes c.args.equal key p ≡ false) l c.partition_point.result) seen found
