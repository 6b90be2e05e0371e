use Rattle.std.proofs.Common.{◌≡◌, ◌≤◌, List, [], ◌-◌, length, get_or, subst, sym, rules}
use Rattle.chunk_index.specs.Lows.{Low, IsRising, comes}
use Rattle.chunk_index.proofs.LowLaws.{comes_first, comes_greater, comes_less, point_between}
use Rattle.chunk_index.proofs.lows.Lows.parts_by_heads.Goals as goal

pub returns-clause-point : goal.returns-clause-point
returns-clause-point c ends equal =
    let ps = c.args.self.now in
    let key = c.args.key.now in
    let n = c.args.count in
    let d : Low = ([], 0) in
    let is : ps ≡ c.self.inside.lows.items = search rules in
    let up : IsRising ps = subst (λ (l : List Low). IsRising l) (sym is) c.self.invariant.0 in
    let few : n ≤ length ps = search rules in
    point_between (comes equal key) ps n d (comes_first equal key ps up) few
    (λ some. comes_less equal key (get_or ps (n - 1) d) (c.is_last_below.ensures c.if-not-is_last_below.false some d))
    (λ inside. comes_greater equal key (get_or ps n d) (c.is_next_above.ensures ends inside d))
