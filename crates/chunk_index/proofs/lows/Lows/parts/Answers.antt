use Rattle.std.proofs.Common.{◌≡◌, ◌≤◌, List, [], length, subst, sym, rules}
use Rattle.chunk_index.specs.Lows.{Low, IsRising, comes}
use Rattle.chunk_index.proofs.LowLaws.{comes_first, point_between}
use Rattle.chunk_index.proofs.lows.Lows.parts.Goals as goal

pub returns-clause-point : goal.returns-clause-point
returns-clause-point c ends =
    let ps = c.args.self.now in
    let d : Low = ([], 0) in
    let is : ps ≡ c.self.inside.lows.items = search rules in
    let up : IsRising ps = subst (λ (l : List Low). IsRising l) (sym is) c.self.invariant.0 in
    let few : c.args.count ≤ length ps = search rules in
    point_between (comes c.args.equal c.args.key.now) ps c.args.count d (comes_first c.args.equal c.args.key.now ps up) few (λ some. c.comes_last.ensures c.if-not-comes_last.false some d) (λ inside. c.stays_behind.ensures ends inside d)
