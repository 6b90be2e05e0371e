use Rattle.std.proofs.Common.{◌≡◌, [], ◌∷◌, sym, ap, ◌∙◌, subst}
use Rattle.link_search.specs.Linked.{Linked, FrontStands, IsCounted, IsCut, IsBare}
use Rattle.link_search.specs.Met.{met_count}
use Rattle.link_search.specs.Ties.{IsPassed, IsReached, bytes_in_option}
use Rattle.link_search.proofs.FindLaws.{cut_at, bare_at, few_walked}
use Rattle.link_search.proofs.StepLaws.{entries_load, over_still, over_since}
use Rattle.link_search.proofs.WalkLaws.{counted_later, grown_both, grown_same, grown_later}
use Rattle.link_search.proofs.nearest.step_over.Goals as goal

pub walk-place-requires-clause-behind : goal.walk-place-requires-clause-behind
walk-place-requires-clause-behind g c = let k = c.count-count in let r : Linked = g.R.LinkedRoom.view k.new.self in let b = c.sorted_before-many in let P = IsPassed c.args.tie (bytes_in_option c.args.bound) in
    subst (λ (x : Linked). IsCut x c.before-from.result P) (sym b.ensures.same) (cut_at r k.ensures.front P b.result b.ensures.split c.before-from.result c.before-from.ensures)

pub returns-clause-grown : goal.returns-clause-grown
returns-clause-grown g c = let V = g.R.LinkedRoom.view in let k = c.count-count in let u = c.sorted_before-many.new.room in let v = c.walk-place.new.room in let d = c.count in
    grown_both (V c.args.room.now) (V v) (V d.new.self) (grown_both (V c.args.room.now) (V u) (V v) (grown_both (V c.args.room.now) (V k.new.self) (V u) k.ensures.grown (grown_same (V k.new.self) (V u) c.sorted_before-many.ensures.same)) (grown_later (V u) (V v) c.walk-place.ensures.walks.later)) d.ensures.grown

pub returns-clause-over : goal.returns-clause-over
returns-clause-over g c = let V = g.R.LinkedRoom.view in let M = g.R.LinkedRoom.meets in let both = g.met.R.LinkedRoom.meets_both in let k = c.count-count in let b = c.sorted_before-many in let s = c.args.room.now in let u = b.new.room in let v = c.walk-place.new.room in let w = c.walk-place.ensures in let d = c.count in let x = d.new.self in
    let p = c.walk-place.result in let l = b.ensures.loads in let P = IsPassed c.args.tie (bytes_in_option c.args.bound) in let Q = IsReached c.args.tie (bytes_in_option c.args.bound) in
    let still : V x ≡ V v = d.ensures.same (counted_later (V u) (V v) w.walks.later (subst IsCounted (sym b.ensures.same) k.ensures.counted)) in
    over_since V M both P Q p.from p.link s u x (met_count k.result ∷ l.0) (both s k.new.self u (met_count k.result ∷ []) l.0 k.ensures.meets l.1) (tt, entries_load l.0 l.2) (over_still V M both P Q p.from p.link u v x (met_count d.result ∷ []) w.over d.ensures.meets (tt, tt) still)

pub returns-clause-loads : goal.returns-clause-loads
returns-clause-loads g c = let V = g.R.LinkedRoom.view in let k = c.count-count in let b = c.sorted_before-many in let l = b.ensures.loads in let u = b.new.room in let v = c.walk-place.new.room in let w = c.walk-place.ensures.walks in let d = c.count in
    let still : V d.new.self ≡ V v = d.ensures.same (counted_later (V u) (V v) w.later (subst IsCounted (sym b.ensures.same) k.ensures.counted)) in
    let from = c.before-from.result in let P = IsPassed c.args.tie (bytes_in_option c.args.bound) in let r : Linked = V k.new.self in let same = sym b.ensures.same in
    few_walked g.R.LinkedRoom.pinned V g.R.LinkedRoom.meets g.met.R.LinkedRoom.meets_both from P c.args.room.now k.new.self u v d.new.self k.result d.result c.prefix_in.result l.0 k.ensures.meets l.1 l.2 l.3
    (subst FrontStands same k.ensures.front.found) (subst (λ (x : Linked). IsCut x from P) same (cut_at r k.ensures.front P b.result b.ensures.split from c.before-from.ensures)) (subst (λ (x : Linked). IsBare x from P) same (bare_at r k.ensures.front P b.result b.ensures.split from c.before-from.ensures)) w d.ensures.meets still d.ensures.within
    (c.prefix_in.ensures ∙ (k.ensures.prefix ∙ (ap (λ (x : Linked). x.prefix) (sym b.ensures.same) ∙ (sym w.later.prefix ∙ ap (λ (x : Linked). x.prefix) (sym still)))))
