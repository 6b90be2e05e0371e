use Rattle.std.proofs.Common.{◌≡◌, [], ◌∷◌, Some, sym, ap, ◌∙◌, subst}
use Rattle.link_search.specs.declared.ties.Tie.TheVariants.{Reached}
use Rattle.link_search.specs.Linked.{Linked, FrontStands, IsCounted, IsCut, IsBare}
use Rattle.link_search.specs.Finds.{IsEntryOf}
use Rattle.link_search.specs.Met.{met_count}
use Rattle.link_search.specs.Ties.{IsPassed, IsReached}
use Rattle.link_search.specs.Walks.{StopsAt, TellsOrder}
use Rattle.link_search.proofs.FindLaws.{cut_at, bare_at, split_between, stops_behind, few_at, few_walked}
use Rattle.link_search.proofs.StepLaws.{entries_load, over_still, over_since, finds_none, tied_here}
use Rattle.link_search.proofs.WalkLaws.{counted_later, grown_both, grown_same}
use Rattle.link_search.proofs.finding.find.Goals as goal

pub returns-in-At-clause-grown : goal.returns-in-At-clause-grown
returns-in-At-clause-grown g c = let V = g.R.LinkedRoom.view in let k = c.count-count in
    grown_both (V c.args.room.now) (V k.new.self) (V c.search.new.self) k.ensures.grown (grown_same (V k.new.self) (V c.search.new.self) c.in-At.ensures.same)

pub returns-in-At-clause-finds : goal.returns-in-At-clause-finds
returns-in-At-clause-finds g c = let V = g.R.LinkedRoom.view in let k = c.count-count in let b = c.in-At in let key = c.args.key.now in let p = b.ensures.place in
    subst (λ (x : Linked). IsEntryOf x key b.entry) (sym b.ensures.same) (k.ensures.front.found b.entry p.0, p.1)

pub returns-in-At-clause-loads : goal.returns-in-At-clause-loads
returns-in-At-clause-loads g c = let V = g.R.LinkedRoom.view in let k = c.count-count in let b = c.in-At in let l = b.ensures.loads in
    few_at g.R.LinkedRoom.pinned V g.R.LinkedRoom.meets g.met.R.LinkedRoom.meets_both c.args.room.now k.new.self c.search.new.self k.result c.prefix_in-prefix.result l.0 k.ensures.meets l.1 l.2 l.3 (c.prefix_in-prefix.ensures ∙ (k.ensures.prefix ∙ ap (λ (x : Linked). x.prefix) (sym b.ensures.same)))

pub walk-place-requires-clause-behind : goal.walk-place-requires-clause-behind
walk-place-requires-clause-behind g c = let k = c.count-count in let r : Linked = g.R.LinkedRoom.view k.new.self in let b = c.in-Between in let key = c.args.key.now in let P = IsPassed Reached (Some key) in
    subst (λ (x : Linked). IsCut x c.before-from.result P) (sym b.ensures.same) (cut_at r k.ensures.front P b.many (split_between r Reached key b.many b.ensures.place) c.before-from.result c.before-from.ensures)

pub walk-place-requires-clause-seen : goal.walk-place-requires-clause-seen
walk-place-requires-clause-seen g c = let k = c.count-count in let r : Linked = g.R.LinkedRoom.view k.new.self in let b = c.in-Between in let key = c.args.key.now in
    subst (λ (x : Linked). StopsAt x (Some key) c.link_behind-seen.result) (sym b.ensures.same) (stops_behind r k.ensures.front key b.many b.ensures.place c.prefix_in-prefix.result c.link_behind-seen.result
    (c.prefix_in-prefix.ensures ∙ k.ensures.prefix) c.link_behind-seen.ensures.named c.link_behind-seen.ensures.none)

pub entry_of_key-requires : goal.entry_of_key-requires
entry_of_key-requires g c = c.walk-place.ensures.order.none

pub returns-in-Some-clause-finds : goal.returns-in-Some-clause-finds
returns-in-Some-clause-finds g c = let V = g.R.LinkedRoom.view in let M = g.R.LinkedRoom.meets in let both = g.met.R.LinkedRoom.meets_both in let k = c.count-count in let b = c.in-Between in let s = c.args.room.now in let u = c.search.new.self in let v = c.walk-place.new.room in let w = c.walk-place.ensures in let d = c.count in let x = d.new.self in
    let key = c.args.key.now in let p = c.walk-place.result in let l = b.ensures.loads in let P = IsPassed Reached (Some key) in let Q = IsReached Reached (Some key) in
    let still : V x ≡ V v = d.ensures.same (counted_later (V u) (V v) w.walks.later (subst IsCounted (sym b.ensures.same) k.ensures.counted)) in
    let over = over_since V M both P Q p.from p.link s u x (met_count k.result ∷ l.0) (both s k.new.self u (met_count k.result ∷ []) l.0 k.ensures.meets l.1) (tt, entries_load l.0 l.2) (over_still V M both P Q p.from p.link u v x (met_count d.result ∷ []) w.over d.ensures.meets (tt, tt) still) in
    let tells = subst (λ (r : Linked). TellsOrder p.order r (Some key) p.link) (sym still) w.order in
    tied_here V M both s x key p.from p.link p.order over tells c.in-Some.entry c.in-Some.ensures

pub returns-in-Some-clause-loads : goal.returns-in-Some-clause-loads
returns-in-Some-clause-loads g c = let V = g.R.LinkedRoom.view in let k = c.count-count in let b = c.in-Between in let l = b.ensures.loads in let u = c.search.new.self in let v = c.walk-place.new.room in let w = c.walk-place.ensures.walks in let d = c.count in
    let still : V d.new.self ≡ V v = d.ensures.same (counted_later (V u) (V v) w.later (subst IsCounted (sym b.ensures.same) k.ensures.counted)) in
    let from = c.before-from.result in let P = IsPassed Reached (Some c.args.key.now) in let r : Linked = V k.new.self in let same = sym b.ensures.same in let split = split_between r Reached c.args.key.now b.many b.ensures.place in
    few_walked g.R.LinkedRoom.pinned V g.R.LinkedRoom.meets g.met.R.LinkedRoom.meets_both from P c.args.room.now k.new.self u v d.new.self k.result d.result c.prefix_in-prefix.result l.0 k.ensures.meets l.1 l.2 l.3
    (subst FrontStands same k.ensures.front.found) (subst (λ (x : Linked). IsCut x from P) same (cut_at r k.ensures.front P b.many split from c.before-from.ensures)) (subst (λ (x : Linked). IsBare x from P) same (bare_at r k.ensures.front P b.many split from c.before-from.ensures)) w d.ensures.meets still d.ensures.within
    (c.prefix_in-prefix.ensures ∙ (k.ensures.prefix ∙ (ap (λ (x : Linked). x.prefix) (sym b.ensures.same) ∙ (sym w.later.prefix ∙ ap (λ (x : Linked). x.prefix) (sym still)))))

pub returns-in-None-clause-finds : goal.returns-in-None-clause-finds
returns-in-None-clause-finds g c = let V = g.R.LinkedRoom.view in let M = g.R.LinkedRoom.meets in let both = g.met.R.LinkedRoom.meets_both in let k = c.count-count in let b = c.in-Between in let s = c.args.room.now in let u = c.search.new.self in let v = c.walk-place.new.room in let w = c.walk-place.ensures in let d = c.count in let x = d.new.self in
    let key = c.args.key.now in let p = c.walk-place.result in let l = b.ensures.loads in let P = IsPassed Reached (Some key) in let Q = IsReached Reached (Some key) in
    let still : V x ≡ V v = d.ensures.same (counted_later (V u) (V v) w.walks.later (subst IsCounted (sym b.ensures.same) k.ensures.counted)) in
    let over = over_since V M both P Q p.from p.link s u x (met_count k.result ∷ l.0) (both s k.new.self u (met_count k.result ∷ []) l.0 k.ensures.meets l.1) (tt, entries_load l.0 l.2) (over_still V M both P Q p.from p.link u v x (met_count d.result ∷ []) w.over d.ensures.meets (tt, tt) still) in
    let tells = subst (λ (r : Linked). TellsOrder p.order r (Some key) p.link) (sym still) w.order in
    finds_none V M both s x key p.from p.link p.order over tells c.in-None.ensures

pub returns-in-None-clause-loads : goal.returns-in-None-clause-loads
returns-in-None-clause-loads g c = let V = g.R.LinkedRoom.view in let k = c.count-count in let b = c.in-Between in let l = b.ensures.loads in let u = c.search.new.self in let v = c.walk-place.new.room in let w = c.walk-place.ensures.walks in let d = c.count in
    let still : V d.new.self ≡ V v = d.ensures.same (counted_later (V u) (V v) w.later (subst IsCounted (sym b.ensures.same) k.ensures.counted)) in
    let from = c.before-from.result in let P = IsPassed Reached (Some c.args.key.now) in let r : Linked = V k.new.self in let same = sym b.ensures.same in let split = split_between r Reached c.args.key.now b.many b.ensures.place in
    few_walked g.R.LinkedRoom.pinned V g.R.LinkedRoom.meets g.met.R.LinkedRoom.meets_both from P c.args.room.now k.new.self u v d.new.self k.result d.result c.prefix_in-prefix.result l.0 k.ensures.meets l.1 l.2 l.3
    (subst FrontStands same k.ensures.front.found) (subst (λ (x : Linked). IsCut x from P) same (cut_at r k.ensures.front P b.many split from c.before-from.ensures)) (subst (λ (x : Linked). IsBare x from P) same (bare_at r k.ensures.front P b.many split from c.before-from.ensures)) w d.ensures.meets still d.ensures.within
    (c.prefix_in-prefix.ensures ∙ (k.ensures.prefix ∙ (ap (λ (x : Linked). x.prefix) (sym b.ensures.same) ∙ (sym w.later.prefix ∙ ap (λ (x : Linked). x.prefix) (sym still)))))
