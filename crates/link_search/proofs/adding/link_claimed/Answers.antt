use Rattle.std.proofs.Common.{◌≢◌, List, [], ◌∷◌, ◌++◌, Some, refl, subst}
use Rattle.link_search.specs.declared.ties.Tie.TheVariants.{Reached}
use Rattle.link_search.specs.Linked.{IsCut}
use Rattle.link_search.specs.Met.{Met, met_link, tried_link, stored_link, gave_up}
use Rattle.link_search.specs.Ties.{IsPassed, IsReached}
use Rattle.link_search.specs.declared.walking.Place.{Place}
use Rattle.link_search.proofs.AddLaws.{link_holds}
use Rattle.link_search.proofs.StepLaws.{above_is_cut, below_grown, placed_later, placed_here, tied_here, entry_grown, looked_still, looked_since, looked_whole, over_cut}
use Rattle.link_search.proofs.WalkLaws.{above_later, grown_both, grown_none, grown_later, from_found}
use Rattle.link_search.proofs.adding.link_claimed.Goals as goal

pub loop-place-init : goal.loop-place-init
loop-place-init g c = record {
  pinned = c.requires.pinned;
  claimed = c.requires.claimed;
  points = c.requires.points;
  placed = c.requires.placed;
  grown = grown_none (g.R.LinkedRoom.view c.args.room.now);
  looked = λ s w. w;
  whole = ([], g.met.R.LinkedRoom.meets_none c.args.room.now);
  straight = λ s w l. (refl, refl);
}

pub link_to-requires-clause-behind : goal.link_to-requires-clause-behind
link_to-requires-clause-behind g c = c.loop-place.invariant.placed.behind

pub link_to-requires-clause-before : goal.link_to-requires-clause-before
link_to-requires-clause-before g c = c.loop-place.invariant.placed.before

-- it is linked

pub returns-then-link_to-clause-grown : goal.returns-then-link_to-clause-grown
returns-then-link_to-clause-grown g c = let V = g.R.LinkedRoom.view in let l = c.loop-place.room in let k = c.link_to in
    grown_both (V c.args.room.now) (V l) (V k.new.self) c.loop-place.invariant.grown (grown_later (V l) (V k.new.self) k.ensures.later)

pub returns-then-link_to-clause-linked : goal.returns-then-link_to-clause-linked
returns-then-link_to-clause-linked g c = let k = c.link_to in let e = c.if-link_to.true in let p = c.loop-place.place in λ s w. let lk = c.loop-place.invariant.looked s w in (
  refl,
  k.ensures.linked e,
  k.ensures.free e,
  record {
    moment = c.loop-place.room;
    before = lk.before ++ met_link p.from p.link ∷ lk.between;
    start = looked_whole g.R.LinkedRoom.view g.R.LinkedRoom.meets g.met.R.LinkedRoom.meets_both p.from p.link s c.loop-place.room lk;
    from = p.from;
    old = p.link;
    on = k.ensures.stored e;
  },
)

pub returns-then-link_to-clause-whole : goal.returns-then-link_to-clause-whole
returns-then-link_to-clause-whole g c = let k = c.link_to in let p = c.loop-place.place in let w = c.loop-place.invariant.whole in let tried : List Met = tried_link p.from c.args.entry p.link p.link ∷ [] in
    (w.0 ++ tried, g.met.R.LinkedRoom.meets_both c.args.room.now c.loop-place.room k.new.self w.0 tried w.1 (k.ensures.stored c.if-link_to.true))

pub returns-then-link_to-clause-straight : goal.returns-then-link_to-clause-straight
returns-then-link_to-clause-straight g c = let M = g.R.LinkedRoom.meets in let k = c.link_to in let i = c.loop-place.invariant in let entry = c.args.entry in let r = c.loop-place.room in let new = k.new.self in
    λ s w l. let e = i.straight s w l in (refl, subst (λ (p : Place). M c.args.room.now new (tried_link p.from entry p.link p.link ∷ [])) e.0 (subst (λ x. M x new (tried_link c.loop-place.place.from entry c.loop-place.place.link c.loop-place.place.link ∷ [])) e.1 (k.ensures.stored c.if-link_to.true)))

-- the link was lost, too often

pub returns-then-left-eq0-clause-grown : goal.returns-then-left-eq0-clause-grown
returns-then-left-eq0-clause-grown g c = let V = g.R.LinkedRoom.view in let l = c.loop-place.room in let k = c.link_to in let y = c.give_back in
    grown_both (V c.args.room.now) (V k.new.self) (V y.new.room) (grown_both (V c.args.room.now) (V l) (V k.new.self) c.loop-place.invariant.grown (grown_later (V l) (V k.new.self) k.ensures.later)) (grown_later (V k.new.self) (V y.new.room) y.ensures.later)

pub returns-then-left-eq0-clause-linked : goal.returns-then-left-eq0-clause-linked
returns-then-left-eq0-clause-linked g c = let l = c.loop-place.room in let p = c.loop-place.place in let k = c.link_to in let y = c.give_back in let lost = k.ensures.lost c.if-link_to.false in let entry = c.args.entry in
    λ s w. let lk = c.loop-place.invariant.looked s w in (
      record {
        moment = lk.moment;
        again = l;
        behind = k.new.self;
        before = lk.before;
        from = p.from;
        old = p.link;
        between = lk.between;
        entry = entry;
        number = lost.0;
        rest = gave_up entry ∷ [];
        start = lk.start;
        looked = lk.on;
        kept = lk.kept;
        tried = lost.2;
        end = y.ensures.meets;
        other = lost.1;
      },
      y.ensures.holds,
    )

pub returns-then-left-eq0-clause-whole : goal.returns-then-left-eq0-clause-whole
returns-then-left-eq0-clause-whole g c = let both = g.met.R.LinkedRoom.meets_both in let s = c.args.room.now in let l = c.loop-place.room in let p = c.loop-place.place in let k = c.link_to in let y = c.give_back in let lost = k.ensures.lost c.if-link_to.false in let w = c.loop-place.invariant.whole in let entry = c.args.entry in
    let tried : List Met = tried_link p.from entry p.link lost.0 ∷ [] in
    ((w.0 ++ tried) ++ gave_up entry ∷ [], both s k.new.self y.new.room (w.0 ++ tried) (gave_up entry ∷ []) (both s l k.new.self w.0 tried w.1 lost.2) y.ensures.meets)

pub returns-then-left-eq0-clause-straight : goal.returns-then-left-eq0-clause-straight
returns-then-left-eq0-clause-straight g c = let l = c.loop-place.room in let p = c.loop-place.place in let k = c.link_to in
    λ s w lone. link_holds g.R.LinkedRoom.meets g.R.LinkedRoom.lone g.met.R.LinkedRoom.lone_on g.met.R.LinkedRoom.own_link s l k.new.self p.from c.args.entry p.link (c.loop-place.invariant.looked s w) lone (k.ensures.lost c.if-link_to.false)

-- the walk goes on

pub walk-next-requires-clause-behind : goal.walk-next-requires-clause-behind
walk-next-requires-clause-behind g c = let V = g.R.LinkedRoom.view in let k = c.link_to in let l = c.loop-place.room in
    above_is_cut (V k.new.self) c.loop-place.place.from c.args.key.now (above_later (V l) (V k.new.self) k.ensures.later c.loop-place.place.from c.args.key.now c.loop-place.invariant.placed.behind)

pub walk-next-requires-clause-seen : goal.walk-next-requires-clause-seen
walk-next-requires-clause-seen g c = let V = g.R.LinkedRoom.view in let k = c.link_to in let l = c.loop-place.room in
    below_grown (V l) (V k.new.self) c.loop-place.place.link c.args.key.now (grown_later (V l) (V k.new.self) k.ensures.later) c.loop-place.invariant.placed.before

pub entry_of_key-requires : goal.entry_of_key-requires
entry_of_key-requires g c = c.walk-next.ensures.order.none

-- it finds an entry of the key

pub give_back-requires-in-Some-clause-claimed : goal.give_back-requires-in-Some-clause-claimed
give_back-requires-in-Some-clause-claimed g c = let w = c.walk-next.ensures.walks in g.met.R.LinkedRoom.claims_on c.link_to.new.self c.walk-next.new.room w.met c.args.entry c.args.key.now w.on w.loads (c.link_to.ensures.claimed c.if-link_to.false)

pub returns-in-Some-clause-grown : goal.returns-in-Some-clause-grown
returns-in-Some-clause-grown g c = let V = g.R.LinkedRoom.view in let l = c.loop-place.room in let k = c.link_to in let v = c.walk-next.new.room in let y = c.give_back-in-Some in
    grown_both (V c.args.room.now) (V v) (V y.new.room) (grown_both (V c.args.room.now) (V k.new.self) (V v) (grown_both (V c.args.room.now) (V l) (V k.new.self) c.loop-place.invariant.grown (grown_later (V l) (V k.new.self) k.ensures.later)) (grown_later (V k.new.self) (V v) c.walk-next.ensures.walks.later)) (grown_later (V v) (V y.new.room) y.ensures.later)

pub returns-in-Some-clause-linked : goal.returns-in-Some-clause-linked
returns-in-Some-clause-linked g c = let V = g.R.LinkedRoom.view in let t = c.link_to.new.self in let v = c.walk-next.new.room in let y = c.give_back-in-Some in let key = c.args.key.now in let n = c.walk-next.result in let w = c.walk-next.ensures in let i = c.in-Some.found in
    λ s z. (entry_grown (V v) (V y.new.room) key i (grown_later (V v) (V y.new.room) y.ensures.later) (tied_here V g.R.LinkedRoom.meets g.met.R.LinkedRoom.meets_both t v key n.from n.link n.order w.over w.order i c.in-Some.ensures), y.ensures.holds)

pub returns-in-Some-clause-whole : goal.returns-in-Some-clause-whole
returns-in-Some-clause-whole g c = let both = g.met.R.LinkedRoom.meets_both in let s = c.args.room.now in let l = c.loop-place.room in let p = c.loop-place.place in let k = c.link_to in let v = c.walk-next.new.room in let y = c.give_back-in-Some in let lost = k.ensures.lost c.if-link_to.false in let w = c.loop-place.invariant.whole in let n = c.walk-next.ensures.walks in let entry = c.args.entry in
    let tried : List Met = tried_link p.from entry p.link lost.0 ∷ [] in
    (((w.0 ++ tried) ++ n.met) ++ gave_up entry ∷ [], both s v y.new.room ((w.0 ++ tried) ++ n.met) (gave_up entry ∷ []) (both s k.new.self v (w.0 ++ tried) n.met (both s l k.new.self w.0 tried w.1 lost.2) n.on) y.ensures.meets)

pub returns-in-Some-clause-straight : goal.returns-in-Some-clause-straight
returns-in-Some-clause-straight g c = let l = c.loop-place.room in let p = c.loop-place.place in let k = c.link_to in
    λ s w lone. link_holds g.R.LinkedRoom.meets g.R.LinkedRoom.lone g.met.R.LinkedRoom.lone_on g.met.R.LinkedRoom.own_link s l k.new.self p.from c.args.entry p.link (c.loop-place.invariant.looked s w) lone (k.ensures.lost c.if-link_to.false)

-- it finds none

pub point-requires-clause-claimed : goal.point-requires-clause-claimed
point-requires-clause-claimed g c = let w = c.walk-next.ensures.walks in g.met.R.LinkedRoom.claims_on c.link_to.new.self c.walk-next.new.room w.met c.args.entry c.args.key.now w.on w.loads (c.link_to.ensures.claimed c.if-link_to.false)

pub loop-place-preserved : goal.loop-place-preserved
loop-place-preserved g c = let V = g.R.LinkedRoom.view in let M = g.R.LinkedRoom.meets in let both = g.met.R.LinkedRoom.meets_both in let l = c.loop-place.room in let p = c.loop-place.place in let i = c.loop-place.invariant in let k = c.link_to in let t = k.new.self in let v = c.walk-next.new.room in let z = c.point.new.self in
    let key = c.args.key.now in let entry = c.args.entry in let n = c.walk-next.result in let w = c.walk-next.ensures in let P = IsPassed Reached (Some key) in let Q = IsReached Reached (Some key) in
    let lost = k.ensures.lost c.if-link_to.false in let claims = g.met.R.LinkedRoom.claims_on t v w.walks.met entry key w.walks.on w.walks.loads (k.ensures.claimed c.if-link_to.false) in
    let cut : IsCut (V v) n.from P = over_cut V M both P Q n.from n.link t v w.over in
    let apart : n.from ≢ Some entry = (λ e. g.met.R.LinkedRoom.apart v entry key claims (from_found (V v) n.from P cut entry e)) in record {
      pinned = c.point.ensures.pinned;
      claimed = c.point.ensures.claimed;
      points = c.point.ensures.points;
      placed = placed_later (V v) (V z) n.from n.link key c.point.ensures.later (placed_here V M both t v key n.from n.link n.order w.over w.order c.in_default.ensures);
      grown = grown_both (V c.args.room.now) (V v) (V z) (grown_both (V c.args.room.now) (V t) (V v) (grown_both (V c.args.room.now) (V l) (V t) i.grown (grown_later (V l) (V t) k.ensures.later)) (grown_later (V t) (V v) w.walks.later)) (grown_later (V v) (V z) c.point.ensures.later);
      looked = λ s h. let lk = i.looked s h in let ms : List Met = lk.before ++ met_link p.from p.link ∷ lk.between in let tried : List Met = tried_link p.from entry p.link lost.0 ∷ [] in
          looked_still V M both n.from n.link s v z (stored_link entry n.link ∷ []) (looked_since V M both n.from n.link s t v (ms ++ tried) (both s l t ms tried (looked_whole V M both p.from p.link s l lk) lost.2) w.over.looked) c.point.ensures.meets (apart, tt);
      whole = let s = c.args.room.now in let w = i.whole in let tried : List Met = tried_link p.from entry p.link lost.0 ∷ [] in
          (((w.0 ++ tried) ++ c.walk-next.ensures.walks.met) ++ stored_link entry n.link ∷ [], both s v z ((w.0 ++ tried) ++ c.walk-next.ensures.walks.met) (stored_link entry n.link ∷ []) (both s t v (w.0 ++ tried) c.walk-next.ensures.walks.met (both s l t w.0 tried w.1 lost.2) c.walk-next.ensures.walks.on) c.point.ensures.meets);
      straight = λ s h lone. absurd (link_holds M g.R.LinkedRoom.lone g.met.R.LinkedRoom.lone_on g.met.R.LinkedRoom.own_link s l t p.from entry p.link (i.looked s h) lone lost);
    }
