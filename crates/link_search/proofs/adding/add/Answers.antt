use Rattle.std.proofs.Common.{◌≡◌, ◌≢◌, ℕ, List, [], ◌∷◌, ◌++◌, Option, Some, inl, refl, sym, ap, ◌∙◌, subst, arith}
use Rattle.oak_model.specs.Counts.{Each}
use Rattle.oak_model.proofs.Lists.{each_append}
use Rattle.chunk_core.specs.LinkedEntries.{entries_in}
use Rattle.link_search.specs.declared.ties.Tie.TheVariants.{Reached}
use Rattle.link_search.specs.Adds.{CountChanged}
use Rattle.link_search.specs.Linked.{Linked, IsCut, IsPlaced}
use Rattle.link_search.specs.Met.{Met, met_count, tried_count, stored_value, stored_link, stored_key, IsLoad, IsEntryLoad, Looked}
use Rattle.link_search.specs.Ties.{IsPassed, IsReached}
use Rattle.link_search.specs.Walks.{TellsOrder}
use Rattle.link_search.proofs.AddLaws.{added_by, busy_never, count_never, link_never, straight_by}
use Rattle.link_search.proofs.StepLaws.{above_is_cut, below_grown, placed_later, placed_here, tied_here, missed, none_has, over_key, looked_still, looked_since, over_since, over_still, over_cut, entries_load}
use Rattle.link_search.proofs.WalkLaws.{counted_later, grown_both, grown_same, grown_later, cut_grown, from_found}
use Rattle.link_search.proofs.adding.add.Goals as goal

-- the walk from the entry

pub walk-place-requires-clause-behind : goal.walk-place-requires-clause-behind
walk-place-requires-clause-behind g c = let V = g.R.LinkedRoom.view in let s = c.args.room.now in let k = c.count-first in let from = c.args.from in let key = c.args.key.now in
    cut_grown (V s) (V k.new.self) from (IsPassed Reached (Some key)) k.ensures.grown (above_is_cut (V s) from key c.requires.behind)

pub walk-place-requires-clause-seen : goal.walk-place-requires-clause-seen
walk-place-requires-clause-seen g c = let V = g.R.LinkedRoom.view in let k = c.count-first in below_grown (V c.args.room.now) (V k.new.self) c.args.seen c.args.key.now k.ensures.grown c.requires.seen

pub entry_of_key-requires : goal.entry_of_key-requires
entry_of_key-requires g c = c.walk-place.ensures.order.none

-- it finds an entry of the key

pub returns-in-Some-clause-grown : goal.returns-in-Some-clause-grown
returns-in-Some-clause-grown g c = let V = g.R.LinkedRoom.view in let s = c.args.room.now in let k = c.count-first in let a = k.new.self in let v = c.walk-place.new.room in
    grown_both (V s) (V a) (V v) k.ensures.grown (grown_later (V a) (V v) c.walk-place.ensures.walks.later)

pub returns-in-Some-clause-added : goal.returns-in-Some-clause-added
returns-in-Some-clause-added g c = let V = g.R.LinkedRoom.view in let both = g.met.R.LinkedRoom.meets_both in let s = c.args.room.now in let k = c.count-first in let a = k.new.self in let v = c.walk-place.new.room in let w = c.walk-place.ensures in let p = c.walk-place.result in let key = c.args.key.now in
    let ms : List Met = met_count k.result ∷ w.walks.met in let on = both s a v (met_count k.result ∷ []) w.walks.met k.ensures.meets w.walks.on in let loads = entries_load w.walks.met w.walks.loads in (
      tied_here V g.R.LinkedRoom.meets both a v key p.from p.link p.order w.over w.order c.in-Some.found c.in-Some.ensures,
      g.met.R.LinkedRoom.holds_on s v ms key on (tt, loads) c.requires.holds,
    )

pub returns-in-Some-clause-whole : goal.returns-in-Some-clause-whole
returns-in-Some-clause-whole g c = let both = g.met.R.LinkedRoom.meets_both in let s = c.args.room.now in let k = c.count-first in let a = k.new.self in let v = c.walk-place.new.room in let w = c.walk-place.ensures in let p = c.walk-place.result in let key = c.args.key.now in
    let ms : List Met = met_count k.result ∷ w.walks.met in let on = both s a v (met_count k.result ∷ []) w.walks.met k.ensures.meets w.walks.on in let loads = entries_load w.walks.met w.walks.loads in (ms, on)

pub returns-in-Some-clause-straight : goal.returns-in-Some-clause-straight
returns-in-Some-clause-straight g c = let both = g.met.R.LinkedRoom.meets_both in let s = c.args.room.now in let k = c.count-first in let a = k.new.self in let v = c.walk-place.new.room in let w = c.walk-place.ensures in let p = c.walk-place.result in let key = c.args.key.now in
    let ms : List Met = met_count k.result ∷ w.walks.met in let on = both s a v (met_count k.result ∷ []) w.walks.met k.ensures.meets w.walks.on in let loads = entries_load w.walks.met w.walks.loads in λ lone. (k.result, w.walks.met, on, loads)

-- the room is full

pub returns-then-entries_in-most-clause-grown : goal.returns-then-entries_in-most-clause-grown
returns-then-entries_in-most-clause-grown g c = let V = g.R.LinkedRoom.view in let s = c.args.room.now in let k = c.count-first in let a = k.new.self in let v = c.walk-place.new.room in
    grown_both (V s) (V a) (V v) k.ensures.grown (grown_later (V a) (V v) c.walk-place.ensures.walks.later)

pub returns-then-entries_in-most-clause-added : goal.returns-then-entries_in-most-clause-added
returns-then-entries_in-most-clause-added g c = let V = g.R.LinkedRoom.view in let M = g.R.LinkedRoom.meets in let both = g.met.R.LinkedRoom.meets_both in let s = c.args.room.now in let k = c.count-first in let a = k.new.self in let v = c.walk-place.new.room in let w = c.walk-place.ensures in let p = c.walk-place.result in let key = c.args.key.now in
    let ms : List Met = met_count k.result ∷ w.walks.met in let on = both s a v (met_count k.result ∷ []) w.walks.met k.ensures.meets w.walks.on in let loads = entries_load w.walks.met w.walks.loads in (
      record {
        word = k.result;
        counted = a;
        on = k.ensures.meets;
        full = sym c.entries_in.ensures ∙ c.if-entries_in-most.true;
        from = p.from;
        link = p.link;
        misses = missed V M both a v key p.from p.link p.order w.over w.order c.in_default.ensures;
        met = ms;
        whole = on;
        loads = (tt, loads);
      },
      g.met.R.LinkedRoom.holds_on s v ms key on (tt, loads) c.requires.holds,
    )

pub returns-then-entries_in-most-clause-whole : goal.returns-then-entries_in-most-clause-whole
returns-then-entries_in-most-clause-whole g c = let both = g.met.R.LinkedRoom.meets_both in let s = c.args.room.now in let k = c.count-first in let a = k.new.self in let v = c.walk-place.new.room in let w = c.walk-place.ensures in let p = c.walk-place.result in let key = c.args.key.now in
    let ms : List Met = met_count k.result ∷ w.walks.met in let on = both s a v (met_count k.result ∷ []) w.walks.met k.ensures.meets w.walks.on in let loads = entries_load w.walks.met w.walks.loads in (ms, on)

pub returns-then-entries_in-most-clause-straight : goal.returns-then-entries_in-most-clause-straight
returns-then-entries_in-most-clause-straight g c = let both = g.met.R.LinkedRoom.meets_both in let s = c.args.room.now in let k = c.count-first in let a = k.new.self in let v = c.walk-place.new.room in let w = c.walk-place.ensures in let p = c.walk-place.result in let key = c.args.key.now in
    let ms : List Met = met_count k.result ∷ w.walks.met in let on = both s a v (met_count k.result ∷ []) w.walks.met k.ensures.meets w.walks.on in let loads = entries_load w.walks.met w.walks.loads in λ lone. (k.result, w.walks.met, on, loads)

-- the count was found changed

pub returns-then-entry-most-clause-grown : goal.returns-then-entry-most-clause-grown
returns-then-entry-most-clause-grown g c = let V = g.R.LinkedRoom.view in let s = c.args.room.now in let k = c.count-first in let a = k.new.self in let v = c.walk-place.new.room in let d = c.count-count in let x = d.new.self in
    grown_both (V s) (V v) (V x) (grown_both (V s) (V a) (V v) k.ensures.grown (grown_later (V a) (V v) c.walk-place.ensures.walks.later)) d.ensures.grown

module _ {S : Type 0} (meets : S → S → List Met → Type 0) (none : (s : S) → meets s s []) (both : (s t u : S) (a b : List Met) → meets s t a → meets t u b → meets s u (a ++ b)) where
  -- by two loads
  counted_twice : (s a v x : S) (n m : ℕ) (ms : List Met) → meets s a (met_count n ∷ []) → meets a v ms → Each IsEntryLoad ms → meets v x (met_count m ∷ []) → m ≢ n → CountChanged meets s x
  counted_twice s a v x n m ms p q e t ne = record {
    moment = s;
    again = v;
    before = [];
    old = n;
    between = ms;
    number = m;
    second = met_count m;
    start = none s;
    looked = both s a v (met_count n ∷ []) ms p q;
    kept = e;
    tried = t;
    tells = refl;
    other = ne;
  }

  -- by a load and an exchange
  counted_lost : (s v x y : S) (m : ℕ) (ms : List Met) → meets s v ms → meets v x (met_count m ∷ []) → (lost : (n : ℕ) × (n ≢ m) × meets x y (tried_count m n ∷ [])) → CountChanged meets s y
  counted_lost s v x y m ms p q lost = record {
    moment = v;
    again = x;
    before = ms;
    old = m;
    between = [];
    number = lost.0;
    second = tried_count m lost.0;
    start = p;
    looked = q;
    kept = tt;
    tried = lost.2;
    tells = refl;
    other = lost.1;
  }

other_count : (n m most e f : ℕ) → e ≡ entries_in n → (e ≡ most → ⊥) → f ≡ entries_in m → f ≡ most → m ≢ n
other_count n m most e f p ne q t s = ne (p ∙ (ap entries_in (sym s) ∙ (sym q ∙ t)))

pub returns-then-entry-most-clause-added : goal.returns-then-entry-most-clause-added
returns-then-entry-most-clause-added g c = let M = g.R.LinkedRoom.meets in let both = g.met.R.LinkedRoom.meets_both in let s = c.args.room.now in let k = c.count-first in let a = k.new.self in let v = c.walk-place.new.room in let w = c.walk-place.ensures in let p = c.walk-place.result in let key = c.args.key.now in let d = c.count-count in let x = d.new.self in
    let ms : List Met = met_count k.result ∷ w.walks.met in let on = both s a v (met_count k.result ∷ []) w.walks.met k.ensures.meets w.walks.on in let loads = entries_load w.walks.met w.walks.loads in let rest : List Met = ms ++ met_count d.result ∷ [] in let xon = both s v x ms (met_count d.result ∷ []) on d.ensures.meets in (
      inl (counted_twice M g.met.R.LinkedRoom.meets_none both s a v x k.result d.result w.walks.met k.ensures.meets w.walks.on w.walks.loads d.ensures.meets (other_count k.result d.result c.args.most c.entries_in.result c.entries_in-entry.result c.entries_in.ensures (λ e. c.if-entries_in-most.false e) c.entries_in-entry.ensures c.if-entry-most.true)),
      g.met.R.LinkedRoom.holds_on s x rest key xon (tt, each_append IsLoad w.walks.met (met_count d.result ∷ []) loads (tt, tt)) c.requires.holds,
    )

pub returns-then-entry-most-clause-alone : goal.returns-then-entry-most-clause-alone
returns-then-entry-most-clause-alone g c = let M = g.R.LinkedRoom.meets in let both = g.met.R.LinkedRoom.meets_both in let s = c.args.room.now in let k = c.count-first in let a = k.new.self in let v = c.walk-place.new.room in let w = c.walk-place.ensures in let d = c.count-count in let x = d.new.self in
    count_never M g.R.LinkedRoom.lone g.met.R.LinkedRoom.lone_on g.met.R.LinkedRoom.own_count s x
    (counted_twice M g.met.R.LinkedRoom.meets_none both s a v x k.result d.result w.walks.met k.ensures.meets w.walks.on w.walks.loads d.ensures.meets (other_count k.result d.result c.args.most c.entries_in.result c.entries_in-entry.result c.entries_in.ensures (λ e. c.if-entries_in-most.false e) c.entries_in-entry.ensures c.if-entry-most.true))

pub returns-then-entry-most-clause-whole : goal.returns-then-entry-most-clause-whole
returns-then-entry-most-clause-whole g c = let both = g.met.R.LinkedRoom.meets_both in let s = c.args.room.now in let k = c.count-first in let a = k.new.self in let v = c.walk-place.new.room in let w = c.walk-place.ensures in let p = c.walk-place.result in let key = c.args.key.now in let d = c.count-count in let x = d.new.self in
    let ms : List Met = met_count k.result ∷ w.walks.met in let on = both s a v (met_count k.result ∷ []) w.walks.met k.ensures.meets w.walks.on in let loads = entries_load w.walks.met w.walks.loads in let rest : List Met = ms ++ met_count d.result ∷ [] in let xon = both s v x ms (met_count d.result ∷ []) on d.ensures.meets in (rest, xon)

pub returns-then-entry-most-clause-straight : goal.returns-then-entry-most-clause-straight
returns-then-entry-most-clause-straight g c = returns-then-entry-most-clause-alone g c

-- the claim

pub claim-requires-clause-room : goal.claim-requires-clause-room
claim-requires-clause-room g c = let both = g.met.R.LinkedRoom.meets_both in let s = c.args.room.now in let k = c.count-first in let a = k.new.self in let v = c.walk-place.new.room in let w = c.walk-place.ensures in let p = c.walk-place.result in let key = c.args.key.now in let d = c.count-count in let x = d.new.self in
    let ms : List Met = met_count k.result ∷ w.walks.met in let on = both s a v (met_count k.result ∷ []) w.walks.met k.ensures.meets w.walks.on in let loads = entries_load w.walks.met w.walks.loads in let rest : List Met = ms ++ met_count d.result ∷ [] in let xon = both s v x ms (met_count d.result ∷ []) on d.ensures.meets in let m = g.met.R.LinkedRoom.most_on s x rest xon in
    let q = c.requires.most in let e = c.entries_in-entry.ensures in let f = c.if-entry-most.false in let h = d.ensures.room in omega arith

pub claim-requires-clause-holds : goal.claim-requires-clause-holds
claim-requires-clause-holds g c = let both = g.met.R.LinkedRoom.meets_both in let s = c.args.room.now in let k = c.count-first in let a = k.new.self in let v = c.walk-place.new.room in let w = c.walk-place.ensures in let p = c.walk-place.result in let key = c.args.key.now in let d = c.count-count in let x = d.new.self in
    let ms : List Met = met_count k.result ∷ w.walks.met in let on = both s a v (met_count k.result ∷ []) w.walks.met k.ensures.meets w.walks.on in let loads = entries_load w.walks.met w.walks.loads in let rest : List Met = ms ++ met_count d.result ∷ [] in let xon = both s v x ms (met_count d.result ∷ []) on d.ensures.meets in g.met.R.LinkedRoom.holds_on s x rest key xon (tt, each_append IsLoad w.walks.met (met_count d.result ∷ []) loads (tt, tt)) c.requires.holds

-- it is lost

pub returns-then-not-claim-clause-grown : goal.returns-then-not-claim-clause-grown
returns-then-not-claim-clause-grown g c = let V = g.R.LinkedRoom.view in let s = c.args.room.now in let k = c.count-first in let a = k.new.self in let v = c.walk-place.new.room in let d = c.count-count in let x = d.new.self in let y = c.claim.new.self in
    grown_both (V s) (V x) (V y) (grown_both (V s) (V v) (V x) (grown_both (V s) (V a) (V v) k.ensures.grown (grown_later (V a) (V v) c.walk-place.ensures.walks.later)) d.ensures.grown) (grown_later (V x) (V y) c.claim.ensures.later)

pub returns-then-not-claim-clause-added : goal.returns-then-not-claim-clause-added
returns-then-not-claim-clause-added g c = let M = g.R.LinkedRoom.meets in let both = g.met.R.LinkedRoom.meets_both in let s = c.args.room.now in let k = c.count-first in let a = k.new.self in let v = c.walk-place.new.room in let w = c.walk-place.ensures in let p = c.walk-place.result in let key = c.args.key.now in let d = c.count-count in let x = d.new.self in let y = c.claim.new.self in
    let ms : List Met = met_count k.result ∷ w.walks.met in let on = both s a v (met_count k.result ∷ []) w.walks.met k.ensures.meets w.walks.on in let loads = entries_load w.walks.met w.walks.loads in (inl (counted_lost M g.met.R.LinkedRoom.meets_none both s v x y d.result ms on d.ensures.meets (c.claim.ensures.lost c.if-not-claim.true)), c.claim.ensures.holds c.if-not-claim.true)

pub returns-then-not-claim-clause-alone : goal.returns-then-not-claim-clause-alone
returns-then-not-claim-clause-alone g c = let M = g.R.LinkedRoom.meets in let both = g.met.R.LinkedRoom.meets_both in let s = c.args.room.now in let k = c.count-first in let a = k.new.self in let v = c.walk-place.new.room in let w = c.walk-place.ensures in let p = c.walk-place.result in let key = c.args.key.now in let d = c.count-count in let x = d.new.self in let y = c.claim.new.self in
    let ms : List Met = met_count k.result ∷ w.walks.met in let on = both s a v (met_count k.result ∷ []) w.walks.met k.ensures.meets w.walks.on in let loads = entries_load w.walks.met w.walks.loads in count_never M g.R.LinkedRoom.lone g.met.R.LinkedRoom.lone_on g.met.R.LinkedRoom.own_count s y (counted_lost M g.met.R.LinkedRoom.meets_none both s v x y d.result ms on d.ensures.meets (c.claim.ensures.lost c.if-not-claim.true))

pub returns-then-not-claim-clause-whole : goal.returns-then-not-claim-clause-whole
returns-then-not-claim-clause-whole g c = let both = g.met.R.LinkedRoom.meets_both in let s = c.args.room.now in let k = c.count-first in let a = k.new.self in let v = c.walk-place.new.room in let w = c.walk-place.ensures in let p = c.walk-place.result in let key = c.args.key.now in let d = c.count-count in let x = d.new.self in let y = c.claim.new.self in
    let ms : List Met = met_count k.result ∷ w.walks.met in let on = both s a v (met_count k.result ∷ []) w.walks.met k.ensures.meets w.walks.on in let loads = entries_load w.walks.met w.walks.loads in let rest : List Met = ms ++ met_count d.result ∷ [] in let xon = both s v x ms (met_count d.result ∷ []) on d.ensures.meets in let lost = c.claim.ensures.lost c.if-not-claim.true in (rest ++ tried_count d.result lost.0 ∷ [], both s x y rest (tried_count d.result lost.0 ∷ []) xon lost.2)

pub returns-then-not-claim-clause-straight : goal.returns-then-not-claim-clause-straight
returns-then-not-claim-clause-straight g c = returns-then-not-claim-clause-alone g c

-- the link of the claimed entry

pub link_claimed-requires-clause-claimed : goal.link_claimed-requires-clause-claimed
link_claimed-requires-clause-claimed g c = subst (λ (n : ℕ). g.R.LinkedRoom.claims c.claim.new.self n c.args.key.now) (sym c.entries_in-entry.ensures) (c.claim.ensures.claimed c.if-not-claim.false)

pub link_claimed-requires-clause-points : goal.link_claimed-requires-clause-points
link_claimed-requires-clause-points g c = c.claim.ensures.points c.if-not-claim.false

pub link_claimed-requires-clause-placed : goal.link_claimed-requires-clause-placed
link_claimed-requires-clause-placed g c = let V = g.R.LinkedRoom.view in let M = g.R.LinkedRoom.meets in let both = g.met.R.LinkedRoom.meets_both in let s = c.args.room.now in let k = c.count-first in let a = k.new.self in let v = c.walk-place.new.room in let w = c.walk-place.ensures in let p = c.walk-place.result in let key = c.args.key.now in let d = c.count-count in let x = d.new.self in let y = c.claim.new.self in
    let still : V x ≡ V v = d.ensures.same (counted_later (V a) (V v) w.walks.later k.ensures.counted) in
    placed_later (V x) (V y) p.from p.link key c.claim.ensures.later (subst (λ (r : Linked). IsPlaced r p.from p.link key) (sym still) (placed_here V M both a v key p.from p.link p.order w.over w.order c.in_default.ensures))

module _ {S : Type 0} (view : S → Linked) (meets : S → S → List Met → Type 0) (both : (s t u : S) (a b : List Met) → meets s t a → meets t u b → meets s u (a ++ b)) where
  -- from the walk to the claim no step changed the link
  looked_claim : (from : Option ℕ) (link : ℕ) (s u v x y : S) (ms : List Met) (n e : ℕ) → meets s u ms → Looked meets from link u v → meets v x (met_count n ∷ []) → meets x y (tried_count n n ∷ stored_value e ∷ stored_link e link ∷ stored_key e ∷ []) → from ≢ Some e → Looked meets from link s y
  looked_claim from link s u v x y ms n e p o q r ne = looked_still view meets both from link s v y (met_count n ∷ tried_count n n ∷ stored_value e ∷ stored_link e link ∷ stored_key e ∷ []) (looked_since view meets both from link s u v ms p o)
      (both v x y (met_count n ∷ []) (tried_count n n ∷ stored_value e ∷ stored_link e link ∷ stored_key e ∷ []) q r) (tt, (tt, (tt, (ne, (tt, tt)))))

pub returns-clause-grown : goal.returns-clause-grown
returns-clause-grown g c = let V = g.R.LinkedRoom.view in let s = c.args.room.now in let k = c.count-first in let a = k.new.self in let v = c.walk-place.new.room in let d = c.count-count in let x = d.new.self in let y = c.claim.new.self in let z = c.link_claimed.new.room in
    grown_both (V s) (V y) (V z) (grown_both (V s) (V x) (V y) (grown_both (V s) (V v) (V x) (grown_both (V s) (V a) (V v) k.ensures.grown (grown_later (V a) (V v) c.walk-place.ensures.walks.later)) d.ensures.grown) (grown_later (V x) (V y) c.claim.ensures.later)) c.link_claimed.ensures.grown

pub returns-clause-added : goal.returns-clause-added
returns-clause-added g c = let V = g.R.LinkedRoom.view in let M = g.R.LinkedRoom.meets in let both = g.met.R.LinkedRoom.meets_both in let s = c.args.room.now in let k = c.count-first in let a = k.new.self in let v = c.walk-place.new.room in let w = c.walk-place.ensures in let p = c.walk-place.result in let key = c.args.key.now in let d = c.count-count in let x = d.new.self in let y = c.claim.new.self in let z = c.link_claimed.new.room in let entry : ℕ = entries_in d.result in
    let P = IsPassed Reached (Some key) in let Q = IsReached Reached (Some key) in let still : V x ≡ V v = d.ensures.same (counted_later (V a) (V v) w.walks.later k.ensures.counted) in
    let cut : IsCut (V y) p.from P = cut_grown (V v) (V y) p.from P (grown_both (V v) (V x) (V y) (grown_same (V v) (V x) still) (grown_later (V x) (V y) c.claim.ensures.later)) (over_cut V M both P Q p.from p.link a v w.over) in
    let apart : p.from ≢ Some entry = (λ e. g.met.R.LinkedRoom.apart y entry key (c.claim.ensures.claimed c.if-not-claim.false) (from_found (V y) p.from P cut entry e)) in
    let looked = looked_claim V M both p.from p.link s a v x y (met_count k.result ∷ []) d.result entry k.ensures.meets w.over.looked d.ensures.meets (c.claim.ensures.stored c.if-not-claim.false) apart in
    let ms : List Met = met_count k.result ∷ w.walks.met in let on = both s a v (met_count k.result ∷ []) w.walks.met k.ensures.meets w.walks.on in let loads = entries_load w.walks.met w.walks.loads in let rest : List Met = ms ++ met_count d.result ∷ [] in let xon = both s v x ms (met_count d.result ∷ []) on d.ensures.meets in let m = g.met.R.LinkedRoom.most_on s x rest xon in
    added_by V M g.R.LinkedRoom.holds g.R.LinkedRoom.free c.link_claimed.result c.entries_in-entry.result key c.args.most s z (let q = c.requires.most in let e = c.entries_in-entry.ensures in let f = c.if-entry-most.false in let h = d.ensures.room in omega arith) (c.link_claimed.ensures.linked s looked)

pub returns-clause-alone : goal.returns-clause-alone
returns-clause-alone g c = let V = g.R.LinkedRoom.view in let M = g.R.LinkedRoom.meets in let both = g.met.R.LinkedRoom.meets_both in let s = c.args.room.now in let k = c.count-first in let a = k.new.self in let v = c.walk-place.new.room in let w = c.walk-place.ensures in let p = c.walk-place.result in let key = c.args.key.now in let d = c.count-count in let x = d.new.self in let y = c.claim.new.self in let z = c.link_claimed.new.room in let entry : ℕ = entries_in d.result in
    let P = IsPassed Reached (Some key) in let Q = IsReached Reached (Some key) in let still : V x ≡ V v = d.ensures.same (counted_later (V a) (V v) w.walks.later k.ensures.counted) in
    let cut : IsCut (V y) p.from P = cut_grown (V v) (V y) p.from P (grown_both (V v) (V x) (V y) (grown_same (V v) (V x) still) (grown_later (V x) (V y) c.claim.ensures.later)) (over_cut V M both P Q p.from p.link a v w.over) in
    let apart : p.from ≢ Some entry = (λ e. g.met.R.LinkedRoom.apart y entry key (c.claim.ensures.claimed c.if-not-claim.false) (from_found (V y) p.from P cut entry e)) in
    let looked = looked_claim V M both p.from p.link s a v x y (met_count k.result ∷ []) d.result entry k.ensures.meets w.over.looked d.ensures.meets (c.claim.ensures.stored c.if-not-claim.false) apart in
    busy_never V M g.R.LinkedRoom.holds g.R.LinkedRoom.free (g.R.LinkedRoom.lone s → ⊥) c.link_claimed.result c.entries_in-entry.result key s z (c.link_claimed.ensures.linked s looked) (λ h. link_never M g.R.LinkedRoom.lone g.met.R.LinkedRoom.lone_on g.met.R.LinkedRoom.own_link s z h)

pub returns-clause-whole : goal.returns-clause-whole
returns-clause-whole g c = let both = g.met.R.LinkedRoom.meets_both in let s = c.args.room.now in let k = c.count-first in let a = k.new.self in let v = c.walk-place.new.room in let w = c.walk-place.ensures in let p = c.walk-place.result in let key = c.args.key.now in let d = c.count-count in let x = d.new.self in let y = c.claim.new.self in let z = c.link_claimed.new.room in let entry : ℕ = entries_in d.result in
    let ms : List Met = met_count k.result ∷ w.walks.met in let on = both s a v (met_count k.result ∷ []) w.walks.met k.ensures.meets w.walks.on in let loads = entries_load w.walks.met w.walks.loads in let rest : List Met = ms ++ met_count d.result ∷ [] in let xon = both s v x ms (met_count d.result ∷ []) on d.ensures.meets in let claim : List Met = tried_count d.result d.result ∷ stored_value entry ∷ stored_link entry p.link ∷ stored_key entry ∷ [] in let h = c.link_claimed.ensures.whole in
    ((rest ++ claim) ++ h.0, both s y z (rest ++ claim) h.0 (both s x y rest claim xon (c.claim.ensures.stored c.if-not-claim.false)) h.1)

pub returns-clause-straight : goal.returns-clause-straight
returns-clause-straight g c = let V = g.R.LinkedRoom.view in let M = g.R.LinkedRoom.meets in let both = g.met.R.LinkedRoom.meets_both in let s = c.args.room.now in let k = c.count-first in let a = k.new.self in let v = c.walk-place.new.room in let w = c.walk-place.ensures in let p = c.walk-place.result in let key = c.args.key.now in let d = c.count-count in let x = d.new.self in let y = c.claim.new.self in let z = c.link_claimed.new.room in let entry : ℕ = entries_in d.result in
    let P = IsPassed Reached (Some key) in let Q = IsReached Reached (Some key) in let still : V x ≡ V v = d.ensures.same (counted_later (V a) (V v) w.walks.later k.ensures.counted) in
    let cut : IsCut (V y) p.from P = cut_grown (V v) (V y) p.from P (grown_both (V v) (V x) (V y) (grown_same (V v) (V x) still) (grown_later (V x) (V y) c.claim.ensures.later)) (over_cut V M both P Q p.from p.link a v w.over) in
    let apart : p.from ≢ Some entry = (λ e. g.met.R.LinkedRoom.apart y entry key (c.claim.ensures.claimed c.if-not-claim.false) (from_found (V y) p.from P cut entry e)) in
    let looked = looked_claim V M both p.from p.link s a v x y (met_count k.result ∷ []) d.result entry k.ensures.meets w.over.looked d.ensures.meets (c.claim.ensures.stored c.if-not-claim.false) apart in
    let ms : List Met = met_count k.result ∷ w.walks.met in let on = both s a v (met_count k.result ∷ []) w.walks.met k.ensures.meets w.walks.on in let loads = entries_load w.walks.met w.walks.loads in let rest : List Met = ms ++ met_count d.result ∷ [] in let xon = both s v x ms (met_count d.result ∷ []) on d.ensures.meets in
    let over = over_since V M both P Q p.from p.link s a x (met_count k.result ∷ []) k.ensures.meets (tt, tt) (over_still V M both P Q p.from p.link a v x (met_count d.result ∷ []) w.over d.ensures.meets (tt, tt) still) in
    let tells = subst (λ (r : Linked). TellsOrder p.order r (Some key) p.link) (sym still) w.order in
    λ lone. straight_by V M both c.link_claimed.result c.entries_in-entry.result key p.from p.link d.result rest s x y z xon (tt, each_append IsLoad w.walks.met (met_count d.result ∷ []) loads (tt, tt))
    (over_key V M both s x key p.from p.link p.order over tells c.in_default.ensures) (none_has V M both s x key p.from p.link p.order over tells c.in_default.ensures) c.entries_in-entry.ensures (c.claim.ensures.stored c.if-not-claim.false) (c.link_claimed.ensures.straight s looked lone)
