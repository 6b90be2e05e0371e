use Rattle.std.proofs.Common.{◌≡◌, ◌≢◌, ℕ, ◌-◌, List, [], ◌∷◌, ◌++◌, Some, sym, refl, ap, ◌∙◌, subst, arith}
use Rattle.oak_model.specs.declared.limits.TheConstants.{GREATEST_ENTRIES}
use Rattle.oak_model.specs.Counts.{Each}
use Rattle.oak_model.specs.Key.{IsKeyBefore}
use Rattle.oak_model.proofs.Lists.{each_append}
use Rattle.link_search.specs.Linked.{Linked, Grown, IsFound, IsAboveFrom, IsCut, SkipsNone}
use Rattle.link_search.specs.Met.{Met, met_link, IsEntryLoad}
use Rattle.link_search.specs.Ties.{passes, order_to, IsPassed, IsReached, bytes_in_option}
use Rattle.link_search.specs.Walks.{ArePassed, StopsAt}
use Rattle.link_search.proofs.FindLaws.{less_reached, link_loads}
use Rattle.link_search.proofs.StepLaws.{cut_leads, entries_leave, entries_load, stops_grown}
use Rattle.link_search.proofs.WalkLaws.{later_none, later_both, later_same, grown_later, loads_append, no_loads, above_later, above_sooner, passed_later, tops_later, passed_more, passed_fewer, above_more, from_found, walks_on}
use Rattle.link_search.proofs.walking.walk.Goals as goal
use Rattle.link_search.proofs.walking.walk.Goals.{then-link-eq0-via-then-link-eq0, then-link-eq0-via-else-link-eq0+then-link-seen}

pub loop-tie-init : goal.loop-tie-init
loop-tie-init g c = let s = c.args.room.now in record {
  walks = record { pin = c.requires.pinned; later = later_none (g.R.LinkedRoom.view s); met = []; on = g.met.R.LinkedRoom.meets_none s; loads = tt; passed = []; are = tt; few = let n = no_loads in omega arith };
  many = refl;
  cut = c.requires.behind;
  since = λ q h. h;
  tops = λ q h. tt;
}

pub link-link-requires-clause-leads : goal.link-link-requires-clause-leads
link-link-requires-clause-leads g c = let i = c.loop-tie.invariant in cut_leads (g.R.LinkedRoom.view c.loop-tie.room) c.loop-tie.before (IsPassed c.args.tie (bytes_in_option c.args.bound)) i.cut

-- the link names none, or is the one that was seen

pub returns-then-link-eq0-clause-walks : goal.returns-then-link-eq0-clause-walks
returns-then-link-eq0-clause-walks g c = let k = c.link-link in let from = c.loop-tie.before in
    walks_on g.met.R.LinkedRoom.meets_both 0 1 c.args.room.now c.loop-tie.room k.new.self c.loop-tie.invariant.walks (met_link from k.result ∷ []) k.ensures.pinned k.ensures.later k.ensures.meets (tt, tt) (let n = link_loads from k.result [] in let z = no_loads in omega arith)

pub returns-then-link-eq0-clause-over : goal.returns-then-link-eq0-clause-over
returns-then-link-eq0-clause-over g c = let V = g.R.LinkedRoom.view in let k = c.link-link in let s = c.args.room.now in let l = c.loop-tie.room in let t = k.new.self in let i = c.loop-tie.invariant in let b = bytes_in_option c.args.bound in
    let grown : Grown (V s) (V t) = grown_later (V s) (V t) (later_both (V s) (V l) (V t) i.walks.later k.ensures.later) in
    let stops : StopsAt (V t) b k.result = elim c.then-link-eq0.branch [
      | then-link-eq0-via-then-link-eq0 w ↦ (λ ne. absurd (ne w.if-link-eq0.true))
      | then-link-eq0-via-else-link-eq0+then-link-seen w ↦ subst (StopsAt (V t) b) (sym w.if-link-seen.true) (stops_grown (V s) (V t) b c.args.seen grown c.requires.seen)
    ] in record {
      looked = record { moment = l; before = i.walks.met; between = []; start = i.walks.on; on = k.ensures.meets; kept = tt };
      loads = entries_load i.walks.met i.walks.loads;
      still = tt;
      cut = i.cut;
      grown = grown_later (V l) (V t) k.ensures.later;
      leads = λ ne. let h = stops ne in (h.0, ap (passes c.args.tie) h.1 ∙ less_reached c.args.tie);
      none = k.ensures.none;
    }

pub returns-then-link-eq0-clause-order : goal.returns-then-link-eq0-clause-order
returns-then-link-eq0-clause-order g c = let V = g.R.LinkedRoom.view in let k = c.link-link in let s = c.args.room.now in let l = c.loop-tie.room in let t = k.new.self in let i = c.loop-tie.invariant in let b = bytes_in_option c.args.bound in
    let grown : Grown (V s) (V t) = grown_later (V s) (V t) (later_both (V s) (V l) (V t) i.walks.later k.ensures.later) in
    let stops : StopsAt (V t) b k.result = elim c.then-link-eq0.branch [
      | then-link-eq0-via-then-link-eq0 w ↦ (λ ne. absurd (ne w.if-link-eq0.true))
      | then-link-eq0-via-else-link-eq0+then-link-seen w ↦ subst (StopsAt (V t) b) (sym w.if-link-seen.true) (stops_grown (V s) (V t) b c.args.seen grown c.requires.seen)
    ] in record { named = λ ne. (stops ne).1; none = λ z. refl }

-- the entry that it names is not passed

pub returns-then-not-passes-clause-walks : goal.returns-then-not-passes-clause-walks
returns-then-not-passes-clause-walks g c = let V = g.R.LinkedRoom.view in let k = c.link-link in let o = c.order_to-order in let from = c.loop-tie.before in let t = k.new.self in let u = o.new.room in let ms = o.ensures.loads in
    walks_on g.met.R.LinkedRoom.meets_both 0 1 c.args.room.now t u (walks_on g.met.R.LinkedRoom.meets_both 0 0 c.args.room.now c.loop-tie.room t c.loop-tie.invariant.walks (met_link from k.result ∷ []) k.ensures.pinned k.ensures.later k.ensures.meets (tt, tt) (let n = link_loads from k.result [] in let z = no_loads in omega arith))
    ms.0 o.ensures.pinned (later_same (V t) (V u) o.ensures.same) ms.1 ms.2 (let f = ms.3 in omega arith)

pub returns-then-not-passes-clause-over : goal.returns-then-not-passes-clause-over
returns-then-not-passes-clause-over g c = let V = g.R.LinkedRoom.view in let k = c.link-link in let o = c.order_to-order in let l = c.loop-tie.room in let i = c.loop-tie.invariant in let from = c.loop-tie.before in let t = k.new.self in let u = o.new.room in let ms = o.ensures.loads in
    let q : Linked = V t in let n : ℕ = k.result - 1 in let tie = c.args.tie in let b = bytes_in_option c.args.bound in let same = sym o.ensures.same in
    let ne : k.result ≢ 0 = (λ e. let f = c.if-link-eq0.false in absurd (omega arith)) in
    let reached : IsReached tie b (q.key n) = ap (passes tie) (sym o.ensures.order) ∙ (sym c.passes.ensures ∙ c.if-not-passes.true) in record {
      looked = record { moment = l; before = i.walks.met; between = ms.0; start = i.walks.on; on = g.met.R.LinkedRoom.meets_both l t u (met_link from k.result ∷ []) ms.0 k.ensures.meets ms.1; kept = entries_leave from ms.0 ms.2 };
      loads = entries_load i.walks.met i.walks.loads;
      still = ms.4;
      cut = i.cut;
      grown = grown_later (V l) (V u) (later_both (V l) q (V u) k.ensures.later (later_same q (V u) o.ensures.same));
      leads = λ z. subst (λ (x : Linked). IsFound x n × IsReached tie b (x.key n)) same (k.ensures.named ne, reached);
      none = subst (λ (x : Linked). SkipsNone x from k.result) same k.ensures.none;
    }

pub returns-then-not-passes-clause-order : goal.returns-then-not-passes-clause-order
returns-then-not-passes-clause-order g c = let V = g.R.LinkedRoom.view in let k = c.link-link in let o = c.order_to-order in let n : ℕ = k.result - 1 in let b = bytes_in_option c.args.bound in record {
  named = λ ne. subst (λ (x : Linked). order_to b (x.key n) ≡ o.result) (sym o.ensures.same) (sym o.ensures.order);
  none = λ z. let f = c.if-link-eq0.false in absurd (omega arith);
}

-- it is passed

pub overflow_add-passed : goal.overflow_add-passed
overflow_add-passed g c = let V = g.R.LinkedRoom.view in let i = c.loop-tie.invariant in let f = passed_fewer (V c.loop-tie.room) c.args.from (IsPassed c.args.tie (bytes_in_option c.args.bound)) GREATEST_ENTRIES (g.met.R.LinkedRoom.few c.loop-tie.room i.walks.pin) i.walks.passed i.walks.are in let m = i.many in omega arith

pub loop-tie-smaller : goal.loop-tie-smaller
loop-tie-smaller g c = let V = g.R.LinkedRoom.view in let i = c.loop-tie.invariant in let k = c.link-link in let o = c.order_to-order in let t = k.new.self in let r : Linked = V c.loop-tie.room in let q : Linked = V t in let n : ℕ = k.result - 1 in let from = c.loop-tie.before in
    let tie = c.args.tie in let b = bytes_in_option c.args.bound in let P = IsPassed tie b in
    let ne : k.result ≢ 0 = (λ e. let f = c.if-link-eq0.false in absurd (omega arith)) in let ff = from_found r from P i.cut in
    let here : P (q.key n) = ap (passes tie) (sym o.ensures.order) ∙ (sym c.passes.ensures ∙ c.if-not-passes.false) in
    let more = passed_more q c.args.from from P n i.walks.passed (k.ensures.named ne) (k.ensures.above ne) here (λ z h. above_later r q k.ensures.later c.args.from z (i.since z (above_sooner r q k.ensures.later from z ff h)))
    (λ z h. tops_later r q k.ensures.later c.args.from P z i.walks.passed i.walks.are (i.tops z (above_sooner r q k.ensures.later from z ff h))) (passed_later r q k.ensures.later c.args.from P i.walks.passed i.walks.are) in
    let f = passed_fewer q c.args.from P GREATEST_ENTRIES (g.met.R.LinkedRoom.few t k.ensures.pinned) (n ∷ i.walks.passed) more in let m = i.many in omega arith

pub loop-tie-preserved : goal.loop-tie-preserved
loop-tie-preserved g c = let V = g.R.LinkedRoom.view in let i = c.loop-tie.invariant in let k = c.link-link in let o = c.order_to-order in let s = c.args.room.now in let l = c.loop-tie.room in let t = k.new.self in let u = o.new.room in let r : Linked = V l in let q : Linked = V t in let n : ℕ = k.result - 1 in let from = c.loop-tie.before in
    let tie = c.args.tie in let b = bytes_in_option c.args.bound in let P : List ℕ → Type 0 = IsPassed tie b in let ms = o.ensures.loads in
    let ne : k.result ≢ 0 = (λ e. let f = c.if-link-eq0.false in absurd (omega arith)) in let ff = from_found r from P i.cut in
    let here : P (q.key n) = ap (passes tie) (sym o.ensures.order) ∙ (sym c.passes.ensures ∙ c.if-not-passes.false) in
    let above = k.ensures.above ne in let found = k.ensures.named ne in
    let since : (z : List ℕ) → IsAboveFrom q from z → IsAboveFrom q c.args.from z = (λ z h. above_later r q k.ensures.later c.args.from z (i.since z (above_sooner r q k.ensures.later from z ff h))) in
    let tops : (z : List ℕ) → IsAboveFrom q from z → Each (λ j. IsKeyBefore (q.key j) z) i.walks.passed = (λ z h. tops_later r q k.ensures.later c.args.from P z i.walks.passed i.walks.are (i.tops z (above_sooner r q k.ensures.later from z ff h))) in
    let more = passed_more q c.args.from from P n i.walks.passed found above here since tops (passed_later r q k.ensures.later c.args.from P i.walks.passed i.walks.are) in
    let same = sym o.ensures.same in let steps : List Met = met_link from k.result ∷ ms.0 in let a = loads_append i.walks.met steps in let one = link_loads from k.result ms.0 in let two = ms.3 in let few = i.walks.few in let many = i.many in record {
      walks = record {
        pin = o.ensures.pinned;
        later = later_both (V s) q (V u) (later_both (V s) r q i.walks.later k.ensures.later) (later_same q (V u) o.ensures.same);
        met = i.walks.met ++ steps;
        on = g.met.R.LinkedRoom.meets_both s l u i.walks.met steps i.walks.on (g.met.R.LinkedRoom.meets_both l t u (met_link from k.result ∷ []) ms.0 k.ensures.meets ms.1);
        loads = each_append IsEntryLoad i.walks.met steps i.walks.loads (tt, ms.2);
        passed = n ∷ i.walks.passed;
        are = subst (λ (x : Linked). ArePassed x c.args.from P (n ∷ i.walks.passed)) same more;
        few = omega arith;
      };
      many = omega arith;
      cut = subst (λ (x : Linked). IsCut x (Some n) P) same (found, here);
      since = subst (λ (x : Linked). (z : List ℕ) → IsAboveFrom x (Some n) z → IsAboveFrom x c.args.from z) same (λ z h. since z (above_more q from n z above h));
      tops = subst (λ (x : Linked). (z : List ℕ) → IsAboveFrom x (Some n) z → Each (λ j. IsKeyBefore (x.key j) z) (n ∷ i.walks.passed)) same (λ z h. (h.1, tops z (above_more q from n z above h)));
    }
