-- From the halved prefix to the walk, and the loads of both.
use Rattle.std.proofs.Common.{◌≡◌, ℕ, ◌+◌, ◌-◌, ◌<◌, ◌≤◌, true, false, List, [], ◌∷◌, ◌++◌, Option, Some, None, MatchOption, refl, ap, ◌∙◌, subst, arith}
use mathlib.Core.Logic.{dite}
use native.Mathlib.Decide.{ℕ_discrete, dec_lt}
use Rattle.std.specs.declared.cmp.Ordering.TheVariants.{Less, Equal, Greater}
use Rattle.oak_model.specs.Counts.{Each}
use Rattle.oak_model.specs.Key.{key_cmp, IsKeyBefore}
use Rattle.oak_model.proofs.Lists.{each_append}
use Rattle.chunk_core.specs.LinkedEntries.{entries_in}
use Rattle.link_search.specs.declared.ties.Tie.{Tie}
use Rattle.link_search.specs.declared.ties.Tie.TheVariants.{Passed, Reached}
use Rattle.link_search.specs.Bits.{bits}
use Rattle.link_search.specs.Finds.{IsAt, IsBetween, LoadsFew}
use Rattle.link_search.specs.Linked.{Linked, Later, FrontStands, IsAboveFrom, IsFound, IsFront, IsCut, IsBare, IsSplit}
use Rattle.link_search.specs.Met.{Met, met_count, met_link, key_loads, IsLoad, IsEntryLoad}
use Rattle.link_search.specs.Ties.{passes, lower_at, IsPassed}
use Rattle.link_search.specs.Walks.{Walks, StopsAt}
use Rattle.link_search.proofs.OrderLaws.{before_trans, not_before, not_both, turned_back, tied}
use Rattle.link_search.proofs.StepLaws.{entries_load}
use Rattle.link_search.proofs.WalkLaws.{above_sooner, cut_grown, from_found, grown_later, loads_append, no_loads, later_same, passed_later, passed_few}

one_count : (n : ℕ) (ms : List Met) → key_loads (met_count n ∷ ms) ≡ key_loads ms
unfolding key_loads
one_count n ms = refl

pub link_loads : (f : Option ℕ) (n : ℕ) (ms : List Met) → key_loads (met_link f n ∷ ms) ≡ key_loads ms
unfolding key_loads
link_loads f n ms = refl

-- the last entry before the place, of a prefix of which the first n lie before it
module _ (r : Linked) (front : IsFront r) (P : List ℕ → Type 0) (n : ℕ) (split : IsSplit r P n) where
  pub cut_at : (from : Option ℕ) → MatchOption from (n ≡ 0) (λ j. n ≡ j + 1) → IsCut r from P
  cut_at None e = tt
  cut_at (Some j) e = let w = split.within in (front.found j (omega arith), split.lower j (omega arith))

  pub bare_at : (from : Option ℕ) → MatchOption from (n ≡ 0) (λ j. n ≡ j + 1) → IsBare r from P
  bare_at None e j l a p = split.upper j (omega arith) l p
  bare_at (Some m) e j l a p = dite (dec_lt j n)
      (λ less. dite (ℕ_discrete j m) (λ same. not_before (r.key m) (subst (λ (t : ℕ). IsKeyBefore (r.key m) (r.key t)) same a.1))
      (λ ne. let w = split.within in not_before (r.key m) (before_trans (r.key m) (r.key j) (r.key m) a.1 (front.rises j m (omega arith) (omega arith)))))
      (λ no. split.upper j (omega arith) l p)

greater_passed : (tie : Tie) → passes tie Greater ≡ true
greater_passed Passed = refl
greater_passed Reached = refl

pub less_reached : (tie : Tie) → passes tie Less ≡ false
less_reached Passed = refl
less_reached Reached = refl

lower_passed : (tie : Tie) (k q : List ℕ) → IsKeyBefore q k → IsPassed tie (Some k) q
lower_passed tie k q l = ap (passes tie) (turned_back k q l) ∙ greater_passed tie

upper_not : (tie : Tie) (k q : List ℕ) → IsKeyBefore k q → IsPassed tie (Some k) q → ⊥
upper_not tie k q l p = not_both (passes tie (key_cmp k q)) p (ap (passes tie) l ∙ less_reached tie)

-- of all entries of the prefix, where the place is behind all
pub split_all : (r : Linked) (tie : Tie) (n : ℕ) → n ≡ r.prefix → IsSplit r (IsPassed tie None) n
split_all r tie n e = record { within = omega arith; lower = λ j l. greater_passed tie; upper = λ j a b p. absurd (omega arith) }

pub split_between : (r : Linked) (tie : Tie) (k : List ℕ) (n : ℕ) → IsBetween r k n → IsSplit r (IsPassed tie (Some k)) n
split_between r tie k n b = record { within = b.within; lower = λ j l. lower_passed tie k (r.key j) (b.below j l); upper = λ j a l p. upper_not tie k (r.key j) (b.above j a l) p }

-- a walk stops at the entry of the prefix behind the smaller ones
pub stops_behind : (r : Linked) (front : IsFront r) (k : List ℕ) (n : ℕ) → IsBetween r k n → (prefix link : ℕ) → prefix ≡ r.prefix → (n < prefix → link ≡ n + 1) → (prefix ≤ n → link ≡ 0) → StopsAt r (Some k) link
stops_behind r front k n b prefix link e named none some = dite (dec_lt n prefix)
    (λ less. let is = named less in let at : n ≡ link - 1 = omega arith in
    (subst (IsFound r) at (front.found n (omega arith)), subst (λ (j : ℕ). IsKeyBefore k (r.key j)) at (b.above n (omega arith) (omega arith))))
    (λ no. absurd (some (none (omega arith))))

module _ (r : Linked) (front : IsFront r) (k : List ℕ) (i : ℕ) (at_i : IsAt r k i) where
  before_i : (j : ℕ) → j < i → IsKeyBefore (r.key j) k
  before_i j l = subst (IsKeyBefore (r.key j)) at_i.1 (front.rises j i l at_i.0)

  behind_i : (j : ℕ) → i < j → j < r.prefix → IsKeyBefore k (r.key j)
  behind_i j l m = subst (λ (q : List ℕ). IsKeyBefore q (r.key j)) at_i.1 (front.rises i j l m)

  at_itself : (j : ℕ) → j ≡ i → key_cmp k (r.key j) ≡ Equal
  at_itself j e = tied k (r.key j) (ap r.key e ∙ at_i.1)

  pub split_at : (tie : Tie) → IsSplit r (IsPassed tie (Some k)) (lower_at tie i)
  split_at Passed = record {
    within = let l = at_i.0 in omega arith;
    lower = λ j l. dite (ℕ_discrete j i) (λ e. ap (passes Passed) (at_itself j e)) (λ ne. lower_passed Passed k (r.key j) (before_i j (omega arith)));
    upper = λ j a l p. upper_not Passed k (r.key j) (behind_i j (omega arith) l) p;
  }
  split_at Reached = record {
    within = let l = at_i.0 in omega arith;
    lower = λ j l. lower_passed Reached k (r.key j) (before_i j l);
    upper = λ j a l p. dite (ℕ_discrete j i) (λ e. not_both (passes Reached (key_cmp k (r.key j))) p (ap (passes Reached) (at_itself j e))) (λ ne. upper_not Reached k (r.key j) (behind_i j (omega arith) l) p);
  }

-- so it stays, as the prefix does
module _ (r s : Linked) (l : Later r s) where
  bare_later : (from : Option ℕ) (P : List ℕ → Type 0) → FrontStands r → ((i : ℕ) → from ≡ Some i → IsFound r i) → IsBare r from P → IsBare s from P
  bare_later from P front f b j lt a c = let lj : j < r.prefix = subst (λ (p : ℕ). j < p) l.prefix lt in let e = l.key j (front j lj) in
      b j lj (subst (IsAboveFrom r from) e (above_sooner r s l from (s.key j) f a)) (subst P e c)

  front_later : FrontStands r → FrontStands s
  front_later front j lt = l.found j (front j (subst (λ (p : ℕ). j < p) l.prefix lt))

-- the loads of a search, a walk and of the count before and behind
module _ {S : Type 0} (pinned : S → Type 0) (view : S → Linked) (meets : S → S → List Met → Type 0) (both : (s t u : S) (a b : List Met) → meets s t a → meets t u b → meets s u (a ++ b)) where
  pub few_at : (s t u : S) (c n : ℕ) (ms : List Met) → meets s t (met_count c ∷ []) → meets t u ms → Each IsEntryLoad ms → key_loads ms ≤ bits n → n ≡ (view u).prefix → LoadsFew meets (view u) s u
  few_at s t u c n ms a b loads few e = record { word = c; before = []; behind = ms; on = both s t u (met_count c ∷ []) ms a b; loads = tt; last = loads; few = let o = one_count c ms in let p = ap bits e in omega arith }

  pub few_linked : (s t u : S) (c : ℕ) (from : Option ℕ) (n : ℕ) → meets s t (met_count c ∷ []) → meets t u (met_link from n ∷ []) → LoadsFew meets (view u) s u
  few_linked s t u c from n a b = record { word = c; before = []; behind = met_link from n ∷ []; on = both s t u (met_count c ∷ []) (met_link from n ∷ []) a b; loads = tt; last = (tt, tt); few = let o = one_count c (met_link from n ∷ []) in let p = link_loads from n [] in let z = no_loads in omega arith }

  pub few_walked : (from : Option ℕ) (P : List ℕ → Type 0) (s t u v x : S) (c d n : ℕ) (ms : List Met) → meets s t (met_count c ∷ []) → meets t u ms → Each IsEntryLoad ms → key_loads ms ≤ bits n → FrontStands (view u) → IsCut (view u) from P → IsBare (view u) from P → (w : Walks pinned view meets from P 1 u v) → meets v x (met_count d ∷ []) → view x ≡ view v → ((i : ℕ) → IsFound (view x) i → i < entries_in d) → n ≡ (view x).prefix → LoadsFew meets (view x) s x
  few_walked from P s t u v x c d n ms a b loads few front cut bare w on same within e = record {
    word = d;
    before = (met_count c ∷ ms) ++ w.met;
    behind = [];
    on = both s v x ((met_count c ∷ ms) ++ w.met) (met_count d ∷ []) (both s u v (met_count c ∷ ms) w.met (both s t u (met_count c ∷ []) ms a b) w.on) on;
    loads = each_append IsLoad (met_count c ∷ ms) w.met (tt, entries_load ms loads) (entries_load w.met w.loads);
    last = tt;
    few = let o = one_count c ms in let q = one_count d [] in let z = no_loads in let l = loads_append ((met_count c ∷ ms) ++ w.met) (met_count d ∷ []) in let k = loads_append (met_count c ∷ ms) w.met in let f = w.few in
        let none = bare_later (view v) (view x) (later_same (view v) (view x) same) from P (front_later (view u) (view v) w.later front) (from_found (view v) from P (cut_grown (view u) (view v) from P (grown_later (view u) (view v) w.later) cut))
        (bare_later (view u) (view v) w.later from P front (from_found (view u) from P cut) bare) in
        let g = passed_few (view x) from P (view x).prefix none (entries_in d) within w.passed (passed_later (view v) (view x) (later_same (view v) (view x) same) from P w.passed w.are) in let p = ap bits e in omega arith;
  }
