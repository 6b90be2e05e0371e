-- A link that leads over a place in the order of keys, and steps before it and behind.
use Rattle.std.proofs.Common.{◌≡◌, ◌≢◌, ℕ, ◌-◌, List, ◌∷◌, ◌++◌, Option, Some, None, MatchOption, sym, ◌∙◌, subst, false, arith}
use Rattle.std.specs.Ordering.{is_eq}
use Rattle.std.specs.declared.cmp.Ordering.{Ordering}
use Rattle.std.specs.declared.cmp.Ordering.TheVariants.{Less}
use Rattle.oak_model.specs.Counts.{Each}
use Rattle.oak_model.specs.Key.{IsKeyBefore}
use Rattle.oak_model.proofs.Lists.{each_append, each_map}
use Rattle.link_search.specs.declared.ties.Tie.TheVariants.{Reached}
use Rattle.link_search.specs.declared.finding.Sought.TheVariants.{Missing}
use Rattle.link_search.specs.Finds.{IsEntryOf, Misses, Finds}
use Rattle.link_search.specs.Linked.{Linked, Grown, Later, BelongsBehind, IsFound, IsAboveFrom, IsBelowTo, IsCut, IsPlaced, SkipsNone}
use Rattle.link_search.specs.Met.{Met, met_count, met_link, met_key, tried_count, tried_link, stored_value, stored_link, stored_key, gave_up, IsLoad, IsEntryLoad, LoadsNoLink, LeavesLink, Looked}
use Rattle.link_search.specs.Ties.{IsPassed, IsReached, order_to}
use Rattle.link_search.specs.Walks.{StepsOver, StopsAt, TellsOrder, IsTied}
use Rattle.link_search.proofs.OrderLaws.{before_trans, below_passed, passed_below, reached_above, same_order, less_is_no}
use Rattle.link_search.proofs.WalkLaws.{above_later, grown_both, grown_later, grown_same, cut_grown}

entry_leaves_link : (from : Option ℕ) (m : Met) → IsEntryLoad m → LeavesLink from m
entry_leaves_link from (met_count n) h = tt
entry_leaves_link from (met_link f n) h = tt
entry_leaves_link from (met_key i) h = tt
entry_leaves_link from (tried_count o n) h = absurd h
entry_leaves_link from (tried_link f i o n) h = absurd h
entry_leaves_link from (stored_value i) h = absurd h
entry_leaves_link from (stored_link i l) h = absurd h
entry_leaves_link from (stored_key i) h = absurd h
entry_leaves_link from (gave_up i) h = absurd h

other_leaves_link : (from : Option ℕ) (m : Met) → LoadsNoLink m → LeavesLink from m
other_leaves_link from (met_count n) h = tt
other_leaves_link from (met_link f n) h = absurd h
other_leaves_link from (met_key i) h = tt
other_leaves_link from (tried_count o n) h = absurd h
other_leaves_link from (tried_link f i o n) h = absurd h
other_leaves_link from (stored_value i) h = absurd h
other_leaves_link from (stored_link i l) h = absurd h
other_leaves_link from (stored_key i) h = absurd h
other_leaves_link from (gave_up i) h = absurd h

-- loads leave a link
pub entries_leave : (from : Option ℕ) (ms : List Met) → Each IsEntryLoad ms → Each (LeavesLink from) ms
entries_leave from ms h = each_map IsEntryLoad (LeavesLink from) ms (entry_leaves_link from) h

entry_is_load : (m : Met) → IsEntryLoad m → IsLoad m
entry_is_load (met_count n) h = tt
entry_is_load (met_link f n) h = tt
entry_is_load (met_key i) h = tt
entry_is_load (tried_count o n) h = absurd h
entry_is_load (tried_link f i o n) h = absurd h
entry_is_load (stored_value i) h = absurd h
entry_is_load (stored_link i l) h = absurd h
entry_is_load (stored_key i) h = absurd h
entry_is_load (gave_up i) h = absurd h

pub entries_load : (ms : List Met) → Each IsEntryLoad ms → Each IsLoad ms
entries_load ms h = each_map IsEntryLoad IsLoad ms entry_is_load h

-- an entry that lies before a place leads on
pub cut_leads : (r : Linked) (from : Option ℕ) (P : List ℕ → Type 0) → IsCut r from P → MatchOption from (Unit {0}) (λ i. IsFound r i)
cut_leads r None P h = tt
cut_leads r (Some i) P h = h.0

pub cut_as : (r : Linked) (from : Option ℕ) (P Q : List ℕ → Type 0) → ((q : List ℕ) → P q → Q q) → IsCut r from P → IsCut r from Q
cut_as r None P Q f h = tt
cut_as r (Some i) P Q f h = (h.0, f (r.key i) h.1)

pub cut_below : (r : Linked) (from : Option ℕ) (k : List ℕ) → IsCut r from (λ (q : List ℕ). IsKeyBefore q k) → IsAboveFrom r from k
cut_below r None k h = tt
cut_below r (Some i) k h = h

pub cut_is_above : (r : Linked) (from : Option ℕ) (k : List ℕ) → IsCut r from (IsPassed Reached (Some k)) → IsAboveFrom r from k
cut_is_above r from k h = cut_below r from k (cut_as r from (IsPassed Reached (Some k)) (λ (q : List ℕ). IsKeyBefore q k) (passed_below k) h)

-- a key above an entry is sought behind it
pub above_is_cut : (r : Linked) (from : Option ℕ) (k : List ℕ) → IsAboveFrom r from k → IsCut r from (IsPassed Reached (Some k))
above_is_cut r None k h = tt
above_is_cut r (Some i) k h = (h.0, below_passed k (r.key i) h.1)

-- and below one that a link names
pub below_grown : (r s : Linked) (link : ℕ) (k : List ℕ) → Grown r s → IsBelowTo r link k → IsBelowTo s link k
below_grown r s link k g b ne = let h = b ne in (g.found (link - 1) h.0, subst (IsKeyBefore k) (sym (g.key (link - 1) h.0)) h.1)

pub stops_grown : (r s : Linked) (bound : Option (List ℕ)) (link : ℕ) → Grown r s → StopsAt r bound link → StopsAt s bound link
stops_grown r s bound link g b ne = let h = b ne in (g.found (link - 1) h.0, subst (λ (q : List ℕ). order_to bound q ≡ Less) (sym (g.key (link - 1) h.0)) h.1)

pub placed_later : (r s : Linked) (from : Option ℕ) (link : ℕ) (k : List ℕ) → Later r s → IsPlaced r from link k → IsPlaced s from link k
placed_later r s from link k l p = record {
  behind = above_later r s l from k p.behind;
  before = below_grown r s link k (grown_later r s l) p.before;
}

-- the entry of the key, which a link names
pub tied_entry : (r : Linked) (k : List ℕ) (order : Ordering) (i link : ℕ) → (link ≢ 0 → IsFound r (link - 1)) → TellsOrder order r (Some k) link → IsTied order i link → IsEntryOf r k i
tied_entry r k order i link found t e = subst (IsEntryOf r k) (let q = e.1 in let s : link - 1 ≡ i = omega arith in s) (found ne, same_order k (r.key (link - 1)) order (t.named ne) e.0)
  where
    ne : link ≢ 0
    ne z = less_is_no order (t.none z) e.0

pub entry_grown : (r s : Linked) (k : List ℕ) (i : ℕ) → Grown r s → IsEntryOf r k i → IsEntryOf s k i
entry_grown r s k i g h = (g.found i h.0, g.key i h.0 ∙ h.1)

module _ {S : Type 0} (view : S → Linked) (meets : S → S → List Met → Type 0) (both : (s t u : S) (a b : List Met) → meets s t a → meets t u b → meets s u (a ++ b)) where
  -- it was looked at before steps that left it
  abbrev pub looked_still : (from : Option ℕ) (link : ℕ) (s t u : S) (ms : List Met) → Looked meets from link s t → meets t u ms → Each (LeavesLink from) ms → Looked meets from link s u
  looked_still from link s t u ms o on kept = record {
    moment = o.moment;
    before = o.before;
    between = o.between ++ ms;
    start = o.start;
    on = both o.moment t u (met_link from link ∷ o.between) ms o.on on;
    kept = each_append (LeavesLink from) o.between ms o.kept kept;
  }

  -- and behind other steps
  abbrev pub looked_since : (from : Option ℕ) (link : ℕ) (r s t : S) (ms : List Met) → meets r s ms → Looked meets from link s t → Looked meets from link r t
  looked_since from link r s t ms on o = record {
    moment = o.moment;
    before = ms ++ o.before;
    between = o.between;
    start = both r s o.moment ms o.before on o.start;
    on = o.on;
    kept = o.kept;
  }

  -- all steps up to there
  pub looked_whole : (from : Option ℕ) (link : ℕ) (s t : S) (o : Looked meets from link s t) → meets s t (o.before ++ met_link from link ∷ o.between)
  looked_whole from link s t o = both s o.moment t o.before (met_link from link ∷ o.between) o.start o.on

  module _ (P Q : List ℕ → Type 0) (from : Option ℕ) (link : ℕ) where
    open_leads : (r s : Linked) → s ≡ r → (link ≢ 0 → IsFound r (link - 1) × Q (r.key (link - 1))) → link ≢ 0 → IsFound s (link - 1) × Q (s.key (link - 1))
    open_leads r s e f ne = subst (λ (x : Linked). IsFound x (link - 1) × Q (x.key (link - 1))) (sym e) (f ne)

    -- loads behind that find no more
    pub over_still : (s t u : S) (ms : List Met) → StepsOver view meets P Q from link s t → meets t u ms → Each LoadsNoLink ms → view u ≡ view t → StepsOver view meets P Q from link s u
    over_still s t u ms o on kept e = record {
      looked = looked_still from link s t u ms o.looked on (each_map LoadsNoLink (LeavesLink from) ms (other_leaves_link from) kept);
      loads = o.loads;
      still = each_append LoadsNoLink o.looked.between ms o.still kept;
      cut = o.cut;
      grown = grown_both (view o.looked.moment) (view t) (view u) o.grown (grown_same (view t) (view u) e);
      leads = open_leads (view t) (view u) e o.leads;
      none = subst (λ (x : Linked). SkipsNone x from link) (sym e) o.none;
    }

    -- loads before
    pub over_since : (r s t : S) (ms : List Met) → meets r s ms → Each IsLoad ms → StepsOver view meets P Q from link s t → StepsOver view meets P Q from link r t
    over_since r s t ms on are o = record {
      looked = looked_since from link r s t ms on o.looked;
      loads = each_append IsLoad ms o.looked.before are o.loads;
      still = o.still;
      cut = o.cut;
      grown = o.grown;
      leads = o.leads;
      none = o.none;
    }

    -- where the entry stands in the end
    pub over_cut : (s t : S) (o : StepsOver view meets P Q from link s t) → IsCut (view t) from P
    over_cut s t o = cut_grown (view o.looked.moment) (view t) from P o.grown o.cut

  -- in other words
  pub over_as : (P Q P' Q' : List ℕ → Type 0) (from : Option ℕ) (link : ℕ) (s t : S) → ((q : List ℕ) → P q → P' q) → ((q : List ℕ) → Q q → Q' q) → StepsOver view meets P Q from link s t → StepsOver view meets P' Q' from link s t
  over_as P Q P' Q' from link s t f g o = record {
    looked = o.looked;
    loads = o.loads;
    still = o.still;
    cut = cut_as (view o.looked.moment) from P P' f o.cut;
    grown = o.grown;
    leads = λ ne. let h = o.leads ne in (h.0, g ((view t).key (link - 1)) h.1);
    none = o.none;
  }

  module _ (s t : S) (k : List ℕ) (from : Option ℕ) (link : ℕ) (order : Ordering) (o : StepsOver view meets (IsPassed Reached (Some k)) (IsReached Reached (Some k)) from link s t) (tells : TellsOrder order (view t) (Some k) link) where
    below_link : is_eq order ≡ false → IsBelowTo (view t) link k
    below_link e ne = let h = o.leads ne in (h.0, reached_above k ((view t).key (link - 1)) order h.1 (tells.named ne) e)

    -- a new key belongs there
    above_here : IsAboveFrom (view t) from k
    above_here = cut_is_above (view t) from k (over_cut (IsPassed Reached (Some k)) (IsReached Reached (Some k)) from link s t o)

    pub placed_here : is_eq order ≡ false → IsPlaced (view t) from link k
    placed_here e = record { behind = above_here; before = below_link e }

    -- and none of the entries found lies between
    belongs_here : is_eq order ≡ false → BelongsBehind (view t) from k
    belongs_here e = record { above = above_here; next = λ j f a l. o.none j f a (λ ne. let h = below_link e ne in (h.0, before_trans ((view t).key j) k ((view t).key (link - 1)) l h.1)) }

    -- none of the entries found has the key
    pub none_has : is_eq order ≡ false → (j : ℕ) → IsFound (view t) j → (view t).key j ≢ k
    none_has e j f q = o.none j f
        (subst (IsAboveFrom (view t) from) (sym q) above_here)
        (λ ne. let h = below_link e ne in (h.0, subst (λ (x : List ℕ). IsKeyBefore x ((view t).key (link - 1))) (sym q) h.1))

    -- the link leads over the key
    pub over_key : is_eq order ≡ false → StepsOver view meets (λ q. IsKeyBefore q k) (IsKeyBefore k) from link s t
    over_key e = record {
      looked = o.looked;
      loads = o.loads;
      still = o.still;
      cut = cut_as (view o.looked.moment) from (IsPassed Reached (Some k)) (λ (q : List ℕ). IsKeyBefore q k) (passed_below k) o.cut;
      grown = o.grown;
      leads = below_link e;
      none = o.none;
    }

    pub missed : is_eq order ≡ false → Misses view meets k from link s t
    missed e = record { over = over_key e; none = none_has e }

    -- so it is missing, and belongs behind that entry
    pub finds_none : is_eq order ≡ false → Finds view meets (Missing from link) k s t
    finds_none e = (missed e, belongs_here e)

    pub tied_here : (i : ℕ) → IsTied order i link → IsEntryOf (view t) k i
    tied_here i e = tied_entry (view t) k order i link (λ ne. (o.leads ne).0) tells e
