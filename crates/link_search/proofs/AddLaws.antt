-- What changed between two looks, which to a pass that is alone nothing did.
use Rattle.std.proofs.Common.{◌≡◌, ◌≢◌, ℕ, ◌<◌, List, [], ◌∷◌, ◌++◌, Option, inr, subst, sym, ◌∙◌}
use Rattle.oak_model.specs.Counts.{Each}
use Rattle.oak_model.specs.Key.{IsKeyBefore}
use Rattle.chunk_core.specs.LinkedEntries.{entries_in}
use Rattle.link_search.specs.declared.adding.Outcome.{Outcome}
use Rattle.link_search.specs.declared.adding.Outcome.TheVariants.{Found, Added, Full, Busy}
use Rattle.link_search.specs.Adds.{CountChanged, LinkChanged, LinkedAs, AddedAs, IfBusy, LinkedStraight, StraightAs}
use Rattle.link_search.specs.Linked.{Linked, IsFound}
use Rattle.link_search.specs.Met.{Met, met_count, met_link, tried_count, tried_link, stored_value, stored_link, stored_key, IsLoad, IsEntryLoad, LeavesLink, TellsCount, Looked}
use Rattle.link_search.specs.Walks.{StepsOver}

-- what became of the claimed entry is what became of the call
pub added_by : {S : Type 0} (view : S → Linked) (meets : S → S → List Met → Type 0) (holds : S → List ℕ → Type 0) (free : S → Type 0) (o : Outcome) (entry : ℕ) (k : List ℕ) (most : ℕ) (s t : S) → entry < most → LinkedAs view meets holds free o entry k s t → AddedAs view meets holds free o k most s t
added_by view meets holds free (Found i) entry k most s t l h = h
added_by view meets holds free (Added i) entry k most s t l h = (subst (λ (n : ℕ). n < most) (sym h.0) l, h.1, h.2, h.3)
added_by view meets holds free Full entry k most s t l h = absurd h
added_by view meets holds free Busy entry k most s t l h = (inr h.0, h.1)

module _ {S : Type 0} (meets : S → S → List Met → Type 0) (lone : S → Type 0) (lone_on : (s t : S) (ms : List Met) → meets s t ms → lone s → lone t) where
  pub count_never : ((s t u : S) (old n : ℕ) (between : List Met) (m : Met) → lone s → meets s t (met_count old ∷ between) → Each IsEntryLoad between → meets t u (m ∷ []) → TellsCount n m → n ≡ old) → (s t : S) → CountChanged meets s t → lone s → ⊥
  count_never own s t c l = c.other (own c.moment c.again t c.old c.number c.between c.second (lone_on s c.moment c.before c.start l) c.looked c.kept c.tried c.tells)

  pub link_never : ((s t u : S) (from : Option ℕ) (i old n : ℕ) (between : List Met) → lone s → meets s t (met_link from old ∷ between) → Each (LeavesLink from) between → meets t u (tried_link from i old n ∷ []) → n ≡ old) → (s t : S) → LinkChanged meets s t → lone s → ⊥
  link_never own s t c l = c.other (own c.moment c.again c.behind c.from c.entry c.old c.number c.between (lone_on s c.moment c.before c.start l) c.looked c.kept c.tried)

  -- it tries no link in vain
  pub link_holds : ((s t u : S) (from : Option ℕ) (i old n : ℕ) (between : List Met) → lone s → meets s t (met_link from old ∷ between) → Each (LeavesLink from) between → meets t u (tried_link from i old n ∷ []) → n ≡ old) → (s t u : S) (from : Option ℕ) (i old : ℕ) → Looked meets from old s t → lone s → (n : ℕ) × (n ≢ old) × meets t u (tried_link from i old n ∷ []) → ⊥
  link_holds own s t u from i old k l lost = lost.1 (own k.moment t u from i old lost.0 k.between (lone_on s k.moment k.before k.start l) k.on k.kept lost.2)

-- a pass that is alone is never told that it was
pub busy_never : {S : Type 0} (view : S → Linked) (meets : S → S → List Met → Type 0) (holds : S → List ℕ → Type 0) (free : S → Type 0) (P : Type 0) (o : Outcome) (entry : ℕ) (k : List ℕ) (s t : S) → LinkedAs view meets holds free o entry k s t → (LinkChanged meets s t → P) → IfBusy o P
busy_never view meets holds free P (Found i) entry k s t h f = tt
busy_never view meets holds free P (Added i) entry k s t h f = tt
busy_never view meets holds free P Full entry k s t h f = tt
busy_never view meets holds free P Busy entry k s t h f = f h.0

module _ {S : Type 0} (view : S → Linked) (meets : S → S → List Met → Type 0) (both : (s t u : S) (a b : List Met) → meets s t a → meets t u b → meets s u (a ++ b)) where
  -- from the loads to the link
  pub straight_by : (o : Outcome) (entry : ℕ) (k : List ℕ) (from : Option ℕ) (link old : ℕ) (loads : List Met) (s x y z : S) → meets s x loads → Each IsLoad loads → StepsOver view meets (λ q. IsKeyBefore q k) (IsKeyBefore k) from link s x → ((j : ℕ) → IsFound (view x) j → (view x).key j ≢ k) → entry ≡ entries_in old → meets x y (tried_count old old ∷ stored_value (entries_in old) ∷ stored_link (entries_in old) link ∷ stored_key (entries_in old) ∷ []) → LinkedStraight meets o from link entry y z → StraightAs view meets o k s z
  straight_by (Found i) entry k from link old loads s x y z on are over none e puts h = absurd h
  straight_by (Added i) entry k from link old loads s x y z on are over none e puts h = record {
    moment = x;
    loads = loads;
    start = on;
    are = are;
    from = from;
    link = link;
    over = over;
    none = none;
    old = old;
    number = h.0 ∙ e;
    puts = both x y z (tried_count old old ∷ stored_value i ∷ stored_link i link ∷ stored_key i ∷ []) (tried_link from i link link ∷ [])
        (subst (λ (n : ℕ). meets x y (tried_count old old ∷ stored_value n ∷ stored_link n link ∷ stored_key n ∷ [])) (sym (h.0 ∙ e)) puts)
        (subst (λ (n : ℕ). meets y z (tried_link from n link link ∷ [])) (sym h.0) h.1);
  }
  straight_by Full entry k from link old loads s x y z on are over none e puts h = absurd h
  straight_by Busy entry k from link old loads s x y z on are over none e puts h = absurd h
