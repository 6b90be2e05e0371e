-- The nearest entry on one side of a key, by the link that leads over the place.
use Rattle.std.proofs.Common.{◌≡◌, ℕ, ◌+◌, ◌-◌, ◌≤◌, List, Option, Some, None, sym, refl, subst, arith}
use Rattle.std.specs.Option.{SomeIff}
use mathlib.Core.Logic.{dite}
use native.Mathlib.Decide.{dec_le}
use Rattle.oak_model.specs.Key.{IsKeyBefore}
use Rattle.link_search.specs.declared.ties.Tie.{Tie}
use Rattle.link_search.specs.Linked.{Linked, IsFound, IsAboveFrom, IsCut}
use Rattle.link_search.specs.Met.{Met}
use Rattle.link_search.specs.Nearest.{IsAbove, IsBelow, IsLeastAbove, IsGreatestBelow, link_to}
use Rattle.link_search.specs.Walks.{StepsOver}
use Rattle.link_search.proofs.OrderLaws.{above_orders, below_orders}
use Rattle.link_search.proofs.WalkLaws.{cut_grown}

-- the number before a link
pub link_sub : (o : Option ℕ) (n : ℕ) → SomeIff o (1 ≤ n) (n - 1) → link_to o ≡ n
link_sub None n h = dite (dec_le 1 n) (λ l. absurd (h l)) (λ l. omega arith)
link_sub (Some i) n h = let l = h.0 in let e = h.1 in omega arith

module _ {S : Type 0} (view : S → Linked) (meets : S → S → List Met → Type 0) where
  module _ (tie : Tie) (b : Option (List ℕ)) (from : Option ℕ) (s t : S) where
    above_from : (from : Option ℕ) (j : ℕ) → IsCut (view t) from (λ (q : List ℕ). IsAbove tie b q → ⊥) → IsAbove tie b ((view t).key j) → IsAboveFrom (view t) from ((view t).key j)
    above_from None j c a = tt
    above_from (Some i) j c a = (c.0, above_orders tie b ((view t).key i) ((view t).key j) c.1 a)

    pub least_above : (o : Option ℕ) → StepsOver view meets (λ (q : List ℕ). IsAbove tie b q → ⊥) (IsAbove tie b) from (link_to o) s t → IsLeastAbove (view t) tie b o
    least_above None v = λ j f a. v.none j f (above_from from j (cut_grown (view v.looked.moment) (view t) from (λ (q : List ℕ). IsAbove tie b q → ⊥) v.grown v.cut) a) (λ ne. absurd (ne refl))
    least_above (Some i) v = let h = v.leads (λ e. absurd (omega arith)) in let e : i + 1 - 1 ≡ i = omega arith in (
      subst (IsFound (view t)) e h.0,
      subst (λ (n : ℕ). IsAbove tie b ((view t).key n)) e h.1,
      λ j f a l. v.none j f (above_from from j (cut_grown (view v.looked.moment) (view t) from (λ (q : List ℕ). IsAbove tie b q → ⊥) v.grown v.cut) a)
          (λ ne. (h.0, subst (λ (n : ℕ). IsKeyBefore ((view t).key j) ((view t).key n)) (sym e) l)),
    )

  pub greatest_below : (b : Option (List ℕ)) (o : Option ℕ) (link : ℕ) (s t : S) → StepsOver view meets (IsBelow b) (λ (q : List ℕ). IsBelow b q → ⊥) o link s t → IsGreatestBelow (view t) b o
  greatest_below b None link s t v = λ j f a. v.none j f tt (λ ne. let h = v.leads ne in (h.0, below_orders b ((view t).key j) ((view t).key (link - 1)) a h.1))
  greatest_below b (Some i) link s t v = let c = cut_grown (view v.looked.moment) (view t) (Some i) (IsBelow b) v.grown v.cut in (
    c.0,
    c.1,
    λ j f a l. v.none j f (c.0, l) (λ ne. let h = v.leads ne in (h.0, below_orders b ((view t).key j) ((view t).key (link - 1)) a h.1)),
  )
