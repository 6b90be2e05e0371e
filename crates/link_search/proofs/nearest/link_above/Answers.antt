use Rattle.std.proofs.Common.{ℕ, List, Option, Some, None, sym, subst}
use Rattle.link_search.specs.Nearest.{AreBoundBytes, IsAbove}
use Rattle.link_search.specs.Ties.{IsPassed, IsReached, bytes_in_option}
use Rattle.link_search.specs.Walks.{StepsOver}
use Rattle.link_search.proofs.OrderLaws.{passed_not_above, reached_is_above}
use Rattle.link_search.proofs.StepLaws.{over_as}
use Rattle.link_search.proofs.nearest.link_above.Goals as goal

pub returns-in-None-clause-over : goal.returns-in-None-clause-over
returns-in-None-clause-over g c = let V = g.R.LinkedRoom.view in let M = g.R.LinkedRoom.meets in let s = c.args.room.now in let t = c.first_link.new.room in let n = c.first_link.result in let tie = c.args.tie in
    subst (λ x. (from : Option ℕ) × StepsOver V M (λ (k : List ℕ). IsAbove tie (bytes_in_option x) k → ⊥) (IsAbove tie (bytes_in_option x)) from n s t) (sym c.in-None.is)
    (None, over_as V M g.met.R.LinkedRoom.meets_both (λ (k : List ℕ). ⊥) (λ (k : List ℕ). Unit {0}) (λ (k : List ℕ). IsAbove tie None k → ⊥) (IsAbove tie None) None n s t (λ k h. absurd h) (λ k h. tt) c.first_link.ensures.over)

pub returns-in-Some-clause-over : goal.returns-in-Some-clause-over
returns-in-Some-clause-over g c = let V = g.R.LinkedRoom.view in let M = g.R.LinkedRoom.meets in let s = c.args.room.now in let t = c.step_over.new.room in let p = c.step_over.result in let tie = c.args.tie in let b : List ℕ = c.in-Some.bound.now in
    subst (λ x. (from : Option ℕ) × StepsOver V M (λ (k : List ℕ). IsAbove tie (bytes_in_option x) k → ⊥) (IsAbove tie (bytes_in_option x)) from p.link s t) (sym c.in-Some.is)
    (p.from, over_as V M g.met.R.LinkedRoom.meets_both (IsPassed tie (Some b)) (IsReached tie (Some b)) (λ (k : List ℕ). IsAbove tie (Some b) k → ⊥) (IsAbove tie (Some b)) p.from p.link s t (passed_not_above tie b) (reached_is_above tie b) c.step_over.ensures.over)

pub returns-in-None-clause-bytes : goal.returns-in-None-clause-bytes
returns-in-None-clause-bytes g c = subst (λ x. AreBoundBytes (bytes_in_option x)) (sym c.in-None.is) tt

pub returns-in-Some-clause-bytes : goal.returns-in-Some-clause-bytes
returns-in-Some-clause-bytes g c = subst (λ x. AreBoundBytes (bytes_in_option x)) (sym c.in-Some.is) c.step_over.ensures.bytes
