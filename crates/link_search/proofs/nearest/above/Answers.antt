use Rattle.std.proofs.Common.{ℕ, List, sym, subst}
use Rattle.link_search.specs.Nearest.{IsAbove}
use Rattle.link_search.specs.Ties.{bytes_in_option}
use Rattle.link_search.specs.Walks.{StepsOver}
use Rattle.link_search.proofs.NearLaws.{link_sub, least_above}
use Rattle.link_search.proofs.nearest.above.Goals as goal

pub returns-clause-over : goal.returns-clause-over
returns-clause-over g c = let V = g.R.LinkedRoom.view in let M = g.R.LinkedRoom.meets in let s = c.args.room.now in let t = c.link_above.new.room in let tie = c.args.tie in let b = bytes_in_option c.args.key in let o = c.link_above.ensures.over in let r = c.checked_sub.result in
    (o.0, subst (λ (n : ℕ). StepsOver V M (λ (k : List ℕ). IsAbove tie b k → ⊥) (IsAbove tie b) o.0 n s t) (sym (link_sub r c.link_above.result c.checked_sub.ensures)) o.1)

pub returns-clause-nearest : goal.returns-clause-nearest
returns-clause-nearest g c = let V = g.R.LinkedRoom.view in let M = g.R.LinkedRoom.meets in let s = c.args.room.now in let t = c.link_above.new.room in let tie = c.args.tie in let b = bytes_in_option c.args.key in let o = c.link_above.ensures.over in let r = c.checked_sub.result in
    least_above V M tie b o.0 s t r (subst (λ (n : ℕ). StepsOver V M (λ (k : List ℕ). IsAbove tie b k → ⊥) (IsAbove tie b) o.0 n s t) (sym (link_sub r c.link_above.result c.checked_sub.ensures)) o.1)
