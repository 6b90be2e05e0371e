use Rattle.std.proofs.Common.{ℕ, List}
use Rattle.link_search.specs.declared.ties.Tie.TheVariants.{Reached}
use Rattle.link_search.specs.Nearest.{IsBelow}
use Rattle.link_search.specs.Ties.{IsPassed, IsReached, bytes_in_option}
use Rattle.link_search.proofs.NearLaws.{greatest_below}
use Rattle.link_search.proofs.OrderLaws.{passed_is_below, reached_not_below}
use Rattle.link_search.proofs.StepLaws.{over_as}
use Rattle.link_search.proofs.nearest.below.Goals as goal

pub returns-clause-over : goal.returns-clause-over
returns-clause-over g c = let V = g.R.LinkedRoom.view in let M = g.R.LinkedRoom.meets in let s = c.args.room.now in let t = c.step_over.new.room in let p = c.step_over.result in let b = bytes_in_option c.args.key in
    (p.link, over_as V M g.met.R.LinkedRoom.meets_both (IsPassed Reached b) (IsReached Reached b) (IsBelow b) (λ (k : List ℕ). IsBelow b k → ⊥) p.from p.link s t (passed_is_below b) (reached_not_below b) c.step_over.ensures.over)

pub returns-clause-nearest : goal.returns-clause-nearest
returns-clause-nearest g c = let V = g.R.LinkedRoom.view in let M = g.R.LinkedRoom.meets in let s = c.args.room.now in let t = c.step_over.new.room in let p = c.step_over.result in let b = bytes_in_option c.args.key in
    greatest_below V M b p.from p.link s t (over_as V M g.met.R.LinkedRoom.meets_both (IsPassed Reached b) (IsReached Reached b) (IsBelow b) (λ (k : List ℕ). IsBelow b k → ⊥) p.from p.link s t (passed_is_below b) (reached_not_below b) c.step_over.ensures.over)
