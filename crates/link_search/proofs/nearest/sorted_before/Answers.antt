use Rattle.std.proofs.Common.{[], sym, subst, arith}
use Rattle.link_search.specs.Linked.{Linked, IsSplit}
use Rattle.link_search.specs.Nearest.{AreBoundBytes}
use Rattle.link_search.specs.Ties.{IsPassed, bytes_in_option}
use Rattle.link_search.proofs.FindLaws.{split_all}
use Rattle.link_search.proofs.WalkLaws.{no_loads}
use Rattle.link_search.proofs.nearest.sorted_before.Goals as goal

pub returns-in-None-clause-split : goal.returns-in-None-clause-split
returns-in-None-clause-split g c = let r : Linked = g.R.LinkedRoom.view c.args.room.now in let tie = c.args.tie in
    subst (λ x. IsSplit r (IsPassed tie (bytes_in_option x)) c.args.prefix) (sym c.in-None.is) (split_all r tie c.args.prefix c.requires.prefix)

pub returns-in-None-clause-bytes : goal.returns-in-None-clause-bytes
returns-in-None-clause-bytes g c = subst (λ x. AreBoundBytes (bytes_in_option x)) (sym c.in-None.is) tt

pub returns-in-None-clause-loads : goal.returns-in-None-clause-loads
returns-in-None-clause-loads g c = ([], g.met.R.LinkedRoom.meets_none c.args.room.now, tt, (let n = no_loads in omega arith))

pub returns-in-Some-clause-split : goal.returns-in-Some-clause-split
returns-in-Some-clause-split g c = let r : Linked = g.R.LinkedRoom.view c.args.room.now in let tie = c.args.tie in subst (λ x. IsSplit r (IsPassed tie (bytes_in_option x)) c.sorted_passed.result) (sym c.in-Some.is) c.sorted_passed.ensures.split

pub returns-in-Some-clause-bytes : goal.returns-in-Some-clause-bytes
returns-in-Some-clause-bytes g c = subst (λ x. AreBoundBytes (bytes_in_option x)) (sym c.in-Some.is) c.sorted_passed.ensures.bytes
