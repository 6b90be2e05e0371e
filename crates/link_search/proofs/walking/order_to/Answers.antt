use Rattle.std.proofs.Common.{◌≡◌, [], ◌∷◌, refl, sym, subst, arith}
use Rattle.std.specs.declared.cmp.Ordering.TheVariants.{Greater}
use Rattle.link_search.specs.Linked.{Linked}
use Rattle.link_search.specs.Met.{met_key}
use Rattle.link_search.specs.Ties.{order_to, bytes_in_option}
use Rattle.link_search.proofs.WalkLaws.{one_load, no_loads}
use Rattle.link_search.proofs.walking.order_to.Goals as goal

pub returns-in-Some-clause-order : goal.returns-in-Some-clause-order
returns-in-Some-clause-order g c = let r : Linked = g.R.LinkedRoom.view c.args.room.now in subst (λ x. c.compare.result ≡ order_to (bytes_in_option x) (r.key c.args.entry)) (sym c.in-Some.is) c.compare.ensures.order

pub returns-in-Some-clause-loads : goal.returns-in-Some-clause-loads
returns-in-Some-clause-loads g c = let i = c.args.entry in (met_key i ∷ [], c.compare.ensures.meets, (tt, tt), (let n = one_load i in omega arith), (tt, tt))

pub returns-in-None-clause-order : goal.returns-in-None-clause-order
returns-in-None-clause-order g c = let r : Linked = g.R.LinkedRoom.view c.args.room.now in subst (λ x. Greater ≡ order_to (bytes_in_option x) (r.key c.args.entry)) (sym c.in-None.is) refl

pub returns-in-None-clause-loads : goal.returns-in-None-clause-loads
returns-in-None-clause-loads g c = ([], g.met.R.LinkedRoom.meets_none c.args.room.now, tt, (let n = no_loads in omega arith), tt)
