use Rattle.std.proofs.Common.{ℕ, subst, sym, arith}
use Rattle.oak_model.specs.Key.{AreBytes}
use Rattle.link_search.specs.Linked.{Linked, IsSplit}
use Rattle.link_search.specs.Ties.{IsPassed}
use Rattle.std.proofs.Common.{List, Some, Fits, w8, get_or}
use Rattle.link_search.proofs.FindLaws.{split_between, split_at}
use Rattle.link_search.proofs.nearest.sorted_passed.Goals as goal

-- what a slice's type says of its elements
slice_bytes : (k : List ℕ) → ((i : ℕ) → Fits w8 (get_or k i 0)) → AreBytes k
slice_bytes k h i = omega (arith, h i)

pub lower_at-requires : goal.lower_at-requires
lower_at-requires g c = let p = c.in-At.ensures.place.0 in let q = c.requires.prefix in omega arith

pub returns-in-At-clause-split : goal.returns-in-At-clause-split
returns-in-At-clause-split g c = let r : Linked = g.R.LinkedRoom.view c.args.room.now in let b = c.in-At in subst (λ (n : ℕ). IsSplit r (IsPassed c.args.tie (Some c.args.key.now)) n) (sym c.lower_at.ensures) (split_at r c.requires.front c.args.key.now b.entry b.ensures.place c.args.tie)

pub returns-in-At-clause-bytes : goal.returns-in-At-clause-bytes
returns-in-At-clause-bytes g c = slice_bytes c.args.key.now c.type_inv.key

pub returns-in-Between-clause-split : goal.returns-in-Between-clause-split
returns-in-Between-clause-split g c = let b = c.in-Between in split_between (g.R.LinkedRoom.view c.args.room.now) c.args.tie c.args.key.now b.many b.ensures.place

pub returns-in-Between-clause-bytes : goal.returns-in-Between-clause-bytes
returns-in-Between-clause-bytes g c = slice_bytes c.args.key.now c.type_inv.key
