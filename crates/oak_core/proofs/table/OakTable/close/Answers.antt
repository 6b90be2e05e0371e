use Rattle.std.proofs.Common.{rules, ◌≡◌, sym, subst}
use Rattle.std.specs.Slots.{slots_items}
use Rattle.oak_model.specs.Limits.{Sizes}
use Rattle.oak_core.specs.Passes.{state, key, opened_at}
use Rattle.oak_core.specs.Running.{table_of}
use Rattle.oak_core.proofs.seats.Alone.{ends, others_are}
use Rattle.oak_core.proofs.openings.SinceOpening.{ends_from, is_unworn}
use Rattle.oak_core.proofs.calls.ClosedFulls.{FullsFound, all_found}
use Rattle.oak_core.proofs.table.OakTable.close.Goals as goal
use Rattle.oak_core.proofs.known.KnownHere.{places_at_end, PlacesKnown}

pub returns-clause-ends : goal.returns-clause-ends
returns-clause-ends c = let f = c.close_with.ensures.values.2 in ends (key c.args.self) (table_of f.0) f.1.0.rule c.args.pass.seat.id (state c.args.pass) f.1.1 c.requires.alone _ f.2

pub returns-clause-noted : goal.returns-clause-noted
returns-clause-noted c = let f = c.close_with.ensures.values.2 in let same : state c.args.pass ≡ state c.of-last.result.value = search rules in
    subst (FullsFound c.args.self.shape) same (subst (λ (z : Sizes). FullsFound z (state c.args.pass)) (sym c.args.self.shape_is) (all_found (key c.args.self) (table_of f.0) f.1.0.rule c.args.pass.seat.id (state c.args.pass) f.1.1 c.args.pass.going))

pub returns-clause-places : goal.returns-clause-places
returns-clause-places c = let f = c.close_with.ensures.values.2 in let same : state c.args.pass ≡ state c.of-last.result.value = search rules in
    subst PlacesKnown same (places_at_end (key c.args.self) _ (state c.args.pass) (ends (key c.args.self) (table_of f.0) f.1.0.rule c.args.pass.seat.id (state c.args.pass) f.1.1 c.requires.alone _ f.2))

pub returns-clause-reached : goal.returns-clause-reached
returns-clause-reached c = let f = c.close_with.ensures.values.2 in let same : state c.args.pass ≡ state c.of-last.result.value = search rules in
    ends_from (key c.args.self) (opened_at c.args.self) (table_of f.0) f.1.0.reached c.args.pass.seat.id (state c.args.pass) f.1.1 _ c.args.self.shape_is f.2 same

pub returns-clause-unworn : goal.returns-clause-unworn
returns-clause-unworn c = let f = c.close_with.ensures.values.2 in let same : state c.args.pass ≡ state c.of-last.result.value = search rules in
    is_unworn (key c.args.self) (opened_at c.args.self) (table_of f.0) f.1.0.reached c.args.pass.seat.id (state c.args.pass) f.1.1 c.args.self.shape (slots_items c.close_with.result.words) (state c.of-last.result.value) c.args.self.shape_is f.2 same f.1.0.rule.sizes (others_are (key c.args.self) (table_of f.0) f.1.0.rule c.args.pass.seat.id (state c.args.pass) f.1.1 c.requires.alone)
