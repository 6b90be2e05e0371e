use Rattle.std.proofs.Common.{◌≡◌, ℕ, List, Option, Some, sym, refl, ap, ◌∙◌}
use Rattle.oak_core.specs.Passes.{state, call_of}
use Rattle.chunk_ops.proofs.MeetingCalls.{only_none}
use Rattle.scan_cursor.specs.declared.ways.Way.{Way}
use Rattle.scan_cursor.specs.declared.ways.Way.TheVariants.{Up, Down}
use Rattle.scan_cursor.specs.Holding.{Room, bound_in, cut_room, room_at}
use Rattle.scan_cursor.proofs.spots.batch_bound.Goals as goal

-- the bound of a room that is cut is the one that cuts it
cut_bound : (way : Way) (a : Room) (b : List ℕ) → bound_in way (cut_room way a (Some b)) ≡ Some b
cut_bound Up a b = refl
cut_bound Down a b = refl

pub returns-in-Some-clause-bound : goal.returns-in-Some-clause-bound
returns-in-Some-clause-bound c = let a = room_at (state c.args.pass.now) in let way = c.args.way in sym (cut_bound way a c.in-Some.bound) ∙ ap (λ (o : Option (List ℕ)). bound_in way (cut_room way a o)) (sym c.in-Some.is)

pub returns-in-Some-clause-only : goal.returns-in-Some-clause-only
returns-in-Some-clause-only c = only_none (call_of c.args.pass.now) (state c.args.pass.now)

pub returns-in-None-clause-bound : goal.returns-in-None-clause-bound
returns-in-None-clause-bound c = let a = room_at (state c.args.pass.now) in let way = c.args.way in c.bound_ahead.ensures.bound ∙ ap (λ (o : Option (List ℕ)). bound_in way (cut_room way a o)) (sym c.in-None.is)
