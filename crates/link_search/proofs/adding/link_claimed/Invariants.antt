use Rattle.std.proofs.Common.{◌≡◌, List}
use Rattle.link_search.specs.Linked.{Grown, IsPlaced}
use Rattle.link_search.specs.Met.{Met, Looked}
use Rattle.link_search.proofs.adding.link_claimed.Given as goal

abbrev pub invariant-loop-place : goal.invariant-loop-place
invariant-loop-place g l = let V = g.R.LinkedRoom.view in let M = g.R.LinkedRoom.meets in record {
  pinned : g.R.LinkedRoom.pinned l.room;
  claimed : g.R.LinkedRoom.claims l.room l.entry l.key;
  points : g.R.LinkedRoom.points l.room l.place.link;
  placed : IsPlaced (V l.room) l.place.from l.place.link l.key;
  grown : Grown (V l.fn.room) (V l.room);
  looked : (s : _) → Looked M l.fn.start.from l.fn.start.link s l.fn.room → Looked M l.place.from l.place.link s l.room;
  whole : (ms : List Met) × M l.fn.room l.room ms;
  straight : (s : _) → Looked M l.fn.start.from l.fn.start.link s l.fn.room → g.R.LinkedRoom.lone s → (l.place ≡ l.fn.start) × (l.room ≡ l.fn.room);
}

abbrev pub decreases-loop-place : goal.decreases-loop-place
decreases-loop-place g l = l.left
