use Rattle.std.proofs.Common.{◌≡◌}
use Rattle.oak_caller.specs.Gathered.{Gathers}
use Rattle.oak_caller.specs.Scans.{GoesOn}
use Rattle.oak_caller.proofs.gathering.gather_keys.Given as goal

abbrev pub invariant-loop : goal.invariant-loop
invariant-loop g l = record {
  same_reference : l.cursor.pass.ghost_name ≡ l.fn.cursor.pass.ghost_name;
  on : GoesOn l.fn.cursor l.cursor;
  gathers : Gathers l.fn.cursor l.cursor l.fn.keys.items l.keys.items;
}
