use Rattle.std.proofs.Common.{◌≡◌, []}
use Rattle.oak_run.specs.Gathering.{GivesOn, GoesOn}
use Rattle.oak_run.proofs.scans.gather.Given as goal

abbrev pub invariant-loop : goal.invariant-loop
invariant-loop g l = record {
  same_reference : l.cursor.pass.ghost_name ≡ l.fn.cursor.pass.ghost_name;
  on : GoesOn l.fn.cursor l.cursor;
  gives : GivesOn l.fn.cursor l.cursor [] l.pairs.items;
}
