use Rattle.std.proofs.Common.{◌≡◌, List, []}
use Rattle.oak_model.specs.declared.replies.Pair.{Pair}
use Rattle.oak_caller.specs.Scans.{GivesOn, GoesOn, GoesOver}
use Rattle.oak_caller.proofs.giving.give_pairs.Given as goal

abbrev pub invariant-loop : goal.invariant-loop
invariant-loop g l = record {
  same_reference : l.cursor.pass.ghost_name ≡ l.fn.cursor.pass.ghost_name;
  on : GoesOn l.fn.cursor l.cursor;
  gives : (pairs : List Pair) × GoesOver l.fn.most g.F.FnMut l.fn.f pairs l.f × GivesOn l.fn.cursor l.cursor [] pairs;
}
