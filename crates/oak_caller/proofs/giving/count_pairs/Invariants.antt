use Rattle.std.proofs.Common.{◌≡◌, ◌-◌, ◌^◌, List, [], length}
use Rattle.std.specs.Prelude.{min}
use Rattle.oak_model.specs.declared.replies.Pair.{Pair}
use Rattle.oak_caller.specs.Scans.{GivesOn, GoesOn}
use Rattle.oak_caller.proofs.giving.count_pairs.Given as goal

abbrev pub invariant-loop : goal.invariant-loop
invariant-loop g l = record {
  same_reference : l.cursor.pass.ghost_name ≡ l.fn.cursor.pass.ghost_name;
  on : GoesOn l.fn.cursor l.cursor;
  counts : (pairs : List Pair) × GivesOn l.fn.cursor l.cursor [] pairs × (l.count ≡ min (length pairs) (2 ^ 64 - 1));
}
