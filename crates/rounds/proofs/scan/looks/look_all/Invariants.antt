use Rattle.std.proofs.Common.{◌≡◌}
use Rattle.oak_map.specs.Maps.{IsReady, state}
use Rattle.rounds.proofs.scan.looks.look_all.Given as goal

abbrev pub invariant-loop-number : goal.invariant-loop-number
invariant-loop-number g l = record {
  own : IsReady l.map l.pass;
  numbers : (state l.pass).numbers ≡ (state l.fn.pass).numbers;
}
