use Rattle.std.proofs.Common.{◌≡◌}
use Rattle.oak_map.specs.Maps.{IsReady, state}
use Rattle.rounds.proofs.scan.work.go_rounds.Given as goal

abbrev pub invariant-loop : goal.invariant-loop
invariant-loop g l = record {
  own : IsReady l.map l.pass;
  numbers : (state l.pass).numbers ≡ (state l.fn.pass).numbers;
}
