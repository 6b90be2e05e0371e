use Rattle.std.proofs.Common.{◌≡◌, length}
use Rattle.call_tests.proofs.rebalancing.test_maps.make_keys.Given as goal

abbrev pub invariant-loop-number : goal.invariant-loop-number
invariant-loop-number l = length l.keys.items ≡ l.number
