use Rattle.std.proofs.Common.{◌≡◌}
use Rattle.oak_map.proofs.mending.take_out_others.Given as goal

abbrev pub invariant-loop : goal.invariant-loop
invariant-loop g l = record { pass : l.pass ≡ l.fn.pass }
