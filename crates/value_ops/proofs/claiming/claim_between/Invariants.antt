use Rattle.std.proofs.Common.{◌<◌, ◌≤◌}
use Rattle.oak_core.specs.Passes.{Stays, state, key, call_of}
use Rattle.value_ops.specs.Claiming.{Looked}
use Rattle.value_ops.proofs.claiming.claim_between.Given as goal

abbrev pub invariant-loop-header : goal.invariant-loop-header
invariant-loop-header l = record {
  stays : Stays l.fn.pass l.pass;
  looked : Looked (key l.table) (call_of l.fn.pass) (state l.fn.pass) (state l.pass) (λ h. (l.from ≤ h) × (h < l.header));
}
