use Rattle.std.proofs.Common.{◌≡◌}
use Rattle.oak_model.specs.Key.{IsKey}
use Rattle.oak_model.specs.KeyNumber.{key_number}
use Rattle.oak_core.specs.AloneWords.{Runs}
use Rattle.oak_core.specs.Passes.{state, key as sizes, call_of}
use Rattle.oak_core.specs.Scratch.{StaysButSlots}
use Rattle.rebalance.specs.Calls.{Leaves}
use Rattle.rebalance.specs.Merging.{SweepsBelow}
use Rattle.rebalance.specs.Settling.{SettlesBelow}
use Rattle.rebalance.proofs.settling.settle.Given as goal

abbrev pub invariant-loop : goal.invariant-loop
invariant-loop g l = record {
  next : (goal.iterator-loop g).can_next l.iterator';
  key : IsKey l.from;
  stays : StaysButSlots l.fn.pass l.pass;
  leaves : Leaves (call_of l.fn.pass) (state l.fn.pass) (state l.pass);
  unclaimed : (state l.pass).findings.rebalances.claims ≡ (state l.fn.pass).findings.rebalances.claims;
  below : SweepsBelow l.from (state l.fn.pass) (state l.pass);
  alone : Runs (SettlesBelow (sizes l.fn.table) (key_number l.from)) (state l.fn.pass) (state l.pass);
}
