use Rattle.oak_core.specs.Passes.{Stays, call_of, state}
use Rattle.oak_map.proofs.FoundValues.{Searches}
use Rattle.oak_map.proofs.finding.find_value.Given as goal

abbrev pub invariant-loop : goal.invariant-loop
invariant-loop g l = record {
  next : (goal.iterator-loop g).can_next l.iterator';
  stays : Stays l.fn.pass l.pass;
  searches : Searches (call_of l.fn.pass) (state l.fn.pass) (state l.pass);
}
