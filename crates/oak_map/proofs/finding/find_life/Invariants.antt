use Rattle.oak_core.specs.Passes.{Stays, call_of, key as sizes, state}
use Rattle.value_ops.specs.Views.{KnowsView}
use Rattle.oak_map.proofs.FoundLives.{SearchesLife}
use Rattle.oak_map.proofs.finding.find_life.Given as goal

abbrev pub invariant-loop : goal.invariant-loop
invariant-loop g l = record {
  next : (goal.iterator-loop g).can_next l.iterator';
  stays : Stays l.fn.pass l.pass;
  known : KnowsView (sizes l.table) l.view (state l.pass);
  searches : SearchesLife (sizes l.table) (call_of l.fn.pass) (state l.fn.pass) (state l.pass);
}
