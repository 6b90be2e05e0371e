use Rattle.std.proofs.Common.{◌≡◌}
use Rattle.value_ops.specs.Recipes.{SaysTheSame}
use Rattle.oak_core.specs.AloneWords.{Runs}
use Rattle.oak_core.specs.PassState.{IsAlone}
use Rattle.oak_core.specs.Passes.{call_of, key as sizes, state}
use Rattle.rebalance.specs.Repeating.{Repeats}
use Rattle.oak_map.specs.LoneRetrying.{FirstTry, LoneGoing}
use Rattle.oak_map.specs.Putting.{Going, StaysAsUsed}
use Rattle.oak_map.specs.Stopping.{TriesOn}
use Rattle.oak_map.proofs.LoneTries.{HasTried}
use Rattle.oak_map.proofs.put_loops.try_to_put.Given as goal

abbrev pub invariant-loop : goal.invariant-loop
invariant-loop g l = record {
  stays : StaysAsUsed g.A.Asking.uses_scratch l.fn.pass l.pass;
  going : Going (sizes l.fn.table) (call_of l.fn.pass) l.settled (state l.fn.pass) (state l.pass);
  lone : LoneGoing (sizes l.fn.table) l.fn.key (g.A.Asking.ask l.fn.asking l.fn.value) l.settled (state l.fn.pass) (state l.pass);
  first : IsAlone (state l.fn.pass) → FirstTry (sizes l.fn.table) l.fn.key (g.A.Asking.ask l.fn.asking l.fn.value) (state l.fn.pass) (state l.pass);
  tried : Repeats (TriesOn (sizes l.fn.table) (call_of l.fn.pass) l.fn.key (g.A.Asking.ask l.fn.asking l.fn.value)) (state l.fn.pass) l.counter (state l.pass);
  few : Runs (HasTried (sizes l.fn.table) l.fn.key l.counter l.settled) (state l.fn.pass) (state l.pass);
  asks : g.A.Asking.ask l.asking l.fn.value ≡ g.A.Asking.ask l.fn.asking l.fn.value;
  counted : g.A.Asking.times l.asking ≡ g.A.Asking.times l.fn.asking;
  fed : SaysTheSame (g.A.Asking.says l.fn.asking) (g.A.Asking.says l.asking);
}
