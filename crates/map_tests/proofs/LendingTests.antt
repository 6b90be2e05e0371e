-- What each call of the tests on lending leaves of their pass.
use Rattle.std.proofs.Common.{ℕ, ◌≤◌, List, [], Err, sym, ap, ◌∙◌, subst}
use Rattle.oak_model.specs.declared.cells.CellCall.TheVariants.{Get}
use Rattle.oak_model.specs.Counts.{Begins, Each}
use Rattle.oak_model.specs.Limits.{Sizes}
use Rattle.oak_model.proofs.Lists.{begins_self}
use Rattle.oak_core.specs.declared.states.KeyedWrite.{KeyedWrite}
use Rattle.oak_core.specs.declared.states.KnownLife.{KnownLife}
use Rattle.oak_core.specs.declared.states.PassState.{PassState}
use Rattle.oak_core.specs.PassState.{HoldsNothing}
use Rattle.value_ops.specs.Views.{KnowsView, Viewed}
use Rattle.value_ops.proofs.LoadedViews.{view_known}
use Rattle.point_ops.specs.declared.halts.Halt.TheVariants.{Busy}
use Rattle.point_ops.specs.Replies.{Refuses}
use Rattle.point_ops.specs.TestStates.{HasView, IsReady, IsReadyAgain}
use Rattle.point_ops.proofs.TestLaws.{wrote_again}
use Rattle.oak_map.specs.Lending.{FindsOver}

pub refused_ready : (call : ℕ) (v w : PassState) → Refuses call v w → IsReady call v → IsReadyAgain call v w
refused_ready call v w r y = wrote_again (Err Busy) call [] Get v w tt r y

-- a life that was found over left the pass as ready as it was
pub over_ready : (z : Sizes) (call : ℕ) (x : Viewed) (v w : PassState) → FindsOver z call x v w → HoldsNothing w → IsReady call v → IsReadyAgain call v w
over_ready z call x v w f idle y = record {
  numbers = f.holds.numbers;
  loaded = subst (λ (l : List KnownLife). Begins v.knowledge.loaded l) (sym (f.not_read.dud.only.knows.loaded ∙ ap (λ (q : PassState). q.knowledge.loaded) f.tries.after)) (begins_self v.knowledge.loaded);
  ready = record { idle = idle; wrote = subst (Each (λ (k : KeyedWrite). k.write.call ≤ call)) (sym (f.not_read.dud.only.learns.all.mine ∙ ap (λ (q : PassState). q.knowledge.mine) f.tries.after)) y.wrote };
}

-- a view that the pass loaded is known
pub has_known : (z : Sizes) (x : Viewed) (v : PassState) → HasView z x v → KnowsView z x v
has_known z x v h = view_known z x v h.inside h.loaded
