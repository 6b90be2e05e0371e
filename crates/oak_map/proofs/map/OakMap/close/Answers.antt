use Rattle.std.proofs.Common.{sym, subst}
use Rattle.oak_model.specs.Limits.{Sizes}
use Rattle.oak_core.specs.declared.states.PassState.{PassState}
use Rattle.oak_core.specs.AloneWords.{LeavesWords}
use Rattle.oak_core.specs.Closing.{closed_words}
use Rattle.oak_core.specs.PassState.{HoldsNothing, IsAlone}
use Rattle.oak_core.specs.Splitting.{Ends}
use Rattle.rebalance.specs.LoneCalls.{IsSettled}
use Rattle.oak_map.proofs.ClosedMaps.{uses_just}
use Rattle.oak_map.proofs.map.OakMap.close.Goals as goal

pub returns-clause-settled : goal.returns-clause-settled
returns-clause-settled g c words left settled = let e = c.close.ensures in let k = sym e.key in let s = sym e.state in
    uses_just c.close.result (subst IsAlone s c.requires.alone) (subst HoldsNothing s c.requires.ready.idle)
    (subst (λ (p : Sizes × PassState). Ends p.0 (closed_words c.close.result) p.1) (λ i. (k i, s i)) e.ends)
    words (subst (LeavesWords words) s left) (subst (λ (z : Sizes). IsSettled z words) k settled)
