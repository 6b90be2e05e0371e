use Rattle.std.proofs.Common.{ap, ◌∙◌}
use Rattle.oak_model.specs.Class.{class_number}
use Rattle.arena_core.specs.Place.{class_in}
use Rattle.arena_core.proofs.PlaceLaws.{class_number-from}
use Rattle.header_core.specs.Headers.{at_place}
use Rattle.oak_model.specs.Limits.{Sizes}
use Rattle.oak_core.specs.Memory.{in_headers}
use Rattle.oak_core.specs.Passes.{state, key}
use Rattle.value_ops.specs.AloneLocks.{FindsWord, FindsClass}
use Rattle.oak_core.proofs.seats.AloneRuns.{runs_as}
use Rattle.oak_core.proofs.owners.OwnerLaws.{place_below}
use Rattle.value_ops.proofs.locking.Locked.class.Goals as goal

pub returns-clause-class : goal.returns-clause-class
returns-clause-class c = ap class_number c.class_in.ensures ∙ (class_number-from (class_in c.place-place.result) (place_below c.place-place.result c.place-place.ensures.block.named) ∙ ap class_in c.place-place.ensures.place)

pub returns-clause-alone : goal.returns-clause-alone
returns-clause-alone c = let z : Sizes = key c.args.table.now in let h = c.args.self.now.header in let v = state c.args.pass.now in let w = state c.place-place.new.pass in let n = c.place-place.result in
    runs_as (FindsWord z (in_headers (at_place h)) n) (FindsClass z h c.class_in.result) v w
    (λ a b d. (ap class_number c.class_in.ensures ∙ (class_number-from (class_in n) (place_below n c.place-place.ensures.block.named) ∙ ap class_in d.0), d.1)) c.place-place.ensures.alone
