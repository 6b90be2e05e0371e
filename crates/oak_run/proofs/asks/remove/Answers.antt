use Rattle.std.proofs.Common.{List, ℕ, subst}
use Rattle.oak_model.specs.declared.cells.CellCall.TheVariants as cells
use Rattle.oak_map.specs.Maps.{call_of, sizes, state}
use Rattle.point_ops.specs.Parts.{WroteFits}
use Rattle.oak_run.proofs.AskCalls.{removed}
use Rattle.oak_run.proofs.asks.remove.Goals as goal

pub returns-clause-turned : goal.returns-clause-turned
returns-clause-turned g c = let z = sizes c.args.map.now in let call = call_of c.args.pass.now in let v = state c.args.pass.now in let w = state c.remove.new.pass in
    removed c.remove.result z call c.args.key.now v w c.bytes_of.ensures.key
    (subst (λ (k : List ℕ). WroteFits c.remove.result call k cells.Remove v w) c.bytes_of.ensures.value c.remove.ensures.wrote)
