use Rattle.std.proofs.Common.{List, ℕ, subst}
use Rattle.oak_model.specs.declared.cells.CellCall.TheVariants as cells
use Rattle.oak_model.specs.declared.recipes.RecipeKind.{RecipeKind}
use Rattle.oak_map.specs.Maps.{call_of, sizes, state}
use Rattle.point_ops.specs.Parts.{WroteFits}
use Rattle.oak_run.proofs.AskCalls.{computed}
use Rattle.oak_run.proofs.asks.compute.Goals as goal

pub returns-clause-turned : goal.returns-clause-turned
returns-clause-turned g c = let z = sizes c.args.map.now in let call = call_of c.args.pass.now in let v = state c.args.pass.now in let w = state c.compute.new.pass in
    computed c.compute.result z call c.args.key.now c.args.kind c.args.argument v w c.bytes_of.ensures.key
    (subst (λ (x : List ℕ × RecipeKind × ℕ). WroteFits c.compute.result call x.0 (cells.Compute x.1 x.2) v w) (λ i. (c.bytes_of.ensures.value i, c.tell.ensures.0 i, c.tell.ensures.1.0 i)) c.compute.ensures.wrote)
