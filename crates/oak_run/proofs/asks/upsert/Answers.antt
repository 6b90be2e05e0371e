use Rattle.std.proofs.Common.{List, ℕ, subst}
use Rattle.oak_model.specs.declared.cells.CellCall.TheVariants as cells
use Rattle.oak_model.specs.declared.recipes.RecipeKind.{RecipeKind}
use Rattle.oak_map.specs.Maps.{call_of, sizes, state}
use Rattle.oak_run.specs.LoneCalls.{PutsSo}
use Rattle.oak_run.proofs.AskCalls.{upserted}
use Rattle.oak_run.proofs.asks.upsert.Goals as goal

pub returns-clause-turned : goal.returns-clause-turned
returns-clause-turned g c = let z = sizes c.args.map.now in let call = call_of c.args.pass.now in let v = state c.args.pass.now in let w = state c.upsert.new.pass in let e = c.upsert.ensures in
    upserted c.upsert.result z call c.args.key.now c.args.value.now c.args.kind c.args.argument v w c.bytes_of.ensures.key
    (subst (λ (x : List ℕ × List ℕ × RecipeKind × ℕ). PutsSo z call (record { key = x.0; cell = cells.Upsert x.1 x.2 x.3 }) c.upsert.result v w) (λ i. (c.bytes_of.ensures.value i, c.bytes.ensures.bytes i, c.tell.ensures.0 i, c.tell.ensures.1.0 i)) (record { fits = e.wrote; alone = e.alone_reply; runs = e.alone }))
