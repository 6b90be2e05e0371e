use Rattle.std.proofs.Common.{List, ℕ, subst}
use Rattle.oak_model.specs.declared.cells.CellCall.TheVariants as cells
use Rattle.oak_map.specs.Maps.{call_of, sizes, state}
use Rattle.oak_run.specs.LoneCalls.{PutsSo}
use Rattle.oak_run.proofs.AskCalls.{put_new}
use Rattle.oak_run.proofs.asks.put_new.Goals as goal

pub returns-clause-turned : goal.returns-clause-turned
returns-clause-turned g c = let z = sizes c.args.map.now in let call = call_of c.args.pass.now in let v = state c.args.pass.now in let w = state c.put_if_absent.new.pass in let e = c.put_if_absent.ensures in
    put_new c.put_if_absent.result z call c.args.key.now c.args.value.now v w c.bytes_of.ensures.key
    (subst (λ (x : List ℕ × List ℕ). PutsSo z call (record { key = x.0; cell = cells.PutNew x.1 }) c.put_if_absent.result v w) (λ i. (c.bytes_of.ensures.value i, c.bytes.ensures.bytes i)) (record { fits = e.wrote; alone = e.alone_reply; runs = e.alone }))
