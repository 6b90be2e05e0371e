use Rattle.oak_core.specs.Passes.{state, key as sizes, call_of}
use Rattle.rebalance.proofs.FrontLaws.{front_held, front_opened, front_opens}
use Rattle.rebalance.proofs.chunks.open_front.Goals as goal

pub open_held-requires-clause-inside : goal.open_held-requires-clause-inside
open_held-requires-clause-inside c = c.requires.front.4.inside

pub open_held-requires-clause-held : goal.open_held-requires-clause-held
open_held-requires-clause-held c = let h = c.requires.front in front_held (sizes c.args.table.now) c.args.room h.0 h.1 h.2 h.3 (state c.args.pass.now) h.4

pub open_held-requires-clause-may : goal.open_held-requires-clause-may
open_held-requires-clause-may c = let h = c.requires.front in front_opens (sizes c.args.table.now) c.args.room h.0 h.1 h.2 h.3 (state c.args.pass.now) h.4 h.5 h.6

pub returns-clause-opens : goal.returns-clause-opens
returns-clause-opens c = λ w g hs gs f. front_opened (sizes c.args.table.now) (call_of c.args.pass.now) c.args.room w g hs gs (state c.args.pass.now) (state c.open_held.new.pass) f c.open_held.ensures.opens
