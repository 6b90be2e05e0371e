use Rattle.oak_core.specs.Passes.{state, key, call_of}
use Rattle.rebalance.proofs.HeldParts.{works_then}
use Rattle.rebalance.proofs.held_table.empty_key.Goals as goal

pub returns-clause-works : goal.returns-clause-works
returns-clause-works c = works_then (key c.args.table.now) (call_of c.args.pass.now) (call_of c.load_at-place.new.pass) (state c.args.pass.now) (state c.load_at-place.new.pass) (state c.clear_key.new.pass) c.load_at-place.ensures.own.call c.load_at-place.ensures.works c.clear_key.ensures.works
