use Rattle.std.proofs.Common.{ℕ, subst, arith}
use Rattle.header_core.specs.declared.states.TheConstants.{LOCKED}
use Rattle.header_core.specs.Headers.{at_place}
use Rattle.oak_core.specs.Memory.{in_headers}
use Rattle.oak_model.specs.Limits.{Sizes}
use Rattle.oak_core.specs.Splitting.{Loads}
use Rattle.oak_core.specs.Passes.{state, key, call_of}
use Rattle.oak_core.proofs.memory.Words.{index_below}
use Rattle.value_ops.proofs.ComesFurther.{place_loaded}
use Rattle.value_ops.proofs.AlonePins.{load_finds}
use Rattle.value_ops.proofs.StampStores.{held_place, held_block}
use Rattle.value_ops.proofs.locking.Locked.place.Goals as goal

pub load-requires-clause-inside : goal.load-requires-clause-inside
load-requires-clause-inside c = let e = c.place_at.ensures in let b = index_below (key c.args.table.now) (in_headers (at_place c.args.self.now.header)) c.requires.locked.inside in omega arith

pub returns-clause-place : goal.returns-clause-place
returns-clause-place c = let k = c.requires.locked in
    held_place (key c.args.table.now) (call_of c.args.pass.now) c.args.self.now.header LOCKED c.place_at.result c.load.result (state c.args.pass.now) (state c.load.new.pass) k.inside (omega arith) (omega arith) k.locked c.load.ensures.loaded c.place_at.ensures

pub returns-clause-block : goal.returns-clause-block
returns-clause-block c = let k = c.requires.locked in
    held_block (key c.args.table.now) (call_of c.args.pass.now) c.args.self.now.header LOCKED c.place_at.result c.load.result (state c.args.pass.now) (state c.load.new.pass) k.inside (omega arith) (omega arith) k.locked c.load.ensures.loaded
    (held_place (key c.args.table.now) (call_of c.args.pass.now) c.args.self.now.header LOCKED c.place_at.result c.load.result (state c.args.pass.now) (state c.load.new.pass) k.inside (omega arith) (omega arith) k.locked c.load.ensures.loaded c.place_at.ensures)

pub returns-clause-met : goal.returns-clause-met
returns-clause-met c = place_loaded (key c.args.table.now) (call_of c.args.pass.now) c.place_at.result c.load.result (state c.args.pass.now) (state c.load.new.pass) c.args.self.now.header c.requires.locked.inside c.place_at.ensures c.load.ensures.loaded

pub returns-clause-loaded : goal.returns-clause-loaded
returns-clause-loaded c = let k = c.requires.locked in let h = c.args.self.now.header in let z : Sizes = key c.args.table.now in let call = call_of c.args.pass.now in let v = state c.args.pass.now in let w = state c.load.new.pass in
    let is = held_place z call h LOCKED c.place_at.result c.load.result v w k.inside (omega arith) (omega arith) k.locked c.load.ensures.loaded c.place_at.ensures in
    subst (λ (p : ℕ × ℕ). Loads z call p.0 v p.1 w) (λ i. (c.place_at.ensures i, is i)) c.load.ensures.loaded

pub returns-clause-limits : goal.returns-clause-limits
returns-clause-limits c = c.load.ensures.loaded.told.rule.sizes

pub returns-clause-alone : goal.returns-clause-alone
returns-clause-alone c = load_finds (key c.args.table.now) (call_of c.args.pass.now) c.place_at.result c.load.result (state c.args.pass.now) (state c.load.new.pass) (in_headers (at_place c.args.self.now.header)) c.requires.locked.inside c.place_at.ensures c.load.ensures.loaded
