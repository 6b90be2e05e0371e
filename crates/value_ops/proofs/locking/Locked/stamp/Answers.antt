use Rattle.std.proofs.Common.{ℕ, subst, arith}
use Rattle.header_core.specs.declared.states.TheConstants.{LOCKED}
use Rattle.header_core.specs.Headers.{at_stamp}
use Rattle.oak_core.specs.Memory.{in_headers}
use Rattle.oak_core.specs.Passes.{state, key, call_of}
use Rattle.oak_core.specs.Splitting.{Loads}
use Rattle.oak_core.proofs.memory.Words.{index_below}
use Rattle.value_ops.proofs.ComesFurther.{stamp_loaded}
use Rattle.value_ops.proofs.AlonePins.{load_finds}
use Rattle.value_ops.proofs.StampStores.{held_stamp}
use Rattle.value_ops.proofs.locking.Locked.stamp.Goals as goal

pub load-requires-clause-inside : goal.load-requires-clause-inside
load-requires-clause-inside c = let e = c.stamp_at.ensures in let b = index_below (key c.args.table.now) (in_headers (at_stamp c.args.self.now.header)) c.requires.locked.inside in omega arith

pub returns-clause-stamp : goal.returns-clause-stamp
returns-clause-stamp c = let k = c.requires.locked in
    held_stamp (key c.args.table.now) (call_of c.args.pass.now) c.args.self.now.header LOCKED c.stamp_at.result c.load.result (state c.args.pass.now) (state c.load.new.pass) k.inside (omega arith) (omega arith) k.locked c.load.ensures.loaded c.stamp_at.ensures

pub returns-clause-met : goal.returns-clause-met
returns-clause-met c = stamp_loaded (key c.args.table.now) (call_of c.args.pass.now) c.stamp_at.result c.load.result (state c.args.pass.now) (state c.load.new.pass) c.args.self.now.header c.requires.locked.inside c.stamp_at.ensures c.requires.locked.locked c.load.ensures.loaded

pub returns-clause-loaded : goal.returns-clause-loaded
returns-clause-loaded c = subst (λ (k : ℕ). Loads (key c.args.table.now) (call_of c.args.pass.now) k (state c.args.pass.now) c.load.result (state c.load.new.pass)) c.stamp_at.ensures c.load.ensures.loaded

pub returns-clause-alone : goal.returns-clause-alone
returns-clause-alone c = load_finds (key c.args.table.now) (call_of c.args.pass.now) c.stamp_at.result c.load.result (state c.args.pass.now) (state c.load.new.pass) (in_headers (at_stamp c.args.self.now.header)) c.requires.locked.inside c.stamp_at.ensures c.load.ensures.loaded
