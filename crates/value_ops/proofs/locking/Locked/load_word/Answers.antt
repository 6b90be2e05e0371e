use Rattle.std.proofs.Common.{◌+◌, arith}
use Rattle.value_ops.proofs.AlonePins.{load_stays}
use Rattle.oak_core.specs.Passes.{state, key, call_of}
use Rattle.value_ops.proofs.RewriteSteps.{word_below, word_small, word_loaded, word_met}
use Rattle.value_ops.proofs.locking.Locked.load_word.Goals as goal

pub overflow_add-first : goal.overflow_add-first
overflow_add-first c = let l = word_small (key c.args.table.now) c.args.self.now.header c.args.self.now.generation c.args.first (state c.args.pass.now) c.requires.words c.args.i c.requires.inside in omega arith

pub load-requires-clause-inside : goal.load-requires-clause-inside
load-requires-clause-inside c = word_below (key c.args.table.now) c.args.self.now.header c.args.self.now.generation c.args.first (state c.args.pass.now) c.requires.words c.args.i c.requires.inside

pub returns-clause-met : goal.returns-clause-met
returns-clause-met c = word_met (key c.args.table.now) c.args.self.now.header c.args.self.now.generation c.args.first (state c.args.pass.now) c.requires.words c.args.i c.requires.inside (call_of c.args.pass.now) c.load.result (state c.load.new.pass) c.load.ensures.loaded

pub returns-clause-word : goal.returns-clause-word
returns-clause-word c = word_loaded (key c.args.table.now) c.args.self.now.header c.args.self.now.generation c.args.first (state c.args.pass.now) c.requires.words c.args.i c.requires.inside
    (call_of c.args.pass.now) c.load.result (state c.load.new.pass) c.load.ensures.loaded

pub returns-clause-alone : goal.returns-clause-alone
returns-clause-alone c = load_stays (key c.args.table.now) (call_of c.args.pass.now) (c.args.first + c.args.i) c.load.result (state c.args.pass.now) (state c.load.new.pass) c.load.ensures.loaded
