use Rattle.oak_core.specs.Passes.{call_of, key as sizes, state}
use Rattle.oak_core.proofs.seats.SamePass.{stays_both}
use Rattle.chunk_ops.proofs.MeetingCalls.{only_both, only_in}
use Rattle.scan_cursor.proofs.WordsAhead.{plain_below, plain_loaded}
use Rattle.scan_cursor.proofs.loading_ahead.load_all.Goals as goal

pub load-requires-clause-inside : goal.load-requires-clause-inside
load-requires-clause-inside c = plain_below (sizes c.args.table.now) _ (c.requires.words c.loop-word.word-index)

pub loop-word-preserved : goal.loop-word-preserved
loop-word-preserved c = let z = sizes c.args.table.now in let p = c.args.pass.now in let l = c.loop-word in let i = l.invariant in let call = call_of p in record {
  own = stays_both i.own c.load.ensures.own;
  only = only_both call (state p) (state l.pass) (state c.load.new.pass) i.only
      (only_in call (call_of l.pass) (state l.pass) (state c.load.new.pass) i.own.call (plain_loaded z _ (c.requires.words l.word-index) (call_of l.pass) c.load.result (state l.pass) (state c.load.new.pass) c.load.ensures.loaded));
}
