use Rattle.std.proofs.Common.{◌∙◌, length-set, arith}
use Rattle.oak_core.specs.Passes.{call_of, key as sizes, state}
use Rattle.oak_core.proofs.seats.SamePass.{stays_both}
use Rattle.chunk_ops.proofs.MeetingCalls.{only_both, only_in}
use Rattle.scan_cursor.proofs.WordsAhead.{plain_below, plain_loaded, words_set}
use Rattle.scan_cursor.proofs.loading_ahead.follow_places.Goals as goal

pub load-place-requires-clause-inside : goal.load-place-requires-clause-inside
load-place-requires-clause-inside c = plain_below (sizes c.args.table.now) _ (c.loop-i.invariant.words c.loop-i.i)

pub loop-i-preserved : goal.loop-i-preserved
loop-i-preserved c = let z = sizes c.args.table.now in let p = c.args.pass.now in let l = c.loop-i in let i = l.invariant in let call = call_of p in record {
  own = stays_both i.own c.load-place.ensures.own;
  only = only_both call (state p) (state l.pass) (state c.load-place.new.pass) i.only
      (only_in call (call_of l.pass) (state l.pass) (state c.load-place.new.pass) i.own.call (plain_loaded z _ (i.words l.i) (call_of l.pass) c.load-place.result (state l.pass) (state c.load-place.new.pass) c.load-place.ensures.loaded));
  blocks = c.start_of_block.ensures.blocks;
  long = length-set l.words l.i c.start_of_block.result ∙ i.long;
  words = words_set z l.words l.i c.start_of_block.result (let t = c.loop-i-test.true in let e = i.long in omega arith) i.words c.start_of_block.ensures.word;
}
