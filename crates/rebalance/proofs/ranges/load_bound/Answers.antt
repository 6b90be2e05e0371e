use Rattle.std.proofs.Common.{◌∙◌, arith}
use Rattle.rebalance.proofs.LoadedBounds.{bound_filled, bound_stored}
use Rattle.rebalance.proofs.ranges.load_bound.Goals as goal

pub loop-i-preserved : goal.loop-i-preserved
loop-i-preserved g c = let i = c.loop-i.invariant in let w = c.load-word in let d = c.div_ceil-i-end.ensures in let t = c.loop-i-test.true in record {
  stays = g.met.H.HeldRooms.stays_on c.args.rooms.now c.loop-i.rooms w.new.self i.stays w.ensures.stays;
  rooms = w.ensures.rooms ∙ i.rooms;
  ranges = w.ensures.ranges ∙ i.ranges;
  slots = w.ensures.slots ∙ i.slots;
  words = bound_filled (g.H.HeldRooms.rooms c.args.rooms.now) c.args.room c.args.bound c.args.length c.loop-i.i w.result c.first_bytes.result (g.H.HeldRooms.rooms c.loop-i.rooms) c.word.result c.loop-i.words
      c.requires.few (omega arith) i.rooms c.word.ensures w.ensures.word c.first_bytes.ensures i.words;
}

pub returns-clause-key : goal.returns-clause-key
returns-clause-key g c = let d = c.div_ceil-i-end.ensures in let t = c.loop-i-test.false in
    bound_stored (g.H.HeldRooms.rooms c.args.rooms.now) c.args.room c.args.bound c.args.length c.loop-i.i c.loop-i.words c.from_words.result c.requires.few (omega arith) c.loop-i.invariant.words c.from_words.ensures
