use Rattle.std.proofs.Common.{arith}
use Rattle.oak_core.specs.Passes.{state, call_of}
use Rattle.oak_core.proofs.seats.SamePass.{stays_both}
use Rattle.chunk_ops.specs.PinRecords.{room_pin}
use Rattle.chunk_ops.proofs.BoundKeys.{bound_filled, bound_stored}
use Rattle.chunk_ops.proofs.BoundWords.{same_pin}
use Rattle.chunk_ops.proofs.MeetingCalls.{only_both, only_in}
use Rattle.chunk_ops.proofs.bounds.load_bound.Goals as goal

pub loop-i-preserved : goal.loop-i-preserved
loop-i-preserved c = let i = c.loop-i.invariant in let w = c.bound_word-word in let d = c.div_ceil-i-end.ensures in let t = c.loop-i-test.true in
    let call = call_of c.args.pass.now in let v = state c.args.pass.now in let u = state c.loop-i.pass in record {
      stays = stays_both i.stays w.ensures.own;
      only = only_both call v u (state w.new.pass) i.only (only_in call (call_of c.loop-i.pass) u (state w.new.pass) i.stays.call w.ensures.only);
      words = bound_filled (room_pin v) c.requires.pinned.bounds c.args.bound c.args.length c.loop-i.i w.result c.first_bytes.result (room_pin u) c.loop-i.words
          c.requires.long (omega arith) (same_pin call v u i.only) w.ensures.word c.first_bytes.ensures i.words;
    }

pub returns-clause-key : goal.returns-clause-key
returns-clause-key c = let d = c.div_ceil-i-end.ensures in let t = c.loop-i-test.false in
    bound_stored (room_pin (state c.args.pass.now)) c.requires.pinned.bounds c.args.bound c.args.length c.loop-i.i c.loop-i.words c.from_words.result c.requires.long (omega arith) c.loop-i.invariant.words c.from_words.ensures
