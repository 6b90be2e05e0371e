use Rattle.oak_core.specs.Passes.{state, call_of}
use Rattle.chunk_ops.proofs.MeetingCalls.{only_both, only_in}
use Rattle.scan_cursor.proofs.walking.end_batch.Goals as goal

pub returns-clause-only : goal.returns-clause-only
returns-clause-only c = let call = call_of c.args.pass.now in let v = state c.args.pass.now in let w = state c.batch_bound-end.new.pass in let x = state c.load_batch_ahead.new.pass in
    only_both call v w x c.batch_bound-end.ensures.only (only_in call _ w x c.batch_bound-end.ensures.own.call c.load_batch_ahead.ensures.only)
