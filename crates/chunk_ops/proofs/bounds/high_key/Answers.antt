use Rattle.oak_core.specs.Passes.{state, call_of}
use Rattle.chunk_ops.proofs.MeetingCalls.{only_both, only_in}
use Rattle.chunk_ops.proofs.bounds.high_key.Goals as goal

pub returns-clause-only : goal.returns-clause-only
returns-clause-only c = let l = c.high_len in let call = call_of c.args.pass.now in let v = state c.args.pass.now in let w = state l.new.pass in let x = state c.load_bound.new.pass in
    only_both call v w x l.ensures.only (only_in call (call_of l.new.pass) w x l.ensures.own.call c.load_bound.ensures.only)
