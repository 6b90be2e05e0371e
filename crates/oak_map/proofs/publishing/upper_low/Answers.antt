use Rattle.oak_core.specs.Passes.{call_of, state}
use Rattle.chunk_ops.proofs.MeetingCalls.{only_both, only_in}
use Rattle.oak_map.proofs.publishing.upper_low.Goals as goal

pub returns-clause-only : goal.returns-clause-only
returns-clause-only g c = let call = call_of c.args.pass.now in let v = state c.args.pass.now in let w = state c.read_room.new.pass in let x = state c.lower_high.new.pass in
    only_both call v w x c.read_room.ensures.only (only_in call (call_of c.read_room.new.pass) w x c.read_room.ensures.own.call c.lower_high.ensures.only)
