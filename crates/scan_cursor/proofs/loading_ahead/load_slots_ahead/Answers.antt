use Rattle.oak_core.specs.Passes.{call_of, state}
use Rattle.chunk_ops.proofs.MeetingCalls.{only_both, only_in}
use Rattle.scan_cursor.proofs.loading_ahead.load_slots_ahead.Goals as goal

pub returns-clause-only : goal.returns-clause-only
returns-clause-only c = let call = call_of c.args.pass.now in let v = state c.args.pass.now in let w = state c.follow_places.new.pass in let x = state c.load_all.new.pass in
    only_both call v w x c.follow_places.ensures.only (only_in call (call_of c.follow_places.new.pass) w x c.follow_places.ensures.own.call c.load_all.ensures.only)
