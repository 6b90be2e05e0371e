use Rattle.oak_core.specs.Passes.{call_of as table_call, state as table_state}
use Rattle.chunk_ops.proofs.MeetingCalls.{only_in}
use Rattle.oak_map.specs.Maps.{sizes}
use Rattle.oak_map.proofs.MendedMaps.{settles_still}
use Rattle.oak_map.proofs.settling.settle_map.Goals as goal

pub returns-clause-settled : goal.returns-clause-settled
returns-clause-settled g c = let call = table_call c.args.pass.now in let v = table_state c.args.pass.now in let x = table_state c.settle.new.pass in let w = table_state c.mend.new.pass in
    settles_still (sizes c.args.map.now) call v x w c.settle.ensures.settled (only_in call (table_call c.settle.new.pass) x w c.settle.ensures.own.call c.mend.ensures.only) c.mend.ensures.ended
