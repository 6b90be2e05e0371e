use Rattle.std.proofs.Common.{ap, ◌∙◌}
use Rattle.chunk_core.specs.RoomStep.{put_room}
use Rattle.chunk_core.specs.Rooms.{RoomMemory, at_value}
use Rattle.oak_core.specs.Passes.{state, key, call_of}
use Rattle.oak_core.proofs.seats.SamePass.{stays_both}
use Rattle.rebalance.proofs.HeldParts.{alone_still, works_then}
use Rattle.rebalance.proofs.held_table.clear_entry.Goals as goal

pub set_at-requires-clause-held : goal.set_at-requires-clause-held
set_at-requires-clause-held c = alone_still (key c.args.table.now) (call_of c.args.pass.now) c.args.room (state c.args.pass.now) (state c.empty_key.new.pass) c.empty_key.ensures.works c.requires.held

pub returns-clause-own : goal.returns-clause-own
returns-clause-own c = stays_both c.empty_key.ensures.own c.set_at.ensures.own

pub returns-clause-works : goal.returns-clause-works
returns-clause-works c = works_then (key c.args.table.now) (call_of c.args.pass.now) (call_of c.empty_key.new.pass) (state c.args.pass.now) (state c.empty_key.new.pass) (state c.set_at.new.pass) c.empty_key.ensures.own.call c.empty_key.ensures.works c.set_at.ensures.works

pub returns-clause-ranges : goal.returns-clause-ranges
returns-clause-ranges c = c.set_at.ensures.ranges ∙ c.empty_key.ensures.ranges

pub returns-clause-cleared : goal.returns-clause-cleared
returns-clause-cleared c = c.set_at.ensures.stored ∙ ap (λ (m : RoomMemory). put_room m (at_value c.args.room c.args.entry) 0) c.empty_key.ensures.cleared
