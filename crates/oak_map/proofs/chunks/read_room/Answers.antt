use Rattle.std.proofs.Common.{ℕ, subst}
use Rattle.oak_core.specs.Passes.{call_of, key as sizes, state}
use Rattle.chunk_ops.specs.AskedRanges.{CoversKey}
use Rattle.chunk_ops.specs.RoomPins.{Unpins}
use Rattle.chunk_ops.proofs.MeetingCalls.{only_in}
use Rattle.oak_map.proofs.ChunkReads.{read_only}
use Rattle.oak_map.proofs.chunks.read_room.Goals as goal

pub returns-clause-only : goal.returns-clause-only
returns-clause-only c = let z = sizes c.args.table.now in let call = call_of c.args.pass.now in let room = c.in-Some.pin.room in let v = state c.args.pass.now in let w = state c.pin_hinted.new.pass in let u = state c.read_pinned.new.pass in
    let r = c.read_pinned.ensures.read in let first = c.pin_hinted.ensures.own.call in
    read_only z call room (CoversKey c.args.key.now) v w r.0 u c.requires.idle c.in-Some.ensures.pinned
    (only_in call (call_of c.pin_hinted.new.pass) w r.0 first r.1)
    (subst (λ (k : ℕ). Unpins z k room r.0 u) first r.2)
