use Rattle.std.proofs.Common.{refl, ◌∙◌}
use Rattle.oak_core.specs.Passes.{state, key as sizes, call_of}
use Rattle.oak_core.proofs.calls.CallSteps.{stands_learns}
use Rattle.chunk_ops.specs.AskedRanges.{CoversKey}
use Rattle.scan_cursor.proofs.RoomReads.{room_absent, room_here, room_known, room_later, room_leaves, room_nothing, room_stays, room_then}
use Rattle.scan_cursor.proofs.VainLooks.{moved_covering, room_vain}
use Rattle.scan_cursor.proofs.reading.read_key.Goals as goal

pub read_life-requires-clause-idle : goal.read_life-requires-clause-idle
read_life-requires-clause-idle c = room_nothing (sizes c.args.table.now) (call_of c.args.pass.now) c.in-Ok.pin.room (CoversKey c.args.key.now) (state c.args.pass.now) (state c.pin_covering.new.pass) (state c.look_up-life.new.pass) (state c.unpin.new.pass) c.requires.idle c.in-Ok.ensures.pinned
    _ _ c.pin_covering.ensures.own.call (c.look_up-life.ensures.own.call ∙ c.pin_covering.ensures.own.call) c.look_up-life.ensures.under c.look_up-life.ensures.quiet c.unpin.ensures.unpinned

pub read_life-requires-clause-known : goal.read_life-requires-clause-known
read_life-requires-clause-known c = room_known (sizes c.args.table.now) (call_of c.args.pass.now) c.in-Ok.pin.room (CoversKey c.args.key.now) (state c.args.pass.now) (state c.pin_covering.new.pass) (state c.look_up-life.new.pass) (state c.unpin.new.pass) c.requires.idle c.in-Ok.ensures.pinned
    _ _ c.pin_covering.ensures.own.call (c.look_up-life.ensures.own.call ∙ c.pin_covering.ensures.own.call) c.look_up-life.ensures.under c.look_up-life.ensures.quiet c.unpin.ensures.unpinned c.args.key.now c.in-Some.header c.in-Some.generation c.in-Some.ensures.found
    _ (c.unpin.ensures.own.call ∙ (c.look_up-life.ensures.own.call ∙ c.pin_covering.ensures.own.call))

pub returns-in-Some-clause-later : goal.returns-in-Some-clause-later
returns-in-Some-clause-later c = room_then (sizes c.args.table.now) (call_of c.args.pass.now) c.in-Ok.pin.room (CoversKey c.args.key.now) (state c.args.pass.now) (state c.pin_covering.new.pass) (state c.look_up-life.new.pass) (state c.unpin.new.pass) c.requires.idle c.in-Ok.ensures.pinned
    _ _ c.pin_covering.ensures.own.call (c.look_up-life.ensures.own.call ∙ c.pin_covering.ensures.own.call) c.look_up-life.ensures.under c.look_up-life.ensures.quiet c.unpin.ensures.unpinned c.args.key.now c.in-Some.header c.in-Some.generation c.in-Some.ensures.found
    _ (c.unpin.ensures.own.call ∙ (c.look_up-life.ensures.own.call ∙ c.pin_covering.ensures.own.call)) c.read_life.result (state c.read_life.new.pass) c.read_life.ensures.later

pub returns-in-Some-clause-here : goal.returns-in-Some-clause-here
returns-in-Some-clause-here c = room_here (sizes c.args.table.now) (call_of c.args.pass.now) c.in-Ok.pin.room (CoversKey c.args.key.now) (state c.args.pass.now) (state c.pin_covering.new.pass) (state c.look_up-life.new.pass) (state c.unpin.new.pass) c.requires.idle c.in-Ok.ensures.pinned
    _ _ c.pin_covering.ensures.own.call (c.look_up-life.ensures.own.call ∙ c.pin_covering.ensures.own.call) c.look_up-life.ensures.under c.look_up-life.ensures.quiet c.unpin.ensures.unpinned c.args.key.now c.in-Some.header c.in-Some.generation c.in-Some.ensures.found
    _ (c.unpin.ensures.own.call ∙ (c.look_up-life.ensures.own.call ∙ c.pin_covering.ensures.own.call)) c.read_life.result (state c.read_life.new.pass) c.read_life.ensures.here

pub returns-in-Some-clause-still : goal.returns-in-Some-clause-still
returns-in-Some-clause-still c = room_leaves (sizes c.args.table.now) (call_of c.args.pass.now) c.in-Ok.pin.room (CoversKey c.args.key.now) (state c.args.pass.now) (state c.pin_covering.new.pass) (state c.look_up-life.new.pass) (state c.unpin.new.pass) c.requires.idle c.in-Ok.ensures.pinned
    _ _ c.pin_covering.ensures.own.call (c.look_up-life.ensures.own.call ∙ c.pin_covering.ensures.own.call) c.look_up-life.ensures.under c.look_up-life.ensures.quiet c.unpin.ensures.unpinned c.args.key.now c.in-Some.header c.in-Some.generation c.in-Some.ensures.found
    _ (c.unpin.ensures.own.call ∙ (c.look_up-life.ensures.own.call ∙ c.pin_covering.ensures.own.call)) c.read_life.result (state c.read_life.new.pass) c.look_up-life.ensures.still c.read_life.ensures.still

pub returns-in-None-clause-later : goal.returns-in-None-clause-later
returns-in-None-clause-later c = room_later (sizes c.args.table.now) (call_of c.args.pass.now) c.in-Ok.pin.room (CoversKey c.args.key.now) (state c.args.pass.now) (state c.pin_covering.new.pass) (state c.look_up-life.new.pass) (state c.unpin.new.pass) c.requires.idle c.in-Ok.ensures.pinned
    _ _ c.pin_covering.ensures.own.call (c.look_up-life.ensures.own.call ∙ c.pin_covering.ensures.own.call) c.look_up-life.ensures.under c.look_up-life.ensures.quiet c.unpin.ensures.unpinned

pub returns-in-None-clause-here : goal.returns-in-None-clause-here
returns-in-None-clause-here c = room_absent (sizes c.args.table.now) (call_of c.args.pass.now) c.in-Ok.pin.room (CoversKey c.args.key.now) (state c.args.pass.now) (state c.pin_covering.new.pass) (state c.look_up-life.new.pass) (state c.unpin.new.pass) c.requires.idle c.in-Ok.ensures.pinned
    _ _ c.pin_covering.ensures.own.call (c.look_up-life.ensures.own.call ∙ c.pin_covering.ensures.own.call) c.look_up-life.ensures.under c.look_up-life.ensures.quiet c.unpin.ensures.unpinned c.args.key.now c.in-None.ensures.found

pub returns-in-None-clause-still : goal.returns-in-None-clause-still
returns-in-None-clause-still c = room_stays (sizes c.args.table.now) (call_of c.args.pass.now) c.in-Ok.pin.room (CoversKey c.args.key.now) (state c.args.pass.now) (state c.pin_covering.new.pass) (state c.look_up-life.new.pass) (state c.unpin.new.pass) c.requires.idle c.in-Ok.ensures.pinned
    _ _ c.pin_covering.ensures.own.call (c.look_up-life.ensures.own.call ∙ c.pin_covering.ensures.own.call) c.look_up-life.ensures.under c.look_up-life.ensures.quiet c.unpin.ensures.unpinned c.look_up-life.ensures.still

pub returns-in_default-clause-later : goal.returns-in_default-clause-later
returns-in_default-clause-later c = let o = c.in_default.ensures.only in record { sizes = refl; call = refl; learns = stands_learns (call_of c.args.pass.now) (state c.args.pass.now) (state c.pin_covering.new.pass) o.stands; quiet = o.quiet }

pub returns-in_default-clause-again : goal.returns-in_default-clause-again
returns-in_default-clause-again c is = moved_covering (sizes c.args.table.now) (call_of c.args.pass.now) c.args.key.now (state c.args.pass.now) (state c.pin_covering.new.pass) c.requires.idle c.in_default.ensures.moved c.in_default.ensures.alone

pub returns-in-Some-clause-again : goal.returns-in-Some-clause-again
returns-in-Some-clause-again c is = room_vain (sizes c.args.table.now) (call_of c.args.pass.now) c.in-Ok.pin.room (CoversKey c.args.key.now) (state c.args.pass.now) (state c.pin_covering.new.pass) (state c.look_up-life.new.pass) (state c.unpin.new.pass) c.requires.idle c.in-Ok.ensures.pinned
    _ _ c.pin_covering.ensures.own.call (c.look_up-life.ensures.own.call ∙ c.pin_covering.ensures.own.call) c.look_up-life.ensures.under c.look_up-life.ensures.quiet c.unpin.ensures.unpinned c.args.key.now c.in-Some.header c.in-Some.generation c.in-Some.ensures.found
    _ (c.unpin.ensures.own.call ∙ (c.look_up-life.ensures.own.call ∙ c.pin_covering.ensures.own.call)) c.in-Some.ensures.named (state c.read_life.new.pass) (c.read_life.ensures.taken is)
