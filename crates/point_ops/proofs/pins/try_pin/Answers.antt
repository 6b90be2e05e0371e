use Rattle.std.proofs.Common.{inl, ◌∙◌}
use Rattle.oak_model.specs.declared.cells.CellCall.TheVariants.{Get}
use Rattle.oak_core.specs.Passes.{state, key as sizes, call_of}
use Rattle.oak_core.specs.QuietSteps.{IsQuiet}
use Rattle.chunk_ops.specs.AskedRanges.{CoversKey}
use Rattle.point_ops.proofs.LoneAnswers.{all_same_alone}
use Rattle.point_ops.proofs.LoneCalls.{room_found, room_never}
use Rattle.point_ops.proofs.Outcomes.{ok_map, err_map}
use Rattle.point_ops.proofs.OwnSteps.{only_in}
use Rattle.point_ops.proofs.PinnedCalls.{all_halts, all_refuses, under_keeps, met_refuses}
use Rattle.point_ops.proofs.PinnedLives.{all_pinned, all_pins_alone}
use Rattle.point_ops.proofs.pins.try_pin.Goals as goal

pub returns-clause-quiet : goal.returns-clause-quiet
returns-clause-quiet c = only_in IsQuiet (state c.args.pass.now) (state c.pin_for.new.pass) (state c.pin_under-found.new.pass) (state c.unpin.new.pass) c.in-Ok.ensures.pinned.quiet c.pin_under-found.ensures.quiet c.unpin.ensures.unpinned.quiet

pub returns-clause-found : goal.returns-clause-found
returns-clause-found c = ok_map _ _ c.pin_under-found.result (λ y l. all_pinned (sizes c.args.table.now) (call_of c.args.pass.now) c.in-Ok.pin.room (CoversKey c.args.key.now) (state c.args.pass.now) (state c.pin_for.new.pass) (state c.pin_under-found.new.pass) (state c.unpin.new.pass) c.requires.idle c.in-Ok.ensures.pinned
    _ _ c.pin_for.ensures.own.call (c.pin_under-found.ensures.own.call ∙ c.pin_for.ensures.own.call) c.unpin.ensures.unpinned y c.args.key.now l) c.pin_under-found.ensures.found

pub returns-clause-refused : goal.returns-clause-refused
returns-clause-refused c = err_map _ _ c.pin_under-found.result (λ y l. all_refuses (sizes c.args.table.now) (call_of c.args.pass.now) c.in-Ok.pin.room (CoversKey c.args.key.now) (state c.args.pass.now) (state c.pin_for.new.pass) (state c.pin_under-found.new.pass) (state c.unpin.new.pass) c.requires.idle c.in-Ok.ensures.pinned
    _ _ c.pin_for.ensures.own.call (c.pin_under-found.ensures.own.call ∙ c.pin_for.ensures.own.call) (under_keeps (sizes c.args.table.now) _ c.in-Ok.pin.room (state c.pin_for.new.pass) (state c.pin_under-found.new.pass) l.1) c.unpin.ensures.unpinned l.1.learns) c.pin_under-found.ensures.refused

pub returns-clause-halted : goal.returns-clause-halted
returns-clause-halted c = err_map _ _ c.pin_under-found.result (λ y l. all_halts (sizes c.args.table.now) (call_of c.args.pass.now) c.in-Ok.pin.room (CoversKey c.args.key.now) (state c.args.pass.now) (state c.pin_for.new.pass) (state c.pin_under-found.new.pass) (state c.unpin.new.pass) c.requires.idle c.in-Ok.ensures.pinned
    _ _ c.pin_for.ensures.own.call (c.pin_under-found.ensures.own.call ∙ c.pin_for.ensures.own.call) (under_keeps (sizes c.args.table.now) _ c.in-Ok.pin.room (state c.pin_for.new.pass) (state c.pin_under-found.new.pass) l.1) c.unpin.ensures.unpinned c.args.key.now Get y l.2) c.pin_under-found.ensures.refused

pub returns-clause-either : goal.returns-clause-either
returns-clause-either c = err_map _ _ c.pin_under-found.result (λ y l. inl l.0) c.pin_under-found.ensures.refused

pub returns-in_default-clause-refused : goal.returns-in_default-clause-refused
returns-in_default-clause-refused c = met_refuses (call_of c.args.pass.now) (state c.args.pass.now) (state c.pin_for.new.pass) c.in_default.ensures.only

-- to a pass that is alone

pub returns-clause-alone_same : goal.returns-clause-alone_same
returns-clause-alone_same c = err_map _ _ c.pin_under-found.result (λ y l. all_same_alone (sizes c.args.table.now) (call_of c.args.pass.now) c.in-Ok.pin.room (CoversKey c.args.key.now) (state c.args.pass.now) (state c.pin_for.new.pass) (state c.pin_under-found.new.pass) (state c.unpin.new.pass) c.requires.idle c.in-Ok.ensures.pinned
    _ _ c.pin_for.ensures.own.call (c.pin_under-found.ensures.own.call ∙ c.pin_for.ensures.own.call) c.unpin.ensures.unpinned (under_keeps (sizes c.args.table.now) _ c.in-Ok.pin.room (state c.pin_for.new.pass) (state c.pin_under-found.new.pass) l.1) l.1.learns) c.pin_under-found.ensures.refused

pub returns-clause-alone : goal.returns-clause-alone
returns-clause-alone c = all_pins_alone (sizes c.args.table.now) (call_of c.args.pass.now) c.in-Ok.pin.room (CoversKey c.args.key.now) (state c.args.pass.now) (state c.pin_for.new.pass) (state c.pin_under-found.new.pass) (state c.unpin.new.pass) c.requires.idle c.in-Ok.ensures.pinned
    _ _ c.pin_for.ensures.own.call (c.pin_under-found.ensures.own.call ∙ c.pin_for.ensures.own.call) c.unpin.ensures.unpinned c.pin_under-found.result c.args.key.now c.pin_under-found.ensures.found c.pin_under-found.ensures.alone

pub returns-in_default-clause-alone_same : goal.returns-in_default-clause-alone_same
returns-in_default-clause-alone_same c = room_never (sizes c.args.table.now) (state c.args.pass.now) (state c.pin_for.new.pass) c.requires.idle c.in_default.ensures.alone

pub returns-in_default-clause-alone : goal.returns-in_default-clause-alone
returns-in_default-clause-alone c = room_found (state c.args.pass.now) (state c.pin_for.new.pass) _ c.requires.idle c.in_default.ensures.alone
