use Rattle.point_ops.proofs.LonePutPins.{pinned_put_leaves}
use Rattle.std.proofs.Common.{◌∙◌}
use Rattle.oak_model.specs.declared.cells.CellCall.TheVariants.{PutNew}
use Rattle.oak_core.specs.Passes.{state, key as sizes, call_of}
use Rattle.chunk_ops.specs.AskedRanges.{CoversKey}
use Rattle.point_ops.proofs.LoneAnswers.{all_same_alone, all_wrote_alone}
use Rattle.point_ops.proofs.Outcomes.{ok_map, err_map}
use Rattle.point_ops.proofs.PinnedCalls.{all_answers, all_halts, all_refuses, met_refuses}
use Rattle.point_ops.proofs.LoneCalls.{room_found, room_never}
use Rattle.point_ops.proofs.LonePins.{pinned_puts}
use Rattle.point_ops.proofs.puts.try_put_if_absent.Goals as goal

pub returns-clause-wrote : goal.returns-clause-wrote
returns-clause-wrote c = ok_map _ _ c.put_pinned-wrote.result (λ y l. all_answers (sizes c.args.table.now) (call_of c.args.pass.now) c.in-Ok.pin.room (CoversKey c.args.key.now) (state c.args.pass.now) (state c.pin_for.new.pass) (state c.put_pinned-wrote.new.pass) (state c.unpin.new.pass) c.requires.idle c.in-Ok.ensures.pinned
    _ _ c.pin_for.ensures.own.call (c.put_pinned-wrote.ensures.own.call ∙ c.pin_for.ensures.own.call) c.put_pinned-wrote.ensures.held c.unpin.ensures.unpinned y c.args.key.now (PutNew c.args.value.now) l) c.put_pinned-wrote.ensures.got

pub returns-clause-refused : goal.returns-clause-refused
returns-clause-refused c = err_map _ _ c.put_pinned-wrote.result (λ y l. all_refuses (sizes c.args.table.now) (call_of c.args.pass.now) c.in-Ok.pin.room (CoversKey c.args.key.now) (state c.args.pass.now) (state c.pin_for.new.pass) (state c.put_pinned-wrote.new.pass) (state c.unpin.new.pass) c.requires.idle c.in-Ok.ensures.pinned
    _ _ c.pin_for.ensures.own.call (c.put_pinned-wrote.ensures.own.call ∙ c.pin_for.ensures.own.call) c.put_pinned-wrote.ensures.held c.unpin.ensures.unpinned l) c.put_pinned-wrote.ensures.learns

pub returns-clause-halted : goal.returns-clause-halted
returns-clause-halted c = err_map _ _ c.put_pinned-wrote.result (λ y l. all_halts (sizes c.args.table.now) (call_of c.args.pass.now) c.in-Ok.pin.room (CoversKey c.args.key.now) (state c.args.pass.now) (state c.pin_for.new.pass) (state c.put_pinned-wrote.new.pass) (state c.unpin.new.pass) c.requires.idle c.in-Ok.ensures.pinned
    _ _ c.pin_for.ensures.own.call (c.put_pinned-wrote.ensures.own.call ∙ c.pin_for.ensures.own.call) c.put_pinned-wrote.ensures.held c.unpin.ensures.unpinned c.args.key.now (PutNew c.args.value.now) y l) c.put_pinned-wrote.ensures.halted

-- to a pass that is alone

pub returns-clause-alone_reply : goal.returns-clause-alone_reply
returns-clause-alone_reply c = ok_map _ _ c.put_pinned-wrote.result (λ y l. all_wrote_alone (sizes c.args.table.now) (call_of c.args.pass.now) c.in-Ok.pin.room (CoversKey c.args.key.now) (state c.args.pass.now) (state c.pin_for.new.pass) (state c.put_pinned-wrote.new.pass) (state c.unpin.new.pass) c.requires.idle c.in-Ok.ensures.pinned
    _ _ c.pin_for.ensures.own.call (c.put_pinned-wrote.ensures.own.call ∙ c.pin_for.ensures.own.call) c.unpin.ensures.unpinned c.put_pinned-wrote.ensures.held y c.args.key.now (PutNew c.args.value.now) l) c.put_pinned-wrote.ensures.got

pub returns-clause-alone_same : goal.returns-clause-alone_same
returns-clause-alone_same c = err_map _ _ c.put_pinned-wrote.result (λ y l. all_same_alone (sizes c.args.table.now) (call_of c.args.pass.now) c.in-Ok.pin.room (CoversKey c.args.key.now) (state c.args.pass.now) (state c.pin_for.new.pass) (state c.put_pinned-wrote.new.pass) (state c.unpin.new.pass) c.requires.idle c.in-Ok.ensures.pinned
    _ _ c.pin_for.ensures.own.call (c.put_pinned-wrote.ensures.own.call ∙ c.pin_for.ensures.own.call) c.unpin.ensures.unpinned c.put_pinned-wrote.ensures.held l) c.put_pinned-wrote.ensures.learns

-- behind it there was a moment of the rule
pub returns-clause-ended : goal.returns-clause-ended
returns-clause-ended c = ok_map _ _ c.put_pinned-wrote.result (λ y l. c.unpin.ensures.unpinned.ended) c.put_pinned-wrote.ensures.got

pub returns-in_default-clause-alone_same : goal.returns-in_default-clause-alone_same
returns-in_default-clause-alone_same c = room_never (sizes c.args.table.now) (state c.args.pass.now) (state c.pin_for.new.pass) c.requires.idle c.in_default.ensures.alone

pub returns-in_default-clause-alone : goal.returns-in_default-clause-alone
returns-in_default-clause-alone c = room_found (state c.args.pass.now) (state c.pin_for.new.pass) _ c.requires.idle c.in_default.ensures.alone

pub returns-clause-alone : goal.returns-clause-alone
returns-clause-alone c = pinned_puts (sizes c.args.table.now) c.in-Ok.pin.room c.args.key.now c.args.value.now (state c.args.pass.now) (state c.pin_for.new.pass) (state c.put_pinned-wrote.new.pass) (state c.unpin.new.pass)
    c.in-Ok.ensures.pinned.has.inside c.in-Ok.ensures.pinned.still c.unpin.ensures.unpinned.still c.put_pinned-wrote.result c.put_pinned-wrote.ensures.alone

pub returns-clause-alone_left : goal.returns-clause-alone_left
returns-clause-alone_left c = ok_map _ _ c.put_pinned-wrote.result (λ y l. pinned_put_leaves (sizes c.args.table.now) c.in-Ok.pin.room c.args.key.now c.args.value.now (state c.args.pass.now) (state c.pin_for.new.pass) (state c.put_pinned-wrote.new.pass) (state c.unpin.new.pass)
    c.in-Ok.ensures.pinned.has.inside c.in-Ok.ensures.pinned.still c.unpin.ensures.unpinned.still y l) c.put_pinned-wrote.ensures.alone_left

pub returns-in_default-clause-refused : goal.returns-in_default-clause-refused
returns-in_default-clause-refused c = met_refuses (call_of c.args.pass.now) (state c.args.pass.now) (state c.pin_for.new.pass) c.in_default.ensures.only
