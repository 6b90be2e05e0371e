use Rattle.point_ops.proofs.LoneLeftPins.{pinned_leaves}
use Rattle.point_ops.proofs.LoneCalls.{pinned_never, room_found, room_never}
use Rattle.std.proofs.Common.{inl, ◌∙◌}
use Rattle.oak_model.specs.declared.cells.CellCall.TheVariants.{Compute}
use Rattle.oak_core.specs.Passes.{state, key as sizes, call_of}
use Rattle.chunk_ops.specs.AskedRanges.{CoversKey}
use Rattle.point_ops.proofs.LoneAnswers.{all_same_alone, all_wrote_alone}
use Rattle.point_ops.proofs.Outcomes.{ok_map, err_map}
use Rattle.point_ops.proofs.PinnedCalls.{all_answers, all_halts, all_refuses, met_refuses}
use Rattle.point_ops.proofs.RecipesFed.{feeds_alone, feeds_until}
use Rattle.point_ops.proofs.computes.try_compute.Goals as goal

pub returns-clause-wrote : goal.returns-clause-wrote
returns-clause-wrote g c = let o = c.args.recipe.now in let k = (goal.Recipe-dyn g (o.vtable, o.value)).told_kind o.value in let n = (goal.Recipe-dyn g (o.vtable, o.value)).told_argument o.value in ok_map _ _ c.compute_pinned-wrote.result (λ y l. all_answers (sizes c.args.table.now) (call_of c.args.pass.now) c.in-Ok.pin.room (CoversKey c.args.key.now) (state c.args.pass.now) (state c.pin_for.new.pass) (state c.compute_pinned-wrote.new.pass) (state c.unpin.new.pass) c.requires.idle c.in-Ok.ensures.pinned
    _ _ c.pin_for.ensures.own.call (c.compute_pinned-wrote.ensures.own.call ∙ c.pin_for.ensures.own.call) c.compute_pinned-wrote.ensures.held c.unpin.ensures.unpinned y c.args.key.now (Compute k n) l) c.compute_pinned-wrote.ensures.got

pub returns-clause-refused : goal.returns-clause-refused
returns-clause-refused g c = err_map _ _ c.compute_pinned-wrote.result (λ y l. all_refuses (sizes c.args.table.now) (call_of c.args.pass.now) c.in-Ok.pin.room (CoversKey c.args.key.now) (state c.args.pass.now) (state c.pin_for.new.pass) (state c.compute_pinned-wrote.new.pass) (state c.unpin.new.pass) c.requires.idle c.in-Ok.ensures.pinned
    _ _ c.pin_for.ensures.own.call (c.compute_pinned-wrote.ensures.own.call ∙ c.pin_for.ensures.own.call) c.compute_pinned-wrote.ensures.held c.unpin.ensures.unpinned l) c.compute_pinned-wrote.ensures.learns

pub returns-clause-halted : goal.returns-clause-halted
returns-clause-halted g c = let o = c.args.recipe.now in let k = (goal.Recipe-dyn g (o.vtable, o.value)).told_kind o.value in let n = (goal.Recipe-dyn g (o.vtable, o.value)).told_argument o.value in err_map _ _ c.compute_pinned-wrote.result (λ y l. all_halts (sizes c.args.table.now) (call_of c.args.pass.now) c.in-Ok.pin.room (CoversKey c.args.key.now) (state c.args.pass.now) (state c.pin_for.new.pass) (state c.compute_pinned-wrote.new.pass) (state c.unpin.new.pass) c.requires.idle c.in-Ok.ensures.pinned
    _ _ c.pin_for.ensures.own.call (c.compute_pinned-wrote.ensures.own.call ∙ c.pin_for.ensures.own.call) c.compute_pinned-wrote.ensures.held c.unpin.ensures.unpinned c.args.key.now (Compute k n) y l) c.compute_pinned-wrote.ensures.halted

-- to a pass that is alone

pub returns-clause-alone_reply : goal.returns-clause-alone_reply
returns-clause-alone_reply g c = let o = c.args.recipe.now in let k = (goal.Recipe-dyn g (o.vtable, o.value)).told_kind o.value in let n = (goal.Recipe-dyn g (o.vtable, o.value)).told_argument o.value in ok_map _ _ c.compute_pinned-wrote.result (λ y l. all_wrote_alone (sizes c.args.table.now) (call_of c.args.pass.now) c.in-Ok.pin.room (CoversKey c.args.key.now) (state c.args.pass.now) (state c.pin_for.new.pass) (state c.compute_pinned-wrote.new.pass) (state c.unpin.new.pass) c.requires.idle c.in-Ok.ensures.pinned
    _ _ c.pin_for.ensures.own.call (c.compute_pinned-wrote.ensures.own.call ∙ c.pin_for.ensures.own.call) c.unpin.ensures.unpinned c.compute_pinned-wrote.ensures.held y c.args.key.now (Compute k n) l) c.compute_pinned-wrote.ensures.got

pub returns-clause-alone_same : goal.returns-clause-alone_same
returns-clause-alone_same g c = err_map _ _ c.compute_pinned-wrote.result (λ y l. all_same_alone (sizes c.args.table.now) (call_of c.args.pass.now) c.in-Ok.pin.room (CoversKey c.args.key.now) (state c.args.pass.now) (state c.pin_for.new.pass) (state c.compute_pinned-wrote.new.pass) (state c.unpin.new.pass) c.requires.idle c.in-Ok.ensures.pinned
    _ _ c.pin_for.ensures.own.call (c.compute_pinned-wrote.ensures.own.call ∙ c.pin_for.ensures.own.call) c.unpin.ensures.unpinned c.compute_pinned-wrote.ensures.held l) c.compute_pinned-wrote.ensures.learns

pub returns-in_default-clause-alone_same : goal.returns-in_default-clause-alone_same
returns-in_default-clause-alone_same g c = room_never (sizes c.args.table.now) (state c.args.pass.now) (state c.pin_for.new.pass) c.requires.idle c.in_default.ensures.alone

pub returns-in_default-clause-alone : goal.returns-in_default-clause-alone
returns-in_default-clause-alone g c = room_found (state c.args.pass.now) (state c.pin_for.new.pass) _ c.requires.idle c.in_default.ensures.alone

pub returns-clause-alone : goal.returns-clause-alone
returns-clause-alone g c = pinned_never (sizes c.args.table.now) c.in-Ok.pin.room (state c.args.pass.now) (state c.pin_for.new.pass) (state c.compute_pinned-wrote.new.pass) (state c.unpin.new.pass) c.in-Ok.ensures.pinned.still c.unpin.ensures.unpinned.still c.compute_pinned-wrote.result c.compute_pinned-wrote.ensures.alone

-- what the recipe was fed
pub returns-clause-fed : goal.returns-clause-fed
returns-clause-fed g c = feeds_until c.compute_pinned-wrote.result c.args.key.now _ _ (state c.compute_pinned-wrote.new.pass) (state c.unpin.new.pass) c.unpin.ensures.unpinned.stands.knowledge c.compute_pinned-wrote.ensures.fed

pub returns-clause-alone_fed : goal.returns-clause-alone_fed
returns-clause-alone_fed g c = let o = c.args.recipe.now in let k = (goal.Recipe-dyn g (o.vtable, o.value)).told_kind o.value in let n = (goal.Recipe-dyn g (o.vtable, o.value)).told_argument o.value in λ alone. feeds_alone c.compute_pinned-wrote.result (sizes c.args.table.now) (call_of c.args.pass.now) c.args.key.now (Compute k n) _ _ (state c.args.pass.now) (state c.unpin.new.pass) alone
    (returns-clause-wrote g c) (returns-clause-alone_reply g c) (returns-clause-fed g c)

pub returns-clause-alone_left : goal.returns-clause-alone_left
returns-clause-alone_left g c = ok_map _ _ c.compute_pinned-wrote.result (λ y l. pinned_leaves (sizes c.args.table.now) c.in-Ok.pin.room c.args.key.now (state c.args.pass.now) (state c.pin_for.new.pass) (state c.compute_pinned-wrote.new.pass) (state c.unpin.new.pass)
    c.in-Ok.ensures.pinned.has.inside c.in-Ok.ensures.pinned.still c.unpin.ensures.unpinned.still y l) c.compute_pinned-wrote.ensures.alone_left

pub returns-in_default-clause-refused : goal.returns-in_default-clause-refused
returns-in_default-clause-refused g c = met_refuses (call_of c.args.pass.now) (state c.args.pass.now) (state c.pin_for.new.pass) c.in_default.ensures.only

pub returns-clause-either : goal.returns-clause-either
returns-clause-either g c = err_map _ _ c.compute_pinned-wrote.result (λ y e. inl e) c.compute_pinned-wrote.ensures.busy
