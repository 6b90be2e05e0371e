use Rattle.std.proofs.Common.{ℕ, ◌∙◌, subst}
use Rattle.oak_model.specs.Limits.{Sizes}
use Rattle.chunk_core.specs.declared.holds.MovingRange.{MovingRange}
use Rattle.chunk_core.specs.declared.holds.RoomCopy.{RoomCopy}
use Rattle.oak_core.specs.Passes.{state, key as sizes, call_of}
use Rattle.chunk_ops.proofs.PinSteps.{unpins_in}
use Rattle.rebalance.specs.Holding.{Holds, Thaws}
use Rattle.rebalance.proofs.ChunkLaws.{holds_pinned, loses_thawed, loses_unfrozen}
use Rattle.rebalance.proofs.chunks.hold_pinned.Goals as goal

pub returns-then-not-freeze_pinned-clause-loses : goal.returns-then-not-freeze_pinned-clause-loses
returns-then-not-freeze_pinned-clause-loses c _ = let z : Sizes = sizes c.args.table.now in let call = call_of c.args.pass.now in let a = state c.freeze_pinned.new.pass in let u = state c.unpin.new.pass in
    loses_unfrozen z call c.args.looks c.args.pin.room (state c.args.pass.now) a u (c.freeze_pinned.ensures.leaves c.if-not-freeze_pinned.true) (unpins_in z call (call_of c.freeze_pinned.new.pass) c.args.pin.room a u c.freeze_pinned.ensures.own.call c.unpin.ensures.unpinned)

pub returns-clause-holds : goal.returns-clause-holds
returns-clause-holds c got = let z : Sizes = sizes c.args.table.now in let call = call_of c.args.pass.now in let r = c.args.pin.room in let a = state c.freeze_pinned.new.pass in let b = state c.unpin-2.new.pass in let u = state c.hold_frozen.new.pass in
    holds_pinned z call r (state c.args.pass.now) a b u (c.freeze_pinned.ensures.frozen c.if-not-freeze_pinned.false) (unpins_in z call (call_of c.freeze_pinned.new.pass) r a b c.freeze_pinned.ensures.own.call c.unpin-2.ensures.unpinned)
    (subst (λ (k : ℕ). (w : RoomCopy) × (g : MovingRange) × Holds z k r w g b u) (c.unpin-2.ensures.own.call ∙ c.freeze_pinned.ensures.own.call) (c.hold_frozen.ensures.holds got))

pub returns-clause-loses : goal.returns-clause-loses
returns-clause-loses c gave = let z : Sizes = sizes c.args.table.now in let call = call_of c.args.pass.now in let r = c.args.pin.room in let a = state c.freeze_pinned.new.pass in let b = state c.unpin-2.new.pass in let u = state c.hold_frozen.new.pass in
    loses_thawed z call c.args.looks r (state c.args.pass.now) a b u (c.freeze_pinned.ensures.frozen c.if-not-freeze_pinned.false) (unpins_in z call (call_of c.freeze_pinned.new.pass) r a b c.freeze_pinned.ensures.own.call c.unpin-2.ensures.unpinned)
    (subst (λ (k : ℕ). Thaws z k c.args.looks r b u) (c.unpin-2.ensures.own.call ∙ c.freeze_pinned.ensures.own.call) (c.hold_frozen.ensures.thaws gave))
