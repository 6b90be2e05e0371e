use Rattle.std.proofs.Common.{◌∙◌}
use Rattle.oak_model.specs.Limits.{Sizes}
use Rattle.header_core.specs.HeaderStep.{store_stamp}
use Rattle.oak_core.specs.HeaderCalls.{of_stamp, StoresStamp}
use Rattle.oak_core.specs.Passes.{state, key, call_of}
use Rattle.oak_core.specs.Step.{on_headers}
use Rattle.value_ops.proofs.ComesFurther.{lock_met}
use Rattle.oak_core.proofs.calls.MetMore.{told_in}
use Rattle.value_ops.proofs.StampStores.{may_stamp, stored_since, next_is}
use Rattle.value_ops.proofs.locking.Locked.store_next_stamp.Goals as goal

pub store_field-requires-clause-names : goal.store_field-requires-clause-names
store_field-requires-clause-names c = let z : Sizes = key c.args.table.now in let call = call_of c.args.pass.now in let h = c.args.self.now.header in let g = c.args.self.now.generation in let v = state c.args.pass.now in let u = state c.stamp.new.pass in
    (of_stamp, h, record { inside = c.requires.locked.inside; word_is = c.stamp_at.ensures }, may_stamp z call h g c.saturating_add-stamp.result u (lock_met z call v u c.stamp.ensures.met h g c.requires.locked) c.saturating_add-stamp.type_inv)

-- the store, in the call
stores_of : (c : goal.After-store_field) → StoresStamp (key c.args.table.now) (call_of c.args.pass.now) c.args.self.now.header c.saturating_add-stamp.result (state c.stamp.new.pass) (state c.store_field.new.pass)
stores_of c = let z : Sizes = key c.args.table.now in let call = call_of c.args.pass.now in let h = c.args.self.now.header in let g = c.args.self.now.generation in let v = state c.args.pass.now in let u = state c.stamp.new.pass in let w = state c.store_field.new.pass in let x = c.saturating_add-stamp.result in
    let t = c.store_field.ensures.told of_stamp h record { inside = c.requires.locked.inside; word_is = c.stamp_at.ensures } (may_stamp z call h g x u (lock_met z call v u c.stamp.ensures.met h g c.requires.locked) c.saturating_add-stamp.type_inv) in
    (t.0, told_in z call (call_of c.stamp.new.pass) (on_headers (store_stamp h x)) u t.0 w c.stamp.ensures.own.call t.1)

pub returns-clause-stored : goal.returns-clause-stored
returns-clause-stored c = stored_since (key c.args.table.now) (call_of c.args.pass.now) c.args.self.now.header c.args.self.now.generation c.saturating_add-stamp.result (state c.args.pass.now) (state c.stamp.new.pass) (state c.store_field.new.pass) c.requires.locked c.stamp.ensures.met c.saturating_add-stamp.type_inv (stores_of c)

pub returns-clause-next : goal.returns-clause-next
returns-clause-next c = record { number = c.stamp.result; between = state c.stamp.new.pass; loads = c.stamp.ensures.loaded; next = c.saturating_add-stamp.ensures ∙ next_is c.stamp.result c.stamp.type_inv; stores = stores_of c }
