use Rattle.std.proofs.Common.{◌<◌, ◌^◌, ℕ, sym, subst, arith}
use Rattle.oak_model.specs.declared.classes.Class.{Class}
use Rattle.oak_model.specs.Class.{class_number}
use Rattle.oak_model.specs.Limits.{Sizes}
use Rattle.arena_core.specs.Blocks.{HoldsBlock}
use Rattle.arena_core.specs.Place.{place_word}
use Rattle.header_core.specs.HeaderStep.{change_place}
use Rattle.oak_core.specs.HeaderCalls.{of_locked_place, ChangesPlace}
use Rattle.value_ops.proofs.AloneEnds.{changes_alone}
use Rattle.oak_core.specs.Passes.{state, key, call_of}
use Rattle.oak_core.specs.Step.{on_headers, MayOnHeaders}
use Rattle.value_ops.specs.UnderLock.{Exchanges}
use Rattle.value_ops.proofs.BlockExchange.{may_change, exchanges, holds_old, locked_still}
use Rattle.value_ops.proofs.ComesFurther.{block_loaded}
use Rattle.oak_core.proofs.calls.MetMore.{told_in}
use Rattle.value_ops.proofs.locking.Locked.change.Goals as goal

pub store_field-requires-clause-names : goal.store_field-requires-clause-names
store_field-requires-clause-names c = let z : Sizes = key c.args.table.now in let h = c.args.self.now.header in let u = state c.place-old.new.pass in let small : c.args.block.number < 2 ^ 32 = omega arith in (
  of_locked_place,
  h,
  record { inside = c.requires.locked.inside; word_is = c.place_at-place_at.ensures },
  subst (λ (x : ℕ). MayOnHeaders z (change_place h x) u) (sym c.place_word.ensures)
      (may_change z (call_of c.args.pass.now) h c.args.self.now.generation c.args.block.class c.args.block.number c.args.len (state c.args.pass.now) u c.requires.locked c.place-old.ensures.met c.requires.held small c.requires.fits),
)

-- the place word that was stored, in the call
stored : (c : goal.After-block_in) → ChangesPlace (key c.args.table.now) (call_of c.args.pass.now) c.args.self.now.header (place_word (class_number c.args.block.class) c.args.block.number c.args.len) (state c.place-old.new.pass) (state c.store_field.new.pass)
stored c = let z : Sizes = key c.args.table.now in let call = call_of c.args.pass.now in let h = c.args.self.now.header in let u = state c.place-old.new.pass in let w = state c.store_field.new.pass in let small : c.args.block.number < 2 ^ 32 = omega arith in
    let t = c.store_field.ensures.told of_locked_place h record { inside = c.requires.locked.inside; word_is = c.place_at-place_at.ensures } (subst (λ (x : ℕ). MayOnHeaders z (change_place h x) u) (sym c.place_word.ensures)
    (may_change z call h c.args.self.now.generation c.args.block.class c.args.block.number c.args.len (state c.args.pass.now) u c.requires.locked c.place-old.ensures.met c.requires.held small c.requires.fits)) in
    subst (λ (x : ℕ). ChangesPlace z call h x u w) c.place_word.ensures (t.0, told_in z call (call_of c.place-old.new.pass) (on_headers (change_place h c.place_word.result)) u t.0 w c.place-old.ensures.own.call t.1)

pub returns-clause-changed : goal.returns-clause-changed
returns-clause-changed c = let z : Sizes = key c.args.table.now in let call = call_of c.args.pass.now in let h = c.args.self.now.header in let d : Class = c.args.block.class in let b = c.args.block.number in let v = state c.args.pass.now in let u = state c.place-old.new.pass in let w = state c.store_field.new.pass in
    let small : b < 2 ^ 32 = omega arith in let e = block_loaded z call v u c.place-old.ensures.met h c.place-old.result c.place-old.ensures.place c.class_in.result c.block_in.result c.class_in.ensures c.block_in.ensures in
    subst (λ (p : Class × ℕ). Exchanges z call h d b c.args.len p.0 p.1 v w) (λ i. (e.0 i, e.1 i)) (exchanges z call h c.args.self.now.generation d b c.args.len v u c.requires.locked c.place-old.ensures.met c.requires.held small c.requires.fits w (stored c) c.place-old.ensures.loaded)

pub returns-clause-held : goal.returns-clause-held
returns-clause-held c = let z : Sizes = key c.args.table.now in let call = call_of c.args.pass.now in let h = c.args.self.now.header in let d : Class = c.args.block.class in let b = c.args.block.number in let v = state c.args.pass.now in let u = state c.place-old.new.pass in let w = state c.store_field.new.pass in
    let small : b < 2 ^ 32 = omega arith in let e = block_loaded z call v u c.place-old.ensures.met h c.place-old.result c.place-old.ensures.place c.class_in.result c.block_in.result c.class_in.ensures c.block_in.ensures in
    subst (λ (p : Class × ℕ). HoldsBlock z (class_number p.0) p.1 w.blocks) (λ i. (e.0 i, e.1 i)) (holds_old z call h c.args.self.now.generation d b c.args.len v u c.requires.locked c.place-old.ensures.met c.requires.held small c.requires.fits w (stored c))

pub returns-clause-locked : goal.returns-clause-locked
returns-clause-locked c = let small : c.args.block.number < 2 ^ 32 = omega arith in
    locked_still (key c.args.table.now) (call_of c.args.pass.now) c.args.self.now.header c.args.self.now.generation c.args.block.class c.args.block.number c.args.len (state c.args.pass.now) (state c.place-old.new.pass) c.requires.locked c.place-old.ensures.met c.requires.held small c.requires.fits (state c.store_field.new.pass) (stored c)

pub returns-clause-alone : goal.returns-clause-alone
returns-clause-alone c = changes_alone (key c.args.table.now) (call_of c.args.pass.now) c.args.self.now.header c.args.self.now.generation c.args.block.class c.args.block.number c.args.len c.class_in.result c.block_in.result (state c.args.pass.now) (state c.store_field.new.pass) c.requires.locked.inside (returns-clause-changed c)
