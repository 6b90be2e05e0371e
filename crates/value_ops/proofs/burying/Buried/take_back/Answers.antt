use Rattle.std.proofs.Common.{◌≡◌, ℕ, sym, subst, arith, ap}
use Rattle.oak_model.specs.declared.classes.Class.{Class}
use Rattle.oak_model.specs.Class.{class_number}
use Rattle.oak_model.specs.Limits.{Sizes}
use Rattle.arena_core.specs.Blocks.{HoldsBlock}
use Rattle.arena_core.specs.Place.{class_in, block_in, class_from}
use Rattle.header_core.specs.declared.states.TheConstants.{DEAD}
use Rattle.header_core.specs.Headers.{at_place}
use Rattle.header_core.specs.HeaderHolds.{place_held}
use Rattle.header_core.specs.HeaderStep.{take_back, renewal}
use Rattle.oak_core.specs.Memory.{in_headers, index}
use Rattle.oak_core.specs.HeaderCalls.{TakesBack}
use Rattle.oak_core.specs.Splitting.{Loads}
use Rattle.value_ops.proofs.AloneEnds.{renews_alone}
use Rattle.oak_core.specs.Passes.{state, key, call_of}
use Rattle.oak_core.specs.Step.{on_headers, MayOnHeaders}
use Rattle.oak_core.proofs.memory.Words.{index_below}
use Rattle.value_ops.specs.UnderLock.{Renews}
use Rattle.value_ops.proofs.ComesFurther.{place_loaded, block_loaded}
use Rattle.oak_core.proofs.calls.MetMore.{told_in}
use Rattle.value_ops.proofs.RenewFacts.{may_renew, renews, holds_given}
use Rattle.value_ops.proofs.StampStores.{held_place}
use Rattle.value_ops.proofs.burying.Buried.take_back.Goals as goal
use Rattle.oak_core.specs.MayWrite.{IsUnnamed}
use Rattle.oak_core.specs.declared.states.PassState.{PassState}
use Rattle.header_core.specs.declared.holds.HeaderHolds.{HeaderHolds}

pub load-place-requires-clause-inside : goal.load-place-requires-clause-inside
load-place-requires-clause-inside c = let e = c.place_at.ensures in let b = index_below (key c.args.table.now) (in_headers (at_place c.args.self.header)) c.requires.buried.inside in omega arith

pub take_back-requires-clause-names : goal.take_back-requires-clause-names
take_back-requires-clause-names c = let z : Sizes = key c.args.table.now in let call = call_of c.args.pass.now in let h = c.args.self.header in let g = c.args.self.generation in let v = state c.args.pass.now in let u = state c.load-place.new.pass in (
  h,
  record { inside = c.requires.buried.inside; word_is = c.pin_at.ensures },
  subst (λ (x : ℕ). MayOnHeaders z (take_back h x) u) (sym c.renewal.ensures)
      (may_renew z call h g c.args.self.stamp v u c.requires.buried (place_loaded z call c.place_at.result c.load-place.result v u h c.requires.buried.inside c.place_at.ensures c.load-place.ensures.loaded)),
  subst (λ (a : HeaderHolds). IsUnnamed h a) (sym (ap (λ (y : PassState). y.headers) (place_loaded z call c.place_at.result c.load-place.result v u h c.requires.buried.inside c.place_at.ensures c.load-place.ensures.loaded).after)) c.requires.unnamed,
)

-- the place word was loaded
loaded : (c : goal.After-block_in) → Loads (key c.args.table.now) (call_of c.args.pass.now) (index (key c.args.table.now) (in_headers (at_place c.args.self.header))) (state c.args.pass.now) (place_held c.args.self.header (state c.args.pass.now).headers.held) (state c.load-place.new.pass)
loaded c = let z : Sizes = key c.args.table.now in let call = call_of c.args.pass.now in let h = c.args.self.header in let v = state c.args.pass.now in let u = state c.load-place.new.pass in let k = c.requires.buried in let l = c.load-place.ensures.loaded in
    let is = held_place z call h DEAD c.place_at.result c.load-place.result v u k.inside (omega arith) (omega arith) k.buried l c.place_at.ensures in
    subst (λ (p : ℕ × ℕ). Loads z call p.0 v p.1 u) (λ i. (c.place_at.ensures i, is i)) l

-- the step, in the call
taken : (c : goal.After-block_in) → TakesBack (key c.args.table.now) (call_of c.args.pass.now) c.args.self.header (renewal c.args.self.generation) (state c.load-place.new.pass) c.take_back.result (state c.take_back.new.pass)
taken c = let z : Sizes = key c.args.table.now in let call = call_of c.args.pass.now in let h = c.args.self.header in let u = state c.load-place.new.pass in let n = c.take_back.result in let w = state c.take_back.new.pass in
    subst (λ (x : ℕ). TakesBack z call h x u n w) c.renewal.ensures (told_in z call (call_of c.load-place.new.pass) (on_headers (take_back h c.renewal.result)) u n w c.load-place.ensures.own.call
    (c.take_back.ensures.told h record { inside = c.requires.buried.inside; word_is = c.pin_at.ensures }))

-- and the block that the place word names, which was loaded
given : (c : goal.After-block_in) → (class_from (class_in (place_held c.args.self.header (state c.load-place.new.pass).headers.held)) ≡ c.class_in.result)
    × (block_in (place_held c.args.self.header (state c.load-place.new.pass).headers.held) ≡ c.block_in.result)
given c = let z : Sizes = key c.args.table.now in let call = call_of c.args.pass.now in let h = c.args.self.header in let k = c.requires.buried in let v = state c.args.pass.now in let u = state c.load-place.new.pass in let l = c.load-place.ensures.loaded in
    block_loaded z call v u (place_loaded z call c.place_at.result c.load-place.result v u h k.inside c.place_at.ensures l) h c.load-place.result
    (held_place z call h DEAD c.place_at.result c.load-place.result v u k.inside (omega arith) (omega arith) k.buried l c.place_at.ensures) c.class_in.result c.block_in.result c.class_in.ensures c.block_in.ensures

pub returns-clause-renewed : goal.returns-clause-renewed
returns-clause-renewed c = let z : Sizes = key c.args.table.now in let call = call_of c.args.pass.now in let h = c.args.self.header in let g = c.args.self.generation in let v = state c.args.pass.now in let u = state c.load-place.new.pass in let w = state c.take_back.new.pass in let e = given c in
    subst (λ (p : Class × ℕ). Renews z call h g p.0 p.1 v w) (λ i. (e.0 i, e.1 i))
    (renews z call h g c.args.self.stamp v u c.requires.buried (place_loaded z call c.place_at.result c.load-place.result v u h c.requires.buried.inside c.place_at.ensures c.load-place.ensures.loaded) c.take_back.result w (taken c) (loaded c))

pub returns-clause-held : goal.returns-clause-held
returns-clause-held c = let z : Sizes = key c.args.table.now in let call = call_of c.args.pass.now in let h = c.args.self.header in let g = c.args.self.generation in let v = state c.args.pass.now in let u = state c.load-place.new.pass in let w = state c.take_back.new.pass in let e = given c in
    subst (λ (p : Class × ℕ). HoldsBlock z (class_number p.0) p.1 w.blocks) (λ i. (e.0 i, e.1 i))
    (holds_given z call h g c.args.self.stamp v u c.requires.buried (place_loaded z call c.place_at.result c.load-place.result v u h c.requires.buried.inside c.place_at.ensures c.load-place.ensures.loaded) c.take_back.result w (taken c))

pub returns-clause-alone : goal.returns-clause-alone
returns-clause-alone c = renews_alone (key c.args.table.now) (call_of c.args.pass.now) c.args.self.header c.args.self.generation c.args.self.stamp c.class_in.result c.block_in.result (state c.args.pass.now) (state c.take_back.new.pass) c.requires.buried (returns-clause-renewed c)
