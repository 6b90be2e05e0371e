use Rattle.std.proofs.Common.{◌≡◌, ℕ, List, length, ap, sym, ◌∙◌, subst}
use Rattle.oak_model.specs.Limits.{Sizes}
use Rattle.arena_core.specs.Place.{length_in}
use Rattle.header_core.specs.declared.holds.HeldHeader.{HeldHeader}
use Rattle.header_core.specs.HeaderHolds.{place_held}
use Rattle.oak_core.specs.Finding.{LoadsMore}
use Rattle.value_ops.proofs.AloneRewrites.{applies_alone}
use Rattle.oak_core.specs.Passes.{state, key, call_of}
use Rattle.value_ops.specs.Rewriting.{HasWords}
use Rattle.value_ops.specs.HeldValue.{value_held, words_in}
use Rattle.value_ops.specs.UnderLock.{Rewrites, words_over}
use Rattle.value_ops.proofs.ComesFurther.{loads_in, loads_both, headers_met}
use Rattle.value_ops.proofs.RecipeFacts.{made_long}
use Rattle.value_ops.proofs.RewriteFacts.{words_found, words_met, value_long, lock_now, rewrites_by}
use Rattle.value_ops.proofs.locking.Locked.apply.Goals as goal

pub load_value-requires-clause-words : goal.load_value-requires-clause-words
load_value-requires-clause-words g c = let z : Sizes = key c.args.table.now in let h = c.args.self.now.header in let g' = c.args.self.now.generation in let v = state c.args.pass.now in let o = c.place-place.ensures in
    words_met z h g' c.bytes_at-first.result v (words_found z h g' v o.limits c.requires.locked c.place-place.result o.place o.block c.class_in.result c.block_in.result c.bytes_at-first.result c.class_in.ensures c.block_in.ensures c.bytes_at-first.ensures)
    (call_of c.args.pass.now) (state c.place-place.new.pass) o.met

pub store_scratch-requires-clause-words : goal.store_scratch-requires-clause-words
store_scratch-requires-clause-words g c = let z : Sizes = key c.args.table.now in let h = c.args.self.now.header in let g' = c.args.self.now.generation in let v = state c.args.pass.now in let y = state c.place-place.new.pass in let o = c.place-place.ensures in let first = c.bytes_at-first.result in
    let is : HasWords z h g' first v = words_found z h g' v o.limits c.requires.locked c.place-place.result o.place o.block c.class_in.result c.block_in.result first c.class_in.ensures c.block_in.ensures c.bytes_at-first.ensures in
    words_met z h g' first y (words_met z h g' first v is (call_of c.args.pass.now) y o.met) (call_of c.place-place.new.pass) (state c.load_value.new.pass) c.load_value.ensures.met

pub store_scratch-requires-clause-long : goal.store_scratch-requires-clause-long
store_scratch-requires-clause-long g c = let z : Sizes = key c.args.table.now in let call = call_of c.args.pass.now in let h = c.args.self.now.header in let v = state c.args.pass.now in let y = state c.place-place.new.pass in let u = state c.load_value.new.pass in let o = c.place-place.ensures in
    let is : HasWords z h c.args.self.now.generation c.bytes_at-first.result v = words_found z h c.args.self.now.generation v o.limits c.requires.locked c.place-place.result o.place o.block c.class_in.result c.block_in.result c.bytes_at-first.result c.class_in.ensures c.block_in.ensures c.bytes_at-first.ensures in
    let was : c.scratch_mut.result.now ≡ value_held h y.headers.held = c.scratch_mut.ensures.value ∙ c.load_value.ensures.value in
    made_long _ _ c.apply_once.new.value c.scratch_mut.result.now c.apply_once.ensures.bytes ∙ (ap length was ∙ (value_long z h c.args.self.now.generation c.bytes_at-first.result y (words_met z h c.args.self.now.generation c.bytes_at-first.result v is call y o.met)
    ∙ ap (λ (ks : List HeldHeader). length_in (place_held h ks)) (sym (headers_met z (call_of c.place-place.new.pass) y u c.load_value.ensures.met))))

pub returns-clause-locked : goal.returns-clause-locked
returns-clause-locked g c = let z : Sizes = key c.args.table.now in let call = call_of c.args.pass.now in let h = c.args.self.now.header in let g' = c.args.self.now.generation in let first = c.bytes_at-first.result in
    let v = state c.args.pass.now in let y = state c.place-place.new.pass in let u = state c.load_value.new.pass in let w = state c.store_scratch.new.pass in let o = c.place-place.ensures in let l = c.load_value.ensures in
    let is : HasWords z h g' first v = words_found z h g' v o.limits c.requires.locked c.place-place.result o.place o.block c.class_in.result c.block_in.result first c.class_in.ensures c.block_in.ensures c.bytes_at-first.ensures in
    let now : HasWords z h g' first u = words_met z h g' first y (words_met z h g' first v is call y o.met) (call_of c.place-place.new.pass) u l.met in
    lock_now z h g' first u now (call_of c.load_value.new.pass) (words_over c.apply_once.new.value (words_in h u.headers.held)) w c.store_scratch.ensures.stored.comes

pub returns-clause-applied : goal.returns-clause-applied
returns-clause-applied g c = let z : Sizes = key c.args.table.now in let call = call_of c.args.pass.now in let h = c.args.self.now.header in
    let v = state c.args.pass.now in let y = state c.place-place.new.pass in let u = state c.load_value.new.pass in let w = state c.store_scratch.new.pass in let o = c.place-place.ensures in let l = c.load_value.ensures in
    let met : LoadsMore z call v u = loads_both z call v y u o.met (loads_in z call (call_of c.place-place.new.pass) y u o.own.call l.met) in
    rewrites_by z call h _ _ c.apply_once.new.value c.scratch_mut.result.now v u w met c.apply_once.ensures.bytes
    (c.scratch_mut.ensures.value ∙ (l.value ∙ ap (value_held h) (sym (headers_met z (call_of c.place-place.new.pass) y u l.met))))
    (subst (λ (k : ℕ). Rewrites z k h c.apply_once.new.value u w) (l.own.call ∙ o.own.call) c.store_scratch.ensures.stored)

pub returns-clause-alone : goal.returns-clause-alone
returns-clause-alone g c = let z : Sizes = key c.args.table.now in let call = call_of c.args.pass.now in let h = c.args.self.now.header in let g' = c.args.self.now.generation in let first = c.bytes_at-first.result in
    let v = state c.args.pass.now in let y = state c.place-place.new.pass in let u = state c.load_value.new.pass in let w = state c.store_scratch.new.pass in let o = c.place-place.ensures in let l = c.load_value.ensures in
    let is : HasWords z h g' first v = words_found z h g' v o.limits c.requires.locked c.place-place.result o.place o.block c.class_in.result c.block_in.result first c.class_in.ensures c.block_in.ensures c.bytes_at-first.ensures in
    applies_alone z call h g' first v y u is o.loaded l.alone _ _ c.apply_once.new.value c.scratch_mut.result.now w c.apply_once.ensures.bytes (c.scratch_mut.ensures.value ∙ (l.value ∙ ap (value_held h) (headers_met z call v y o.met))) c.store_scratch.ensures.alone

pub returns-clause-fed : goal.returns-clause-fed
returns-clause-fed g c = let h = c.args.self.now.header in let v = state c.args.pass.now in let y = state c.place-place.new.pass in let o = c.place-place.ensures in let l = c.load_value.ensures in let r = c.apply_once.new.recipe in
    let was : c.scratch_mut.result.now ≡ value_held h v.headers.held = c.scratch_mut.ensures.value ∙ (l.value ∙ ap (value_held h) (headers_met (key c.args.table.now) (call_of c.args.pass.now) v y o.met)) in
    subst ((goal.Recipe-dyn g (r.vtable, r.value)).fed r.value) was c.apply_once.ensures.fed
