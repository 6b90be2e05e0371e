use Rattle.point_ops.proofs.LoneLeftPins.{rewrites_key}
use Rattle.point_ops.proofs.LonePutPins.{away_gets}
use Rattle.std.proofs.Common.{◌∙◌, None, Some, refl, sym, ap, subst}
use Rattle.oak_model.specs.declared.cells.CellCall.TheVariants.{Upsert}
use Rattle.oak_model.specs.declared.cells.CellReply.TheVariants as replies
use Rattle.oak_model.specs.declared.writes.Kind.{Kind}
use Rattle.oak_model.specs.Recipe.{recipe_result}
use Rattle.oak_core.specs.CallWrites.{MakesWrite}
use Rattle.oak_core.specs.Passes.{state, key as sizes, call_of}
use Rattle.oak_core.proofs.calls.CallSteps.{stands_learns}
use Rattle.point_ops.proofs.SpotLaws.{held_under, inserted, looked_held, looked_learns, rewrote, uninserted, unlocked}
use Rattle.std.specs.Prelude.{Ok, Err}
use Rattle.point_ops.specs.Spots.{entry_in}
use Rattle.point_ops.specs.declared.halts.Halt.TheVariants.{Busy}
use Rattle.point_ops.proofs.LoneUnderPins.{away_inserts, inserted_keeps, life_keeps, lock_refused}
use Rattle.point_ops.proofs.computes.upsert_pinned.Goals as goal

pub insert-requires-clause-kind : goal.insert-requires-clause-kind
insert-requires-clause-kind g c = let o = c.args.recipe.now in let k = (goal.Recipe-dyn g (o.vtable, o.value)).told_kind o.value in let n = (goal.Recipe-dyn g (o.vtable, o.value)).told_argument o.value in subst (λ (x : Kind). MakesWrite x None (Some c.args.value.now)) (sym c.upsert_kind-kind.ensures) record { ask = Upsert c.args.value.now k n; kind_is = refl; writes = refl; leaves = refl }

pub compute_life-requires-clause-kind : goal.compute_life-requires-clause-kind
compute_life-requires-clause-kind g c = let o = c.args.recipe.now in let k = (goal.Recipe-dyn g (o.vtable, o.value)).told_kind o.value in let n = (goal.Recipe-dyn g (o.vtable, o.value)).told_argument o.value in λ b. subst (λ (x : Kind). MakesWrite x (Some b) (Some (recipe_result k n b))) (sym c.upsert_kind-kind.ensures) record { ask = Upsert c.args.value.now k n; kind_is = refl; writes = refl; leaves = refl }

pub returns-in-Ok-clause-held : goal.returns-in-Ok-clause-held
returns-in-Ok-clause-held g c = looked_held (sizes c.args.table.now) (call_of c.args.pass.now) c.args.pin.now.room (state c.args.pass.now) (state c.look_up.new.pass) (state c.insert.new.pass) c.look_up.ensures.under c.insert.ensures.held

pub returns-in-Err-clause-held : goal.returns-in-Err-clause-held
returns-in-Err-clause-held g c = looked_held (sizes c.args.table.now) (call_of c.args.pass.now) c.args.pin.now.room (state c.args.pass.now) (state c.look_up.new.pass) (state c.insert.new.pass) c.look_up.ensures.under c.insert.ensures.held

pub returns-in-Ok-clause-got : goal.returns-in-Ok-clause-got
returns-in-Ok-clause-got g c = let o = c.args.recipe.now in let k = (goal.Recipe-dyn g (o.vtable, o.value)).told_kind o.value in let n = (goal.Recipe-dyn g (o.vtable, o.value)).told_argument o.value in inserted (sizes c.args.table.now) (call_of c.args.pass.now) c.args.key.now (state c.args.pass.now) (state c.look_up.new.pass) (state c.insert.new.pass) _ c.look_up.ensures.own.call c.look_up.ensures.under.learns c.args.pin.now.room (entry_in c.in-Absent.entry) c.in-Absent.floor c.in-Absent.ensures.spot c.args.value.now (Upsert c.args.value.now k n) refl c.upsert_kind-kind.result replies.New c.in-Ok.at (ap Some (sym c.upsert_kind-kind.ensures)) refl c.in-Ok.ensures.stamp c.in-Ok.ensures.wrote

pub returns-in-Err-clause-learns : goal.returns-in-Err-clause-learns
returns-in-Err-clause-learns g c = looked_learns (sizes c.args.table.now) (call_of c.args.pass.now) c.args.key.now (state c.args.pass.now) (state c.look_up.new.pass) (state c.insert.new.pass) _ c.look_up.ensures.own.call c.look_up.ensures.under.learns c.in-Err.ensures.learns

pub returns-in-Err-clause-halted : goal.returns-in-Err-clause-halted
returns-in-Err-clause-halted g c = let o = c.args.recipe.now in let k = (goal.Recipe-dyn g (o.vtable, o.value)).told_kind o.value in let n = (goal.Recipe-dyn g (o.vtable, o.value)).told_argument o.value in uninserted (sizes c.args.table.now) (call_of c.args.pass.now) c.args.key.now (state c.args.pass.now) (state c.look_up.new.pass) (state c.insert.new.pass) _ c.look_up.ensures.own.call c.look_up.ensures.under.learns c.args.pin.now.room (entry_in c.in-Absent.entry) c.in-Absent.floor c.in-Absent.ensures.spot c.args.value.now (Upsert c.args.value.now k n) refl tt c.look_up.ensures.quiet c.in-Err.ensures.learns c.in-Err.halt c.in-Err.ensures.halted

pub returns-in-Ok-compute_life-clause-got : goal.returns-in-Ok-compute_life-clause-got
returns-in-Ok-compute_life-clause-got g c = let o = c.args.recipe.now in let k = (goal.Recipe-dyn g (o.vtable, o.value)).told_kind o.value in let n = (goal.Recipe-dyn g (o.vtable, o.value)).told_argument o.value in let x = c.in-Ok-compute_life.ensures.wrote c.args.key.now c.in-Present.ensures.spot.life in rewrote (sizes c.args.table.now) (call_of c.args.pass.now) c.args.key.now (state c.args.pass.now) (state c.look_up.new.pass) (state c.compute_life.new.pass) _ c.look_up.ensures.own.call c.look_up.ensures.under.learns c.args.pin.now.room c.in-Present.entry.0 c.in-Present.home.header c.in-Present.home.generation c.in-Present.ensures.spot c.upsert_kind-kind.result (Upsert c.args.value.now k n) replies.Done c.in-Ok-compute_life.at x.0 (Some (recipe_result k n x.0)) (ap Some (sym c.upsert_kind-kind.ensures)) refl refl x.1

pub returns-in-Ok-compute_life-clause-held : goal.returns-in-Ok-compute_life-clause-held
returns-in-Ok-compute_life-clause-held g c = held_under (sizes c.args.table.now) (call_of c.args.pass.now) c.args.pin.now.room (state c.args.pass.now) (state c.look_up.new.pass) (state c.compute_life.new.pass) c.look_up.ensures.under c.compute_life.ensures.held

pub returns-in-Err-compute_life-clause-held : goal.returns-in-Err-compute_life-clause-held
returns-in-Err-compute_life-clause-held g c = held_under (sizes c.args.table.now) (call_of c.args.pass.now) c.args.pin.now.room (state c.args.pass.now) (state c.look_up.new.pass) (state c.compute_life.new.pass) c.look_up.ensures.under c.compute_life.ensures.held

pub returns-in-Err-compute_life-clause-learns : goal.returns-in-Err-compute_life-clause-learns
returns-in-Err-compute_life-clause-learns g c = looked_learns (sizes c.args.table.now) (call_of c.args.pass.now) c.args.key.now (state c.args.pass.now) (state c.look_up.new.pass) (state c.compute_life.new.pass) _ c.look_up.ensures.own.call c.look_up.ensures.under.learns (stands_learns _ (state c.look_up.new.pass) (state c.compute_life.new.pass) c.in-Err-compute_life.ensures.only.stands)

pub returns-in-Err-compute_life-clause-halted : goal.returns-in-Err-compute_life-clause-halted
returns-in-Err-compute_life-clause-halted g c = let o = c.args.recipe.now in let k = (goal.Recipe-dyn g (o.vtable, o.value)).told_kind o.value in let n = (goal.Recipe-dyn g (o.vtable, o.value)).told_argument o.value in unlocked (sizes c.args.table.now) (call_of c.args.pass.now) c.args.key.now (state c.args.pass.now) (state c.look_up.new.pass) (state c.compute_life.new.pass) _ c.look_up.ensures.own.call c.look_up.ensures.under.learns c.args.pin.now.room c.in-Present.entry.0 c.in-Present.home.header c.in-Present.home.generation c.in-Present.ensures.spot (Upsert c.args.value.now k n) tt tt c.in-Err-compute_life.ensures.only.stands.met c.in-Err-compute_life.field-0 c.in-Err-compute_life.ensures.refused

pub returns-in-Ok-clause-alone : goal.returns-in-Ok-clause-alone
returns-in-Ok-clause-alone g c = let z = sizes c.args.table.now in let r = c.args.pin.now.room in let v = state c.args.pass.now in let u = state c.look_up.new.pass in let w = state c.insert.new.pass in
    inserted_keeps z r v w (away_inserts z r c.args.key.now c.args.value.now (entry_in c.in-Absent.entry) c.in-Absent.floor v u w (Ok c.in-Ok.at) c.in-Absent.ensures.alone (c.in-Ok.ensures.alone c.in-Absent.ensures.base))

pub returns-in-Err-clause-alone : goal.returns-in-Err-clause-alone
returns-in-Err-clause-alone g c = let z = sizes c.args.table.now in let r = c.args.pin.now.room in let v = state c.args.pass.now in let u = state c.look_up.new.pass in let w = state c.insert.new.pass in
    away_inserts z r c.args.key.now c.args.value.now (entry_in c.in-Absent.entry) c.in-Absent.floor v u w (Err c.in-Err.halt) c.in-Absent.ensures.alone (c.in-Err.ensures.alone c.in-Absent.ensures.base)

pub returns-in-Ok-compute_life-clause-alone : goal.returns-in-Ok-compute_life-clause-alone
returns-in-Ok-compute_life-clause-alone g c = let z = sizes c.args.table.now in let r = c.args.pin.now.room in let v = state c.args.pass.now in let u = state c.look_up.new.pass in let w = state c.compute_life.new.pass in
    life_keeps z r c.in-Present.home.header c.in-Present.home.generation c.in-Present.entry c.args.key.now v u w c.in-Present.ensures.alone c.in-Ok-compute_life.ensures.alone_kept

pub returns-in-Err-compute_life-clause-alone : goal.returns-in-Err-compute_life-clause-alone
returns-in-Err-compute_life-clause-alone g c = lock_refused (sizes c.args.table.now) c.args.pin.now.room c.in-Present.home.header c.in-Present.home.generation c.in-Present.entry c.args.key.now c.args.value.now Busy (state c.args.pass.now) (state c.look_up.new.pass) (state c.compute_life.new.pass)
    c.in-Present.ensures.alone c.in-Present.ensures.spot.has (c.look_up.ensures.under.headers ∙ c.requires.headers) c.in-Err-compute_life.ensures.alone

-- what the recipe was fed
pub returns-in-Ok-compute_life-clause-fed : goal.returns-in-Ok-compute_life-clause-fed
returns-in-Ok-compute_life-clause-fed g c = c.in-Ok-compute_life.ensures.fed c.args.key.now c.in-Present.ensures.spot.life

pub returns-in-Ok-clause-alone_left : goal.returns-in-Ok-clause-alone_left
returns-in-Ok-clause-alone_left g c = let z = sizes c.args.table.now in let r = c.args.pin.now.room in let v = state c.args.pass.now in let u = state c.look_up.new.pass in let w = state c.insert.new.pass in
    away_gets z r c.args.key.now c.args.value.now (entry_in c.in-Absent.entry) c.in-Absent.floor v u w c.in-Absent.ensures.alone c.in-Ok.ensures.alone_inserts

pub returns-in-Ok-compute_life-clause-alone_left : goal.returns-in-Ok-compute_life-clause-alone_left
returns-in-Ok-compute_life-clause-alone_left g c = let z = sizes c.args.table.now in let r = c.args.pin.now.room in let v = state c.args.pass.now in let u = state c.look_up.new.pass in let w = state c.compute_life.new.pass in
    rewrites_key z r c.in-Present.home.header c.in-Present.home.generation c.in-Present.entry c.args.key.now v u w c.in-Present.ensures.alone c.in-Ok-compute_life.at c.in-Ok-compute_life.ensures.alone_rewrites
