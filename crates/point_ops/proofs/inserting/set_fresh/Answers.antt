use Rattle.std.proofs.Common.{◌∙◌, ap, refl}
use Rattle.oak_core.specs.declared.fresh.Fresh.{Fresh}
use Rattle.oak_core.specs.Passes.{state, key as sizes, call_of}
use Rattle.oak_core.proofs.calls.CallSteps.{met_none, stands_in}
use Rattle.value_ops.proofs.OneHeaderLaws.{without_one}
use Rattle.point_ops.proofs.Composed.{set_in}
use Rattle.point_ops.proofs.LoneInserting.{names_kept, other_alone}
use Rattle.point_ops.proofs.inserting.set_fresh.Goals as goal

pub returns-in-Ok-clause-blocks : goal.returns-in-Ok-clause-blocks
returns-in-Ok-clause-blocks c = let s = c.in-Ok.ensures.set c.requires.entry.0 c.requires.fresh.0 c.requires.entry.1 c.requires.fresh.1 in s.blocks ∙ c.requires.none

pub returns-in-Ok-clause-headers : goal.returns-in-Ok-clause-headers
returns-in-Ok-clause-headers c = let s = c.in-Ok.ensures.set c.requires.entry.0 c.requires.fresh.0 c.requires.entry.1 c.requires.fresh.1 in s.headers ∙ without_one c.args.fresh.header (state c.args.pass.now).headers c.requires.one

pub returns-in-Ok-clause-rooms : goal.returns-in-Ok-clause-rooms
returns-in-Ok-clause-rooms c = let s = c.in-Ok.ensures.set c.requires.entry.0 c.requires.fresh.0 c.requires.entry.1 c.requires.fresh.1 in s.rooms

pub returns-in-Err-clause-halted : goal.returns-in-Err-clause-halted
returns-in-Err-clause-halted c = let z = sizes c.args.table.now in let call = call_of c.args.pass.now in let v = state c.args.pass.now in let u = state c.set_value.new.pass in let w = state c.give_back.new.pass in
    let gone = stands_in call (call_of c.set_value.new.pass) u w c.set_value.ensures.own.call c.give_back.ensures.stands in
    (refl, λ k has. set_in call v v u w (met_none call v) gone.met z c.args.pin.now.room c.args.entry.0 c.args.floor k (c.in-Err.ensures.found k has))

pub returns-in-Err-clause-alone_halted : goal.returns-in-Err-clause-alone_halted
returns-in-Err-clause-alone_halted o = λ c b names. let f = o.args.fresh in let v = state o.args.pass.now in let u = state o.set_value.new.pass in
    other_alone (sizes o.args.table.now) o.args.pin.now.room o.args.entry.0 o.args.floor o.in-Err.fresh.header c b v u (state o.give_back.new.pass) o.in-Err.ensures.alone_found
    (o.give_back.ensures.alone c b (names_kept f.header o.in-Err.fresh.header c b v u (ap (λ (x : Fresh). x.header) o.in-Err.ensures.back) o.in-Err.ensures.only.headers names))
