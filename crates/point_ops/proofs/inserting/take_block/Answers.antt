use Rattle.std.proofs.Common.{◌∙◌, Some, sym, ap, subst}
use Rattle.oak_model.specs.declared.classes.Class.{Class}
use Rattle.oak_core.specs.Passes.{state, key as sizes, call_of}
use Rattle.arena_ops.specs.Taking.{Takes}
use Rattle.point_ops.specs.declared.halts.Halt.TheVariants as halts
use Rattle.point_ops.proofs.PartsMade.{taken_held, block_made, untaken_back, untaken_quiet}
use Rattle.point_ops.proofs.InsertCauses.{set_with}
use Rattle.point_ops.proofs.LoneBlocks.{block_alone, block_under}
use Rattle.point_ops.proofs.inserting.take_block.Goals as goal

pub store_bytes-requires-clause-held : goal.store_bytes-requires-clause-held
store_bytes-requires-clause-held c = let z = sizes c.args.table.now in let call = call_of c.args.pass.now in let b = c.in-Ok.block in let v = state c.args.pass.now in let u = state c.take.new.pass in
    taken_held z call b.class b.number v u c.requires.none (subst (λ (k : Class). Takes z call k b.number v u) (sym c.in-Ok.ensures.taken.0) c.in-Ok.ensures.taken.1)

pub returns-in-Ok-clause-made : goal.returns-in-Ok-clause-made
returns-in-Ok-clause-made c = let z = sizes c.args.table.now in let call = call_of c.args.pass.now in let b = c.in-Ok.block in let v = state c.args.pass.now in let u = state c.take.new.pass in (
  c.in-Ok.ensures.taken.0,
  block_made z call b.class b.number v u c.requires.none (subst (λ (k : Class). Takes z call k b.number v u) (sym c.in-Ok.ensures.taken.0) c.in-Ok.ensures.taken.1)
      c.args.bytes.now (call_of c.take.new.pass) (state c.store_bytes.new.pass) c.take.ensures.own.call c.store_bytes.ensures.stored c.store_bytes.ensures.times,
)

pub returns-in-Err-clause-quiet : goal.returns-in-Err-clause-quiet
returns-in-Err-clause-quiet c = untaken_quiet (sizes c.args.table.now) (call_of c.args.pass.now) (state c.args.pass.now) (state c.take.new.pass) c.args.class c.in-Err.ensures.none.1

pub returns-in-Err-clause-back : goal.returns-in-Err-clause-back
returns-in-Err-clause-back c = untaken_back (sizes c.args.table.now) (call_of c.args.pass.now) (state c.args.pass.now) (state c.take.new.pass) c.args.class c.in-Err.ensures.none.1

pub returns-in-Err-clause-refused : goal.returns-in-Err-clause-refused
returns-in-Err-clause-refused c = (ap halts.NoBlock c.in-Err.ensures.none.0, set_with (sizes c.args.table.now) (call_of c.args.pass.now) (state c.args.pass.now) (state c.take.new.pass) c.args.class c.in-Err.ensures.none.1)

pub returns-in-Ok-clause-alone : goal.returns-in-Ok-clause-alone
returns-in-Ok-clause-alone c = let z = sizes c.args.table.now in let b = c.in-Ok.block in let v = state c.args.pass.now in let u = state c.take.new.pass in
    block_alone z (call_of c.args.pass.now) b.class b.number v u (state c.store_bytes.new.pass) (subst (λ (k : Class). Takes z (call_of c.args.pass.now) k b.number v u) (sym c.in-Ok.ensures.taken.0) c.in-Ok.ensures.taken.1)
    c.args.bytes.now (c.requires.fits ∙ ap Some (sym c.in-Ok.ensures.taken.0)) c.store_bytes.ensures.stored.still

pub returns-in-Ok-clause-alone_under : goal.returns-in-Ok-clause-alone_under
returns-in-Ok-clause-alone_under c = let z = sizes c.args.table.now in let b = c.in-Ok.block in let v = state c.args.pass.now in let u = state c.take.new.pass in
    block_under z (call_of c.args.pass.now) b.class b.number v u (state c.store_bytes.new.pass) (subst (λ (k : Class). Takes z (call_of c.args.pass.now) k b.number v u) (sym c.in-Ok.ensures.taken.0) c.in-Ok.ensures.taken.1)
    c.args.bytes.now (c.requires.fits ∙ ap Some (sym c.in-Ok.ensures.taken.0)) c.store_bytes.ensures.stored.still
