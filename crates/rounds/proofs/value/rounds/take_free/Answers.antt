use Rattle.std.proofs.Common.{sym, subst}
use Rattle.oak_model.specs.declared.classes.Class.{Class}
use Rattle.oak_core.specs.Passes.{state, key, call_of}
use Rattle.arena_ops.specs.Taking.{Takes}
use Rattle.value_ops.proofs.OneHeaderLaws.{one_holds, taken_one}
use Rattle.rounds.proofs.value.rounds.take_free.Goals as goal

pub returns-in-Ok-clause-held : goal.returns-in-Ok-clause-held
returns-in-Ok-clause-held c = let z = key c.args.table.now in let call = call_of c.args.pass.now in let v = state c.args.pass.now in let w = state c.take.new.pass in let b = c.in-Ok.block in let e = c.in-Ok.ensures.taken in
    let t : Takes z call b.class b.number v w = subst (λ (d : Class). Takes z call d b.number v w) (sym e.0) e.1 in
    one_holds z b.class b.number w.blocks (taken_one z call v w b.class b.number c.requires.none t) t.inside
