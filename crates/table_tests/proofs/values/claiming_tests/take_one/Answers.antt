use Rattle.std.proofs.Common.{◌≡◌, sym, ap, ◌∙◌, subst, IfOk, Result, ℕ}
use Rattle.oak_model.specs.declared.classes.Class.{Class}
use Rattle.oak_model.specs.declared.classes.Class.TheVariants.{B16}
use Rattle.oak_core.specs.declared.blocks.Block.{Block}
use Rattle.oak_core.specs.declared.states.PassState.{PassState}
use Rattle.oak_core.specs.Passes.{state, key, call_of}
use Rattle.arena_ops.specs.declared.taking.NoBlock.{NoBlock}
use Rattle.arena_ops.specs.Taking.{Takes}
use Rattle.value_ops.proofs.OneHeaderLaws.{one_holds, taken_one, taken_else, taken_headers}
use Rattle.table_tests.proofs.values.claiming_tests.take_one.Goals as goal

-- what the call gave
taken : (z : _) (call : ℕ) (v w : PassState) (r : Result Block NoBlock) (b : Block) → r ≡ Rattle.std.proofs.Common.Ok b → IfOk r (λ (o : Block). (o.class ≡ B16) × Takes z call B16 o.number v w) → (b.class ≡ B16) × Takes z call b.class b.number v w
taken z call v w r b e t = let p = subst (λ (r : Result Block NoBlock). IfOk r (λ (o : Block). (o.class ≡ B16) × Takes z call B16 o.number v w)) e t in (p.0, subst (λ (d : Class). Takes z call d b.number v w) (sym p.0) p.1)

pub returns-clause-rest : goal.returns-clause-rest
returns-clause-rest g c = let z = key c.args.table.now in let call = call_of c.args.pass.now in let v = state c.args.pass.now in let w = state c.take.new.pass in let b : Block = c.expect.result in
    taken_else z call v w b.class b.number (taken z call v w c.take.result b c.expect.ensures c.take.ensures.taken).1

pub returns-clause-headers : goal.returns-clause-headers
returns-clause-headers g c = let z = key c.args.table.now in let call = call_of c.args.pass.now in let v = state c.args.pass.now in let w = state c.take.new.pass in let b : Block = c.expect.result in
    taken_headers z call v w b.class b.number (taken z call v w c.take.result b c.expect.ensures c.take.ensures.taken).1

pub returns-clause-class : goal.returns-clause-class
returns-clause-class g c = (taken (key c.args.table.now) (call_of c.args.pass.now) (state c.args.pass.now) (state c.take.new.pass) c.take.result c.expect.result c.expect.ensures c.take.ensures.taken).0

pub returns-clause-held : goal.returns-clause-held
returns-clause-held g c = let z = key c.args.table.now in let call = call_of c.args.pass.now in let v = state c.args.pass.now in let w = state c.take.new.pass in let b : Block = c.expect.result in
    let t = (taken z call v w c.take.result b c.expect.ensures c.take.ensures.taken).1 in one_holds z b.class b.number w.blocks (taken_one z call v w b.class b.number c.requires.none t) t.inside

pub returns-clause-one : goal.returns-clause-one
returns-clause-one g c = let z = key c.args.table.now in let call = call_of c.args.pass.now in let v = state c.args.pass.now in let w = state c.take.new.pass in let b : Block = c.expect.result in
    taken_one z call v w b.class b.number c.requires.none (taken z call v w c.take.result b c.expect.ensures c.take.ensures.taken).1
