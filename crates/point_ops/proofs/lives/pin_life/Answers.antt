use Rattle.std.proofs.Common.{refl, subst, inl, inr}
use Rattle.oak_core.specs.Passes.{state, key as sizes, call_of}
use Rattle.value_ops.specs.declared.pinning.BadPin.{BadPin}
use Rattle.value_ops.specs.declared.pinning.BadPin.TheVariants.{Locked, Other}
use Rattle.value_ops.specs.Pinning.{PinsDud}
use Rattle.point_ops.proofs.LoneLooks.{locked_not, other_not}
use Rattle.point_ops.proofs.LookedLives.{dud_refuses}
use Rattle.point_ops.proofs.lives.pin_life.Goals as goal

pub returns-in-Err-Dead-clause-pinned : goal.returns-in-Err-Dead-clause-pinned
returns-in-Err-Dead-clause-pinned c = subst (λ (why : BadPin). PinsDud (sizes c.args.table.now) (call_of c.args.pass.now) c.args.home.header c.args.home.generation why (state c.args.pass.now) (state c.pin_at.new.pass)) c.in-Err-Dead.field-0-is c.in-Err-Dead.ensures.bad

pub returns-in-Err-Locked-clause-refused : goal.returns-in-Err-Locked-clause-refused
returns-in-Err-Locked-clause-refused c = let z = sizes c.args.table.now in let call = call_of c.args.pass.now in let h = c.args.home.header in let g = c.args.home.generation in let v = state c.args.pass.now in let w = state c.pin_at.new.pass in
    (refl, dud_refuses z call h g Locked v w c.requires.none (subst (λ (why : BadPin). PinsDud z call h g why v w) c.in-Err-Locked.field-0-is c.in-Err-Locked.ensures.bad) (λ n x. inl x.1) (locked_not g))

pub returns-in-Err-Other-clause-refused : goal.returns-in-Err-Other-clause-refused
returns-in-Err-Other-clause-refused c = let z = sizes c.args.table.now in let call = call_of c.args.pass.now in let h = c.args.home.header in let g = c.args.home.generation in let v = state c.args.pass.now in let w = state c.pin_at.new.pass in
    (refl, dud_refuses z call h g Other v w c.requires.none (subst (λ (why : BadPin). PinsDud z call h g why v w) c.in-Err-Other.field-0-is c.in-Err-Other.ensures.bad) (λ n x. inr x) (other_not g))
