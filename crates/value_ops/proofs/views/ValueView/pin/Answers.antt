use Rattle.std.proofs.Common.{rules, sym, subst}
use Rattle.oak_core.specs.Known.{KnowsHeader}
use Rattle.oak_core.specs.Passes.{state, key, call_of}
use Rattle.value_ops.specs.Pinning.{PinsDud}
use Rattle.value_ops.specs.declared.views.NoRead.{NoRead}
use Rattle.value_ops.specs.Views.{NotRead, Viewed}
use Rattle.value_ops.proofs.ViewFacts.{dud_view, known_header}
use Rattle.value_ops.proofs.views.ValueView.pin.Goals as goal

pub pin_at-requires-clause-known : goal.pin_at-requires-clause-known
pin_at-requires-clause-known c = let x = c.args.self.now in let known : KnowsHeader x.header x.generation (state c.args.pass.now) = known_header (key c.args.table.now) x (state c.args.pass.now) c.requires.known in search rules

pub returns-in-Err-clause-bad : goal.returns-in-Err-clause-bad
returns-in-Err-clause-bad c = let z = key c.args.table.now in let call = call_of c.args.pass.now in let x : Viewed = c.args.self.now in let v = state c.args.pass.now in let w = state c.pin_at.new.pass in
    let dud : PinsDud z call x.header x.generation c.in-Err.bad v w = search rules in
    subst (λ (why : NoRead). NotRead z call x why v w) (sym c.why_not.ensures) (dud_view z call x v w c.requires.known c.in-Err.bad dud)
