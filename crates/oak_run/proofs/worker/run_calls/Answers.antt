use Rattle.std.proofs.Common.{◌≡◌, ◌+◌, List, ◌∷◌, ◌++◌, [], length, take, refl, sym, ap, ◌∙◌, subst, arith}
use Rattle.std.proofs.lemmas.List.{length-take-le, take_more}
use Rattle.oak_model.specs.declared.replies.Reply.{Reply}
use Rattle.oak_core.specs.declared.states.PassState.{PassState}
use Rattle.oak_core.specs.MayWrite.{IsNewCall}
use Rattle.oak_script.specs.declared.scripts.Call.{Call}
use Rattle.oak_map.specs.Maps.{call_of, sizes, state}
use Rattle.oak_run.specs.CallTurns.{times_computed}
use Rattle.oak_run.specs.HeldNames.{CallDid, KeepsViews}
use Rattle.oak_run.specs.Views.{names_of, no_names}
use Rattle.oak_run.specs.Working.{Working}
use Rattle.oak_run.proofs.WorkLaws.{computed_push, next_new, told_once, working_start, works_on}
use Rattle.oak_run.proofs.worker.run_calls.Goals as goal

pub loop-call-init : goal.loop-call-init
loop-call-init g c = record {
  ready = c.requires.ready;
  call = c.requires.unused;
  number = refl;
  few = omega arith;
  counted = ap times_computed (sym c.in_ok-replies.ensures.items);
  rose = omega arith;
  working = subst (λ (ys : List Reply). Working (sizes c.args.map.now) (state c.args.pass.now) (state c.args.pass.now) c.new-holds.result [] ys) (sym c.in_ok-replies.ensures.items) (working_start (sizes c.args.map.now) (state c.args.pass.now) c.new-holds.result c.requires.unwritten c.new-holds.ensures.empty);
}

pub reply_to-requires-clause-turn : goal.reply_to-requires-clause-turn
reply_to-requires-clause-turn g c κs within = let i = c.loop-call.call-index in let inv = c.loop-call.invariant in let cs : List Call = take i c.args.thread.now in
    let counted : length cs ≡ i = length-take-le i c.args.thread.now (let lt = c.loop-call-test.true in omega arith) in
    let called = c.turn.ensures.call in let number = inv.number in let few = c.requires.few in let lt = c.loop-call-test.true in
    subst (λ (v : PassState). IsNewCall (call_of c.turn.new.self) v) (ap (λ m. m.0) (sym c.turn.ensures.state))
    (next_new (call_of c.turn.new.self) cs (state c.loop-call.pass) (omega arith) (omega arith) inv.working.early)

pub reply_to-requires-clause-known : goal.reply_to-requires-clause-known
reply_to-requires-clause-known g c κs within = let w = c.loop-call.invariant.working in
    (names_of no_names w.fits.turns, subst (λ (v : PassState). KeepsViews (sizes c.args.map.now) c.loop-call.holds v (names_of no_names w.fits.turns)) (ap (λ m. m.0) (sym c.turn.ensures.state)) w.keeps)

pub loop-call-preserved : goal.loop-call-preserved
loop-call-preserved g c = let z = sizes c.args.map.now in let i = c.loop-call.call-index in let inv = c.loop-call.invariant in let thread : List Call = c.args.thread.now in let cs : List Call = take i thread in
    let x = c.call-item.result in let y = c.in_ok-reply.reply in let v = state c.loop-call.pass in let w = state c.reply_to.new.pass in let n = call_of c.turn.new.self in
    let lt = c.loop-call-test.true in let counted : length cs ≡ i = length-take-le i thread (omega arith) in
    let called : n ≡ c.loop-call.call_number + 1 = c.turn.ensures.call in let number = inv.number in let again = c.reply_to.ensures.call in
    let did : CallDid z n c.loop-call.holds c.reply_to.new.holds x y v w = subst (λ (u : PassState). CallDid z n c.loop-call.holds c.reply_to.new.holds x y u w) (ap (λ m. m.0) c.turn.ensures.state) c.in_ok-reply.ensures.did in
    let more : take (i + 1) thread ≡ cs ++ x ∷ [] = take_more thread i x lt ∙ ap (λ (b : Call). cs ++ b ∷ []) (sym c.call-item.is) in
    record {
      ready = c.reply_to.ensures.ready;
      call = omega arith;
      number = omega arith;
      few = let a = inv.few in let d = told_once y in let t = c.times_in-computed.ensures in omega arith;
      counted = let t = c.times_in-computed.ensures in let a = inv.counted in let q = computed_push c.loop-call.replies.items y in let r = ap times_computed c.in_ok-push.ensures.items in omega arith;
      rose = let t = c.times_in-computed.ensures in let a = inv.rose in let b = c.in_ok-reply.ensures.counted in omega arith;
      working = subst (λ (l : List Call × List Reply). Working z (state c.args.pass.now) w c.reply_to.new.holds l.0 l.1) (λ j. (sym more j, sym c.in_ok-push.ensures.items j))
          (works_on z (state c.args.pass.now) v w c.loop-call.holds c.reply_to.new.holds cs c.loop-call.replies.items n x y inv.working (omega arith) did);
    }
