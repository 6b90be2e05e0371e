use Rattle.std.proofs.Common.{ℕ, ◌+◌, sym, subst}
use Rattle.point_ops.specs.TestStates.{IsReady, IsReadyAgain}
use Rattle.point_ops.proofs.TestLaws.{again_both}
use Rattle.oak_map.specs.Maps.{state}
use Rattle.oak_map.proofs.TestLaws.{put_again}
use Rattle.rounds.proofs.scan.rounds.put.Goals as goal

pub returns-clause-ready : goal.returns-clause-ready
returns-clause-ready g c = let n = c.args.number + 1 in let v = state c.args.pass.now in let m = state c.next_call.new.pass in let w = state c.put.new.pass in let next = c.next_call.ensures in
    again_both n n v m w next.ready (subst (λ (k : ℕ). IsReadyAgain k m w) next.call
    (put_again c.put.result _ _ _ _ m w c.put.ensures.wrote (subst (λ (k : ℕ). IsReady k m) (sym next.call) next.ready.ready)))
