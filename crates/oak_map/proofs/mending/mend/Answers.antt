use Rattle.std.proofs.Common.{ℕ, List, Option, IfSome, sym, subst}
use Rattle.oak_model.specs.Key.{IsKey}
use Rattle.oak_core.specs.Passes.{call_of, state}
use Rattle.oak_core.proofs.seats.SamePass.{stays_both}
use Rattle.chunk_ops.proofs.MeetingCalls.{only_both, only_in}
use Rattle.oak_map.proofs.mending.mend.Goals as goal

pub loop-preserved-in-None-mend_at : goal.loop-preserved-in-None-mend_at
loop-preserved-in-None-mend_at g c = let call = call_of c.args.pass.now in let v = state c.args.pass.now in let w = state c.loop.pass in let x = state c.mend_at.new.pass in let i = c.loop.invariant in record {
  next = tt;
  stays = stays_both i.stays c.mend_at.ensures.own;
  only = only_both call v w x i.only (only_in call (call_of c.loop.pass) w x i.stays.call c.mend_at.ensures.only);
  key = i.key;
}

pub loop-preserved : goal.loop-preserved
loop-preserved g c = let call = call_of c.args.pass.now in let v = state c.args.pass.now in let w = state c.loop.pass in let x = state c.mend_at.new.pass in let i = c.loop.invariant in record {
  next = tt;
  stays = stays_both i.stays c.mend_at.ensures.own;
  only = only_both call v w x i.only (only_in call (call_of c.loop.pass) w x i.stays.call c.mend_at.ensures.only);
  key = subst IsKey (sym c.in-Some-high.high-is) (subst (λ (o : Option (List ℕ)). IfSome o IsKey) c.in-Some-high.is c.in-Some-mend_at.ensures.high);
}

pub returns-in-None-high-clause-only : goal.returns-in-None-high-clause-only
returns-in-None-high-clause-only g c = let call = call_of c.args.pass.now in let v = state c.args.pass.now in let w = state c.loop.pass in let x = state c.mend_at.new.pass in let i = c.loop.invariant in
    only_both call v w x i.only (only_in call (call_of c.loop.pass) w x i.stays.call c.mend_at.ensures.only)
