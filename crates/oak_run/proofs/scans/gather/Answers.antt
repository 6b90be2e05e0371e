use Rattle.std.proofs.Common.{refl, ◌∙◌}
use Rattle.oak_run.proofs.GatherLaws.{gave_none, goes_both, goes_self}
use Rattle.oak_run.proofs.scans.gather.Goals as goal

pub loop-init : goal.loop-init
loop-init g c = record {
  same_reference = refl;
  on = goes_self c.args.cursor.now c.requires;
  gives = gave_none c.args.cursor.now c.new-pairs.result.items c.new-pairs.ensures.items;
}

pub loop-preserved : goal.loop-preserved
loop-preserved g c = let i = c.loop.invariant in let e = c.gather_next.ensures in record {
  same_reference = e.same_reference ∙ i.same_reference;
  on = goes_both c.args.cursor.now c.loop.cursor c.gather_next.new.cursor i.on e.on;
  gives = λ before h. c.in_ok-gather_next.ensures.gives before (i.gives before h);
}

pub returns-in_err-gather_next-clause-on : goal.returns-in_err-gather_next-clause-on
returns-in_err-gather_next-clause-on g c = goes_both c.args.cursor.now c.loop.cursor c.gather_next.new.cursor c.loop.invariant.on c.gather_next.ensures.on

pub returns-then-not-branch-clause-on : goal.returns-then-not-branch-clause-on
returns-then-not-branch-clause-on g c = goes_both c.args.cursor.now c.loop.cursor c.gather_next.new.cursor c.loop.invariant.on c.gather_next.ensures.on

pub returns-then-not-branch-clause-gives : goal.returns-then-not-branch-clause-gives
returns-then-not-branch-clause-gives g c = λ before h. c.in_ok-gather_next.ensures.gives before (c.loop.invariant.gives before h)
