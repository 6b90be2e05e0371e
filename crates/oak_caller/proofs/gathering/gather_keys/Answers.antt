use Rattle.std.proofs.Common.{◌≡◌, ◌∙◌, ◌∷◌, ◌++◌, []}
use Rattle.scan_cursor.specs.Cursors.{key_of}
use Rattle.oak_caller.specs.Gathered.{GathersUntil}
use Rattle.oak_caller.specs.Given.{FindsEnd, FindsPair}
use Rattle.oak_caller.proofs.CursorCalls.{goes_both}
use Rattle.oak_caller.proofs.GatheredKeys.{adds_none, adds_one, gathers_end, gathers_next, gathers_until, on_err}
use Rattle.oak_caller.proofs.gathering.gather_keys.Goals as goal

pub returns-in_err-gather_next-clause-on : goal.returns-in_err-gather_next-clause-on
returns-in_err-gather_next-clause-on g c = goes_both c.args.cursor.now c.loop.cursor c.gather_next.new.cursor c.loop.invariant.on c.gather_next.ensures.on

pub returns-in_err-gather_next-clause-some : goal.returns-in_err-gather_next-clause-some
returns-in_err-gather_next-clause-some g c = let n = c.gather_next.new.cursor in let e = c.in_err-gather_next.ensures in
    on_err c.from_residual.result (GathersUntil c.args.cursor.now n c.args.keys.now.items c.gather_next.new.keys.items) (gathers_until c.args.cursor.now c.loop.cursor n c.args.keys.now.items c.loop.keys.items c.gather_next.new.keys.items c.loop.invariant.gathers e.found e.same)

pub returns-then-not-branch-clause-on : goal.returns-then-not-branch-clause-on
returns-then-not-branch-clause-on g c = goes_both c.args.cursor.now c.loop.cursor c.gather_next.new.cursor c.loop.invariant.on c.gather_next.ensures.on

pub returns-then-not-branch-clause-all : goal.returns-then-not-branch-clause-all
returns-then-not-branch-clause-all g c = let n = c.gather_next.new.cursor in let had = c.loop.keys.items in let has = c.gather_next.new.keys.items in
    let a : FindsEnd c.loop.cursor n × (has ≡ had) = adds_none _ c.loop.cursor n had has c.if-not-branch.true c.in_ok-gather_next.ensures.adds in
    gathers_end c.args.cursor.now c.loop.cursor n c.args.keys.now.items had has c.loop.invariant.gathers a.0 a.1

pub loop-preserved : goal.loop-preserved
loop-preserved g c = let i = c.loop.invariant in let n = c.gather_next.new.cursor in let had = c.loop.keys.items in let has = c.gather_next.new.keys.items in
    let a : FindsPair c.loop.cursor n × (has ≡ had ++ key_of n ∷ []) = adds_one _ c.loop.cursor n had has c.if-not-branch.false c.in_ok-gather_next.ensures.adds in
    record {
      same_reference = c.gather_next.ensures.same_reference ∙ i.same_reference;
      on = goes_both c.args.cursor.now c.loop.cursor n i.on c.gather_next.ensures.on;
      gathers = gathers_next c.args.cursor.now c.loop.cursor n c.args.keys.now.items had has i.gathers a.0 a.1;
    }
