use Rattle.std.proofs.Common.{rules, true, false, [], ◌∷◌, ◌++◌, ◌∙◌}
use Rattle.std.specs.Fn.{CalledAtTwo}
use Rattle.scan_cursor.specs.Cursors.{key_of, value_of}
use Rattle.oak_caller.specs.Given.{FindsEnd, FindsPair}
use Rattle.oak_caller.specs.Scans.{front, present}
use Rattle.oak_caller.proofs.CursorCalls.{goes_both}
use Rattle.oak_caller.proofs.GivenPairs.{called_at, goes_on}
use Rattle.oak_caller.proofs.giving.give_pairs.Goals as goal

pub returns-in_default-clause-on : goal.returns-in_default-clause-on
returns-in_default-clause-on g c = goes_both c.args.cursor.now c.loop.cursor c.next_value.new.cursor c.loop.invariant.on c.next_value.ensures.on

pub returns-in_default-clause-gives : goal.returns-in_default-clause-gives
returns-in_default-clause-gives g c = let i = c.loop.invariant.gives in let f : FindsEnd c.loop.cursor c.next_value.new.cursor = c.in_default.ensures.ended in
    record { pairs = i.0; last = c.loop.f; goes = i.1; ended = f.ended; gives = λ before h. f.goes i.0 before (i.2 before h) }

pub returns-then-not-f-clause-on : goal.returns-then-not-f-clause-on
returns-then-not-f-clause-on g c = goes_both c.args.cursor.now c.loop.cursor c.next_value.new.cursor c.loop.invariant.on c.next_value.ensures.on

pub returns-then-not-f-clause-gives : goal.returns-then-not-f-clause-gives
returns-then-not-f-clause-gives g c = let i = c.loop.invariant.gives in let n = c.next_value.new.cursor in let f : FindsPair c.loop.cursor n = c.in-Some-next_value.ensures.given in
    let stops : CalledAtTwo g.F.FnMut c.loop.f (key_of n) (front c.args.most (value_of n)) false c.f.new.self = called_at g.F.FnMut c.loop.f _ _ c.f.result c.f.new.self (key_of n) (front c.args.most (value_of n)) false c.f.ensures (search rules) (search rules) c.if-not-f.true in
    record { pairs = i.0; at = c.loop.f; goes = i.1; last = c.f.new.self; stops = stops; value = f.value; gives = λ before h. f.goes i.0 before (i.2 before h) }

pub loop-preserved : goal.loop-preserved
loop-preserved g c = let i = c.loop.invariant in let n = c.next_value.new.cursor in let f : FindsPair c.loop.cursor n = c.in-Some-next_value.ensures.given in
    let on : CalledAtTwo g.F.FnMut c.loop.f (key_of n) (front c.args.most (value_of n)) true c.f.new.self = called_at g.F.FnMut c.loop.f _ _ c.f.result c.f.new.self (key_of n) (front c.args.most (value_of n)) true c.f.ensures (search rules) (search rules) c.if-not-f.false in
    record {
      same_reference = c.next_value.ensures.same_reference ∙ i.same_reference;
      on = goes_both c.args.cursor.now c.loop.cursor n i.on c.next_value.ensures.on;
      gives = (i.gives.0 ++ present n ∷ [], goes_on c.args.most g.F.FnMut c.args.f i.gives.0 c.loop.f (present n) c.f.new.self i.gives.1 on, λ before h. f.goes i.gives.0 before (i.gives.2 before h));
    }
