use Rattle.std.proofs.Common.{rules, ◌≡◌, List, ℕ, ◌∷◌, ◌++◌, [], refl, ap, ◌∙◌}
use Rattle.oak_model.specs.Key.{IsKey}
use Rattle.scan_cursor.specs.Cursors.{key_of}
use Rattle.oak_caller.specs.Given.{FindsPair}
use Rattle.oak_caller.proofs.CursorCalls.{advanced, finds_end, finds_pair}
use Rattle.oak_caller.proofs.GatheredKeys.{on_err}
use Rattle.oak_caller.proofs.PresentPairs.{present_key}
use Rattle.oak_caller.proofs.gathering.gather_next.Goals as goal

pub returns-then-not-advance-clause-on : goal.returns-then-not-advance-clause-on
returns-then-not-advance-clause-on g c = let e = c.advance.ensures in advanced c.args.cursor.now c.advance.new.self e.table e.low e.high e.way e.own e.cursor e.later

pub returns-then-not-advance-clause-adds : goal.returns-then-not-advance-clause-adds
returns-then-not-advance-clause-adds g c = (finds_end c.advance.result c.args.cursor.now c.advance.new.self c.if-not-advance.true c.advance.ensures.advances, refl)

pub key-requires : goal.key-requires
key-requires g c = let n = c.advance.new.self in
    let found : FindsPair c.args.cursor.now n = finds_pair c.advance.result c.args.cursor.now n c.if-not-advance.false c.advance.ensures.advances in
    let is : IsKey (key_of n) = present_key n c.advance.ensures.cursor found.value in search (rules, is)

pub returns-in_err-key-clause-found : goal.returns-in_err-key-clause-found
returns-in_err-key-clause-found g c = on_err c.from_residual.result (FindsPair c.args.cursor.now c.advance.new.self) (finds_pair c.advance.result c.args.cursor.now c.advance.new.self c.if-not-advance.false c.advance.ensures.advances)

pub returns-in_err-push-clause-found : goal.returns-in_err-push-clause-found
returns-in_err-push-clause-found g c = on_err c.from_residual-in_err-push.result (FindsPair c.args.cursor.now c.advance.new.self) (finds_pair c.advance.result c.args.cursor.now c.advance.new.self c.if-not-advance.false c.advance.ensures.advances)

pub returns-clause-adds : goal.returns-clause-adds
returns-clause-adds g c = let n = c.advance.new.self in
    let k : c.in_ok-key.key ≡ key_of n = search rules in
    (finds_pair c.advance.result c.args.cursor.now n c.if-not-advance.false c.advance.ensures.advances, c.in_ok-push.ensures.items ∙ ap (λ (x : List ℕ). c.args.keys.now.items ++ x ∷ []) k)
