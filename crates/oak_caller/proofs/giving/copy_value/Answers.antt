use Rattle.std.proofs.Common.{arith, ◌≡◌, ℕ, ◌≤◌, List, length, min, subst}
use Rattle.std.specs.Prelude.{MatchOption}
use Rattle.std.proofs.lemmas.List.{length-take-le}
use Rattle.oak_model.specs.Value.{IsValue}
use Rattle.scan_cursor.specs.Cursors.{value_of}
use Rattle.oak_caller.proofs.CursorCalls.{reads_keeps, reads_same}
use Rattle.oak_caller.proofs.PresentPairs.{present_value}
use Rattle.oak_caller.proofs.ShownBytes.{shown_in}
use Rattle.oak_caller.proofs.giving.copy_value.Goals as goal

pub returns-clause-keeps : goal.returns-clause-keeps
returns-clause-keeps c = reads_keeps c.args.cursor.now c.copy_prefix.new.self c.copy_prefix.ensures.reads

pub returns-clause-same : goal.returns-clause-same
returns-clause-same c = reads_same c.args.cursor.now c.copy_prefix.new.self c.copy_prefix.ensures.reads

pub returns-clause-value : goal.returns-clause-value
returns-clause-value c = let v : List ℕ = value_of c.args.cursor.now in let many = c.shown-many.result in let e = c.shown-many.ensures in
    let inside : many ≤ length v = subst (λ n. many ≤ n) c.len.ensures e.within in
    let is : MatchOption c.args.most (many ≡ length v) (λ m. many ≡ min m (length v)) = subst (λ n. MatchOption c.args.most (many ≡ n) (λ m. many ≡ min m n)) c.len.ensures e.is in
    let fits : many ≤ length c.args.out.now = let short : IsValue v = present_value c.args.cursor.now c.requires.cursor c.requires.given in let place = c.told-out in omega arith in
    shown_in c.args.most many c.copy_prefix.result v _ c.copy_prefix.new.out _ inside is (length-take-le many c.args.out.now fits) c.copy_prefix.ensures.many c.copy_prefix.ensures.copied
