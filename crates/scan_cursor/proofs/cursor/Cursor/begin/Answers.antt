use Rattle.std.proofs.Common.{List, [], ℕ, subst}
use Rattle.oak_model.specs.KeyNumber.{key_number}
use Rattle.oak_core.specs.Passes.{key as sizes}
use Rattle.scan_cursor.specs.Marks.{HasCome}
use Rattle.scan_cursor.specs.Walks.{course_of, view_at}
use Rattle.scan_cursor.proofs.LeavingLaws.{none_leaves}
use Rattle.scan_cursor.proofs.WalkLaws.{walk_starts}
use Rattle.scan_cursor.proofs.cursor.Cursor.begin.Goals as goal

pub returns-clause-starts : goal.returns-clause-starts
returns-clause-starts c = let z = sizes c.args.table.now in let v = view_at z c.args.pass.now in let e = c.at_start-walk.ensures in
    record {
      walked = walk_starts c.args.way _ _ (course_of c.args.way z c.at_start-walk.result c.args.pass.now) e.gathered
          (subst (λ (p : List ℕ × List ℕ). HasCome c.args.way (key_number p.0) (key_number p.1) c.at_start-walk.result.mark v v []) (λ j. (c.as_slice.ensures j, c.as_slice-2.ensures j)) (e.starts v));
      still = none_leaves v.state;
    }
