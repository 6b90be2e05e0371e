use Rattle.std.proofs.Common.{Option, None, sym, subst}
use Rattle.oak_core.specs.declared.table.Pass.{Pass}
use Rattle.oak_core.specs.AloneWords.{Runs}
use Rattle.oak_core.specs.Passes.{key as sizes, state}
use Rattle.value_ops.specs.declared.pinned_value.PinnedValue.{PinnedValue}
use Rattle.scan_cursor.specs.Cursors.{under, view_under}
use Rattle.scan_cursor.specs.Leaving.{LeavesValue}
use Rattle.scan_cursor.specs.Views.{Later}
use Rattle.scan_cursor.specs.Walks.{view_at}
use Rattle.scan_cursor.proofs.CursorLaws.{later_undone}
use Rattle.scan_cursor.proofs.EndLaws.{scan_quiet}
use Rattle.scan_cursor.proofs.LeavingLaws.{none_leaves}
use Rattle.scan_cursor.proofs.ReadingViews.{later_self}
use Rattle.scan_cursor.proofs.cursor.Cursor.finish.Goals.{in-Some, in_default}
use Rattle.scan_cursor.proofs.cursor.Cursor.finish.Goals as goal

pub returns-clause-later : goal.returns-clause-later
returns-clause-later c = let s = c.args.self in let z = sizes s.table.now in elim c.match-value.branch [
  | in-Some w ↦ subst (λ (p : Pass). Later (view_under s) (view_at z p)) (sym w.pass-is) (later_undone z s.pass.now w.unpin.new.pass w.in-Some.value.header w.unpin.ensures.own w.unpin.ensures.undone)
  | in_default w ↦ subst (λ (p : Pass). Later (view_under s) (view_at z p)) (sym w.pass-is) (later_self (view_under s))
]

pub returns-clause-quiet : goal.returns-clause-quiet
returns-clause-quiet c before pairs given = let s = c.args.self in let z = sizes s.table.now in scan_quiet s before (view_at z c.match-value.pass) pairs given (returns-clause-later c)

pub returns-clause-still : goal.returns-clause-still
returns-clause-still c = let s = c.args.self in let z = sizes s.table.now in elim c.match-value.branch [
  | in-Some w ↦ subst (λ (p : Pass). Runs (LeavesValue z s.value None) (under s) (state p)) (sym w.pass-is) (subst (λ (o : Option PinnedValue). Runs (LeavesValue z o None) (under s) (state w.unpin.new.pass)) (sym w.in-Some.is) w.unpin.ensures.undone.still)
  | in_default w ↦ subst (λ (p : Pass). Runs (LeavesValue z s.value None) (under s) (state p)) (sym w.pass-is) (subst (λ (o : Option PinnedValue). Runs (LeavesValue z o None) (under s) (under s)) (sym w.in_default.is) (none_leaves (under s)))
]
