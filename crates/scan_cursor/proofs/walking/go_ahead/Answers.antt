use Rattle.std.proofs.Common.{◌≤◌, subst, ℕ, sym}
use Rattle.oak_model.specs.declared.limits.TheConstants.{GREATEST_ENTRIES}
use Rattle.oak_model.specs.KeyNumber.{key_number}
use Rattle.oak_core.specs.Passes.{key as sizes, slots_of}
use Rattle.scan_cursor.specs.Gathered.{slots_ahead}
use Rattle.scan_cursor.specs.Walks.{course_of}
use Rattle.scan_cursor.proofs.FillLaws.{none_left}
use Rattle.scan_cursor.proofs.RemainingLaws.{leave_nearer}
use Rattle.scan_cursor.proofs.WalkLaws.{walk_leaves}
use Rattle.scan_cursor.proofs.walking.go_ahead.Goals as goal

pub returns-then-walk-2-clause-steps : goal.returns-then-walk-2-clause-steps
returns-then-walk-2-clause-steps c = let q = c.requires in let e = c.leave_room.ensures in let w = c.args.walk.now in let n = c.leave_room.new.walk in (
  q.on.idle,
  walk_leaves c.args.way _ _ (course_of c.args.way (sizes c.args.table.now) w c.args.pass.now) n (slots_ahead c.args.way n.from n.to (slots_of c.args.pass.now)) q.on.walk q.on.going q.past q.gathered
      (none_left c.args.way w.from w.to (slots_of c.args.pass.now) c.if-walk.false) e.leaves e.gathered e.bound (subst (λ (k : ℕ). k ≤ GREATEST_ENTRIES) (sym e.to) q.on.walk.few),
  c.if-walk-2.true,
)

pub returns-else-walk-2-clause-steps : goal.returns-else-walk-2-clause-steps
returns-else-walk-2-clause-steps c = let q = c.requires in let e = c.leave_room.ensures in let w = c.args.walk.now in let n = c.leave_room.new.walk in (
  q.on.idle,
  walk_leaves c.args.way _ _ (course_of c.args.way (sizes c.args.table.now) w c.args.pass.now) n (slots_ahead c.args.way n.from n.to (slots_of c.args.pass.now)) q.on.walk q.on.going q.past q.gathered
      (none_left c.args.way w.from w.to (slots_of c.args.pass.now) c.if-walk.false) e.leaves e.gathered e.bound (subst (λ (k : ℕ). k ≤ GREATEST_ENTRIES) (sym e.to) q.on.walk.few),
  c.if-walk-2.false,
)

pub returns-else-walk-2-clause-nearer : goal.returns-else-walk-2-clause-nearer
returns-else-walk-2-clause-nearer c is = let e = c.leave_room.ensures in leave_nearer c.args.way (key_number c.args.low.now) (key_number c.args.high.now) c.args.walk.now c.leave_room.new.walk c.requires.gathered e.gathered e.leaves c.if-walk-2.false
