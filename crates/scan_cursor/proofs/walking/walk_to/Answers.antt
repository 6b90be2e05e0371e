use Rattle.std.proofs.Common.{refl, ◌∙◌}
use Rattle.oak_model.specs.KeyNumber.{key_number}
use Rattle.oak_core.specs.Passes.{key as sizes, state}
use Rattle.chunk_ops.proofs.MeetingCalls.{both_stay, stays_then}
use Rattle.scan_cursor.specs.Leaving.{AddsPinOf}
use Rattle.scan_cursor.specs.Walks.{course_of, view_at}
use Rattle.scan_cursor.proofs.StepLaws.{but_both}
use Rattle.scan_cursor.proofs.VainLooks.{vain_since}
use Rattle.scan_cursor.proofs.WalkLaws.{walk_gives, walk_then}
use Rattle.scan_cursor.proofs.walking.walk_to.Goals as goal

pub step-requires : goal.step-requires
step-requires c = let q = c.requires in let i = c.loop-value.invariant in record { own = i.stays.table ∙ q.own; idle = i.idle; low = q.low; high = q.high; walk = i.passes.walk; going = i.going }

pub returns-in-Given-clause-goes : goal.returns-in-Given-clause-goes
returns-in-Given-clause-goes c = let way = c.args.way in let z = sizes c.args.table.now in let s = c.in-Given.ensures.steps in
    (s.0, walk_gives way (key_number c.args.low.now) (key_number c.args.high.now) (course_of way z c.args.walk.now c.args.pass.now) (course_of way z c.loop-value.walk c.loop-value.pass) (course_of way z c.step.new.walk c.step.new.pass) c.loop-value.invariant.passes s.1)

pub returns-in-Ended-clause-goes : goal.returns-in-Ended-clause-goes
returns-in-Ended-clause-goes c = let way = c.args.way in let z = sizes c.args.table.now in let s = c.in-Ended.ensures.steps in
    (s.0, walk_then way (key_number c.args.low.now) (key_number c.args.high.now) (course_of way z c.args.walk.now c.args.pass.now) (course_of way z c.loop-value.walk c.loop-value.pass) (course_of way z c.step.new.walk c.step.new.pass) c.loop-value.invariant.passes s.1, s.2)

pub loop-value-preserved : goal.loop-value-preserved
loop-value-preserved c = let way = c.args.way in let z = sizes c.args.table.now in let e = c.in-Passed.ensures in let s = e.steps in let i = c.loop-value.invariant in record {
  stays = but_both c.args.pass.now c.loop-value.pass c.step.new.pass i.stays e.own;
  idle = s.0;
  going = s.2;
  passes = walk_then way (key_number c.args.low.now) (key_number c.args.high.now) (course_of way z c.args.walk.now c.args.pass.now) (course_of way z c.loop-value.walk c.loop-value.pass) (course_of way z c.step.new.walk c.step.new.pass) i.passes s.1;
  still = both_stay (state c.args.pass.now) (state c.loop-value.pass) (state c.step.new.pass) i.still e.still;
}

pub returns-in-Given-clause-still : goal.returns-in-Given-clause-still
returns-in-Given-clause-still c = stays_then (AddsPinOf (sizes c.args.table.now) c.in-Given.value) (state c.args.pass.now) (state c.loop-value.pass) (state c.step.new.pass) c.loop-value.invariant.still c.in-Given.ensures.still

pub returns-in-Ended-clause-still : goal.returns-in-Ended-clause-still
returns-in-Ended-clause-still c = both_stay (state c.args.pass.now) (state c.loop-value.pass) (state c.step.new.pass) c.loop-value.invariant.still c.in-Ended.ensures.still

pub returns-in-Again-clause-waits : goal.returns-in-Again-clause-waits
returns-in-Again-clause-waits c = let way = c.args.way in let z = sizes c.args.table.now in let s = c.in-Again.ensures.steps in
    (s.0, walk_then way (key_number c.args.low.now) (key_number c.args.high.now) (course_of way z c.args.walk.now c.args.pass.now) (course_of way z c.loop-value.walk c.loop-value.pass) (course_of way z c.step.new.walk c.step.new.pass) c.loop-value.invariant.passes s.1, s.2)

pub returns-in-Again-clause-vain : goal.returns-in-Again-clause-vain
returns-in-Again-clause-vain c = let z = sizes c.args.table.now in let i = c.loop-value.invariant in let k = c.loop-value.walk.mark.key in
    (k, i.passes.walk.bounds i.going, vain_since k (view_at z c.args.pass.now) (view_at z c.loop-value.pass) (view_at z c.step.new.pass) i.passes.later i.still (c.in-Again.ensures.again refl))
