use Rattle.std.proofs.Common.{ℕ, List, true, ap, ◌∙◌, subst}
use Rattle.oak_core.specs.Passes.{key as sizes, state}
use Rattle.scan_cursor.proofs.FillLaws.{fill_steps}
use Rattle.scan_cursor.proofs.LeavingLaws.{room_left}
use Rattle.scan_cursor.specs.Busy.{LooksInVain}
use Rattle.scan_cursor.specs.Holding.{Covers, Room, bound_in, cut_room, room_at}
use Rattle.scan_cursor.specs.Walks.{view_at}
use Rattle.scan_cursor.proofs.RemainingLaws.{fill_nearer}
use Rattle.scan_cursor.proofs.StepLaws.{told_at, walk_waits}
use Rattle.scan_cursor.proofs.walking.refill.Goals as goal

pub returns-in_default-clause-steps : goal.returns-in_default-clause-steps
returns-in_default-clause-steps c i = let e = c.in_default.ensures in
    walk_waits c.args.way _ _ (sizes c.args.table.now) c.args.walk.now c.args.pass.now c.pin_ahead.new.pass e.own c.requires.going e.moved e.later i

pub returns-clause-steps : goal.returns-clause-steps
returns-clause-steps c i = let e = c.in-Ok.ensures in let g = c.gather-batch.ensures in let b = c.end_batch-walk.ensures in let u = c.unpin.ensures in let batch = c.gather-batch.result in
    fill_steps c.args.way _ _ (sizes c.args.table.now) c.args.walk.now c.args.pass.now c.pin_ahead.new.pass c.gather-batch.new.pass c.end_batch-walk.new.pass c.unpin.new.pass c.in-Ok.pin.room batch.filled c.as_slice.result.now c.end_batch-walk.result
    c.requires.going c.as_slice.ensures e.own g.own g.few g.has g.room batch.bound c.next_batch-walk.result c.is_within-walk.result c.is_within-walk.ensures g.real g.covers b.own b.bound b.only u.own u.unpinned e.later g.later g.gathered i

pub returns-clause-still : goal.returns-clause-still
returns-clause-still c = let g = c.gather-batch.ensures in
    room_left (sizes c.args.table.now) c.in-Ok.pin.room (state c.args.pass.now) (state c.pin_ahead.new.pass) (state c.gather-batch.new.pass) (state c.end_batch-walk.new.pass) (state c.unpin.new.pass) g.has.pin.inside c.in-Ok.ensures.still g.still c.end_batch-walk.ensures.only.still c.unpin.ensures.unpinned.still

pub returns-in_default-clause-again : goal.returns-in_default-clause-again
returns-in_default-clause-again c is = let z = sizes c.args.table.now in let p = c.args.pass.now in let e = c.in_default.ensures in
    subst (LooksInVain c.args.walk.now.mark.key (view_at z p)) (told_at z p c.pin_ahead.new.pass e.own.call) e.vain

pub returns-clause-nearer : goal.returns-clause-nearer
returns-clause-nearer c high le is = let w = c.args.walk.now in let q = c.requires in let g = c.gather-batch.ensures in let batch = c.gather-batch.result in let way = c.args.way in let room = cut_room way (room_at (state c.pin_ahead.new.pass)) batch.bound in
    fill_nearer way high w batch.filled c.next_batch-walk.result c.is_within-walk.result c.end_batch-walk.result room q.unloaded q.past (subst (λ (k : List ℕ). Covers way true k room) c.as_slice.ensures g.covers) le g.few
    (c.end_batch-walk.ensures.bound ∙ ap (λ (a : Room). bound_in way (cut_room way a batch.bound)) g.room)
