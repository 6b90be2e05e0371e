use Rattle.std.proofs.Common.{◌≡◌, ℕ, suc, ◌+◌, Option, Some, None, ◌∙◌, subst, arith}
use Rattle.oak_model.specs.KeyNumber.{key_number}
use Rattle.oak_core.specs.AloneWords.{Runs}
use Rattle.oak_core.specs.Passes.{key as sizes, state}
use Rattle.chunk_ops.specs.AddsAlone.{Never}
use Rattle.chunk_ops.proofs.MeetingCalls.{both_stay, stays_then}
use Rattle.value_ops.specs.declared.pinned_value.PinnedValue.{PinnedValue}
use Rattle.scan_cursor.specs.declared.ways.Way.{Way}
use Rattle.scan_cursor.specs.Busy.{AreInVain}
use Rattle.scan_cursor.specs.Leaving.{LeavesValue}
use Rattle.scan_cursor.specs.Walks.{Course, WalkPasses, WalksOrEnds, course_of, view_at}
use Rattle.scan_cursor.proofs.StepLaws.{but_both}
use Rattle.scan_cursor.proofs.VainLooks.{vain_stays}
use Rattle.scan_cursor.proofs.WalkLaws.{walk_gives, walk_then}
use Rattle.scan_cursor.proofs.walking.try_walk.Goals as goal

walks_since : (o : Option PinnedValue) (way : Way) (lo hi : ℕ) (c d e : Course) → WalkPasses way lo hi c d → WalksOrEnds o way lo hi d e → WalksOrEnds o way lo hi c e
walks_since (Some x) way lo hi c d e p g = (g.0, walk_gives way lo hi c d e p g.1)
walks_since None way lo hi c d e p g = (g.0, walk_then way lo hi c d e p g.1, g.2)

pub walk_to-requires : goal.walk_to-requires
walk_to-requires c = let q = c.requires.on in let i = c.loop.invariant in record { own = i.stays.table ∙ q.own; idle = i.idle; low = q.low; high = q.high; walk = i.passes.walk; going = i.going }

pub returns-in-Ok-clause-goes : goal.returns-in-Ok-clause-goes
returns-in-Ok-clause-goes c = let way = c.args.way in let z = sizes c.args.table.now in
    walks_since c.in-Ok.value way (key_number c.args.low.now) (key_number c.args.high.now) (course_of way z c.args.walk.now c.args.pass.now) (course_of way z c.loop.walk c.loop.pass) (course_of way z c.walk_to.new.walk c.walk_to.new.pass) c.loop.invariant.passes c.in-Ok.ensures.goes

pub returns-in-Ok-clause-still : goal.returns-in-Ok-clause-still
returns-in-Ok-clause-still c = stays_then (LeavesValue (sizes c.args.table.now) None c.in-Ok.value) (state c.args.pass.now) (state c.loop.pass) (state c.walk_to.new.pass) c.loop.invariant.still c.in-Ok.ensures.still

pub loop-preserved : goal.loop-preserved
loop-preserved c = let way = c.args.way in let z = sizes c.args.table.now in let e = c.in_default.ensures in let s = e.waits in let i = c.loop.invariant in let lo = key_number c.args.low.now in let hi = key_number c.args.high.now in
    let v = state c.args.pass.now in let u = state c.loop.pass in let w = state c.walk_to.new.pass in
    let one : suc c.loop.counter ≡ c.loop.counter + 1 = omega arith in
    let vain : AreInVain (suc c.loop.counter) lo hi (view_at z c.args.pass.now) (view_at z c.walk_to.new.pass) = (view_at z c.loop.pass, i.vain, e.vain) in
    let never : Runs Never u w = e.vain.2.alone in record {
      stays = but_both c.args.pass.now c.loop.pass c.walk_to.new.pass i.stays c.walk_to.ensures.own;
      idle = s.0;
      going = s.2;
      passes = walk_then way lo hi (course_of way z c.args.walk.now c.args.pass.now) (course_of way z c.loop.walk c.loop.pass) (course_of way z c.walk_to.new.walk c.walk_to.new.pass) i.passes s.1;
      still = both_stay v u w i.still (vain_stays u w never);
      vain = subst (λ (n : ℕ). AreInVain n lo hi (view_at z c.args.pass.now) (view_at z c.walk_to.new.pass)) one vain;
      never = λ _. stays_then Never v u w i.still never;
    }
