-- A reading of a view's life that is lent: from the call's begin on.
use Rattle.std.proofs.Common.{◌≡◌, ℕ, List, Some, ap, ◌∙◌}
use Rattle.oak_model.specs.KeyNumber.{key_number}
use Rattle.oak_model.specs.Limits.{Sizes}
use Rattle.header_core.specs.declared.holds.HeaderHolds.{HeaderHolds}
use Rattle.header_core.specs.declared.holds.PinnedHeader.{PinnedHeader}
use Rattle.oak_core.specs.declared.states.PassState.{PassState}
use Rattle.oak_core.specs.CallSteps.{Learns}
use Rattle.oak_core.specs.Memory.{memory}
use Rattle.oak_core.specs.Passes.{key as table_sizes}
use Rattle.oak_core.specs.PassState.{HoldsNothing}
use Rattle.oak_core.specs.QuietSteps.{IsQuiet}
use Rattle.oak_core.proofs.calls.CallSteps.{learns_both}
use Rattle.oak_core.proofs.calls.QuietCalls.{only_both}
use Rattle.chunk_ops.proofs.MeetingCalls.{then_stays}
use Rattle.value_ops.specs.declared.reading.Reading.{Reading}
use Rattle.value_ops.specs.Pinning.{AddsPin, KnowsLife, pin_of}
use Rattle.value_ops.specs.PinnedValues.{FindsStamp, LearnsByLoads, ReadsLife}
use Rattle.value_ops.specs.Reading.{IsReading, stamp, value}
use Rattle.value_ops.specs.Views.{KnowsView, Viewed}
use Rattle.value_ops.proofs.LearnFacts.{knows_same, learned_pin}
use Rattle.value_ops.proofs.ViewFacts.{pinned_life, pinned_reads, view_stays}
use Rattle.point_ops.specs.Replies.{Refuses}
use Rattle.point_ops.proofs.LoneHistories.{sees_whole}
use Rattle.point_ops.proofs.ReplyLaws.{learns_on}
use Rattle.oak_map.specs.Finding.{PinsView}
use Rattle.oak_map.specs.Lending.{LendsLife, under}
use Rattle.oak_map.proofs.FoundLives.{meets_refuses}
use Rattle.oak_map.proofs.LentValues.{lent_blocks, lent_has, lent_last, lent_learns, lent_rooms, lent_same}

module _ (z : Sizes) (call : ℕ) (x : Viewed) (v w : PassState) (r : Reading) (idle : HoldsNothing v) (p : PinsView z call x v w) (known : KnowsView z x v) (is : IsReading r) (sized : table_sizes r.table.now ≡ z) (loads : LearnsByLoads z call w (under r)) (found : FindsStamp z call x.header (stamp r) w (under r))
    (reads : (of : List ℕ) → KnowsLife x.header x.generation of w.knowledge → ReadsLife x.header x.generation of (stamp r) (value r) w (under r)) where
  refused : Refuses call v p.tried
  refused = meets_refuses z call v p.tried p.tries

  knows : KnowsView z x p.tried
  knows = view_stays z x v p.tried (knows_same v.knowledge p.tried.knowledge (ap (λ (y : PassState). y.knowledge) p.tries.after)) known

  life : ReadsLife x.header x.generation x.key (stamp r) (value r) w (under r)
  life = reads x.key (pinned_life z call x p.tried w knows p.pins)

  abbrev pin : PinnedHeader
  pin = pin_of (memory z p.pins.told.table.words) x.header x.generation

  before : Learns call v w
  before = learns_both call v p.tried w refused.learns (learned_pin z call x.header x.generation p.pins.number p.tried w p.pins.told).learns

  headers : w.headers ≡ record v.headers { pin = Some pin }
  headers = ap (λ (y : PassState). y.headers) p.pins.after ∙ ap (λ (a : HeaderHolds). record a { pin = Some pin }) refused.holds.headers

  held_blocks : w.blocks ≡ v.blocks
  held_blocks = ap (λ (y : PassState). y.blocks) p.pins.after ∙ refused.holds.blocks

  held_rooms : w.rooms ≡ v.rooms
  held_rooms = ap (λ (y : PassState). y.rooms) p.pins.after ∙ refused.holds.rooms

  learns : Learns call v (under r)
  learns = lent_learns z call x.header x.generation v w r idle before pin p.pins.pin headers held_blocks held_rooms is sized loads found

  pub lends_life : LendsLife z call x v r
  lends_life = record {
    tried = p.tried;
    tries = p.tries;
    reads = pinned_reads z call x p.tried w knows p.pins r loads found is life;
    goes = learns_on call v (under r) learns;
    life = record { last = lent_last z call x.header x.generation v w r idle before pin p.pins.pin headers held_blocks held_rooms is sized loads found (key_number x.key) (Some (value r)) life.last; life = life.life };
    mine = learns.all.mine;
    numbers = learns.all.numbers;
    fulls = learns.all.fulls;
    swept = learns.all.swept;
    rebalances = learns.all.rebalances;
    quiet = only_both IsQuiet v w (under r) p.quiet loads.quiet;
    blocks = lent_blocks z call x.header x.generation v w r idle before pin p.pins.pin headers held_blocks held_rooms is sized loads found;
    rooms = lent_rooms z call x.header x.generation v w r idle before pin p.pins.pin headers held_blocks held_rooms is sized loads found;
    has = lent_has z call x.header x.generation v w r idle before pin p.pins.pin headers held_blocks held_rooms is sized loads found;
    same = lent_same z call x.header x.generation v w r idle before pin p.pins.pin headers held_blocks held_rooms is sized loads found (λ alone. sees_whole z v alone p.begun);
    alone = then_stays (AddsPin z x.header x.generation) v w (under r) p.alone loads.still;
  }
