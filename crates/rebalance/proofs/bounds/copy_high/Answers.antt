use Rattle.std.proofs.Common.{◌≡◌, ◌+◌, refl, sym, ap, ◌∙◌, subst}
use Rattle.chunk_core.specs.Rooms.{RoomMemory, at_high}
use Rattle.rebalance.specs.Bounds.{Sets, KeepsButBounds}
use Rattle.chunk_core.specs.RoomStep.{put_room}
use Rattle.rebalance.proofs.BoundLaws.{sets_none, sets_more, keeps_here, keeps_high}
use Rattle.rebalance.proofs.bounds.copy_high.Goals as goal

pub loop-i-init : goal.loop-i-init
loop-i-init g c = let m : RoomMemory = g.H.HeldRooms.rooms c.args.rooms.now in record {
  stays = g.met.H.HeldRooms.stays_here c.args.rooms.now;
  ranges = refl;
  slots = refl;
  set = sets_none c.args.to (m.high c.args.from) m.high;
  other = refl;
  rest = keeps_here m;
}

pub loop-i-preserved : goal.loop-i-preserved
loop-i-preserved g c = let m : RoomMemory = g.H.HeldRooms.rooms c.args.rooms.now in let now : RoomMemory = g.H.HeldRooms.rooms c.loop-i.rooms in let i = c.loop-i.invariant in let r = c.args.to in let k = c.loop-i.i in let x = c.load-word.result in let on = g.met.H.HeldRooms.stays_on in
    let e : put_room now (at_high r k) x ≡ g.H.HeldRooms.rooms c.store.new.self = sym (c.store.ensures.stored ∙ ap (λ (n : RoomMemory). put_room n (at_high r k) x) c.load-word.ensures.rooms) in
    let is : x ≡ m.high c.args.from k = c.load-word.ensures.word ∙ i.set.rest c.args.from k (λ s. absurd (c.requires.apart s)) in record {
      stays = on c.args.rooms.now c.loop-i.rooms c.store.new.self i.stays (on c.loop-i.rooms c.load-word.new.self c.store.new.self c.load-word.ensures.stays c.store.ensures.stays);
      ranges = c.store.ensures.ranges ∙ (c.load-word.ensures.ranges ∙ i.ranges);
      slots = c.store.ensures.slots ∙ (c.load-word.ensures.slots ∙ i.slots);
      set = subst (λ (n : RoomMemory). Sets r (k + 1) (m.high c.args.from) m.high n.high) e (sets_more r k x (m.high c.args.from) m.high now.high i.set is);
      other = subst (λ (n : RoomMemory). n.low ≡ m.low) e i.other;
      rest = subst (λ (n : RoomMemory). KeepsButBounds m n) e (keeps_high r k x m now i.rest);
    }
