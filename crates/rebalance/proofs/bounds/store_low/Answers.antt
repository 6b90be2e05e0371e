use Rattle.std.proofs.Common.{◌≡◌, ℕ, ◌+◌, List, get_or, refl, sym, ◌∙◌, subst, arith}
use Rattle.chunk_core.specs.Rooms.{RoomMemory, at_low}
use Rattle.rebalance.specs.Bounds.{Sets, KeepsButBounds, bound_word}
use Rattle.chunk_core.specs.RoomStep.{put_room}
use Rattle.rebalance.proofs.BoundLaws.{sets_none, sets_more, sets_until, word_behind, keeps_here, keeps_low}
use Rattle.rebalance.proofs.bounds.store_low.Goals as goal

pub loop-i-init : goal.loop-i-init
loop-i-init g c = let m : RoomMemory = g.H.HeldRooms.rooms c.args.rooms.now in let r = c.args.room in let w : ℕ → ℕ = bound_word c.parts-length.result.0 c.parts-length.result.1 in
    let e : put_room m (at_low r 0) c.parts-length.result.0 ≡ g.H.HeldRooms.rooms c.store.new.self = sym c.store.ensures.stored in record {
      stays = c.store.ensures.stays;
      ranges = c.store.ensures.ranges;
      slots = c.store.ensures.slots;
      set = subst (λ (n : RoomMemory). Sets r 1 w m.low n.low) e (sets_until r (0 + 1) 1 w m.low (put_room m (at_low r 0) c.parts-length.result.0).low (omega arith) (sets_more r 0 c.parts-length.result.0 w m.low m.low (sets_none r w m.low) refl));
      other = subst (λ (n : RoomMemory). n.high ≡ m.high) e refl;
      rest = subst (λ (n : RoomMemory). KeepsButBounds m n) e (keeps_low r 0 c.parts-length.result.0 m m (keeps_here m));
    }

pub loop-i-preserved : goal.loop-i-preserved
loop-i-preserved g c = let m : RoomMemory = g.H.HeldRooms.rooms c.args.rooms.now in let now : RoomMemory = g.H.HeldRooms.rooms c.loop-i.rooms in let i = c.loop-i.invariant in let r = c.args.room in let k : ℕ = c.loop-i.i + 1 in let ws : List ℕ = c.parts-length.result.1 in let w : ℕ → ℕ = bound_word c.parts-length.result.0 ws in
    let x : ℕ = get_or ws c.loop-i.i 0 in let e : put_room now (at_low r k) x ≡ g.H.HeldRooms.rooms c.store-in-loop-i.new.self = sym c.store-in-loop-i.ensures.stored in record {
      stays = g.met.H.HeldRooms.stays_on c.args.rooms.now c.loop-i.rooms c.store-in-loop-i.new.self i.stays c.store-in-loop-i.ensures.stays;
      ranges = c.store-in-loop-i.ensures.ranges ∙ i.ranges;
      slots = c.store-in-loop-i.ensures.slots ∙ i.slots;
      set = subst (λ (n : RoomMemory). Sets r (k + 1) w m.low n.low) e (sets_more r k x w m.low now.low i.set (word_behind c.parts-length.result.0 ws c.loop-i.i));
      other = subst (λ (n : RoomMemory). n.high ≡ m.high) e i.other;
      rest = subst (λ (n : RoomMemory). KeepsButBounds m n) e (keeps_low r k x m now i.rest);
    }
