use Rattle.std.proofs.Common.{◌≡◌, ℕ, ◌+◌, List, get_or, refl, sym, ◌∙◌, subst, arith}
use Rattle.chunk_core.specs.Rooms.{RoomMemory, at_high}
use Rattle.rebalance.specs.Bounds.{Sets, KeepsButBounds, bound_word}
use Rattle.chunk_core.specs.RoomStep.{put_room}
use Rattle.rebalance.proofs.BoundLaws.{sets_none, sets_more, sets_until, word_behind, keeps_here, keeps_high}
use Rattle.rebalance.proofs.bounds.store_high.Goals as goal

pub loop-i-init : goal.loop-i-init
loop-i-init g c = let m : RoomMemory = g.H.HeldRooms.rooms c.args.rooms.now in let r = c.args.room in let w : ℕ → ℕ = bound_word (c.parts-length.result.0 + 1) c.parts-length.result.1 in
    let e : put_room m (at_high r 0) (c.parts-length.result.0 + 1) ≡ g.H.HeldRooms.rooms c.store.new.self = sym c.store.ensures.stored in record {
      stays = c.store.ensures.stays;
      ranges = c.store.ensures.ranges;
      slots = c.store.ensures.slots;
      set = subst (λ (n : RoomMemory). Sets r 1 w m.high n.high) e (sets_until r (0 + 1) 1 w m.high (put_room m (at_high r 0) (c.parts-length.result.0 + 1)).high (omega arith) (sets_more r 0 (c.parts-length.result.0 + 1) w m.high m.high (sets_none r w m.high) refl));
      other = subst (λ (n : RoomMemory). n.low ≡ m.low) e refl;
      rest = subst (λ (n : RoomMemory). KeepsButBounds m n) e (keeps_high r 0 (c.parts-length.result.0 + 1) m m (keeps_here m));
    }

pub loop-i-preserved : goal.loop-i-preserved
loop-i-preserved g c = let m : RoomMemory = g.H.HeldRooms.rooms c.args.rooms.now in let now : RoomMemory = g.H.HeldRooms.rooms c.loop-i.rooms in let i = c.loop-i.invariant in let r = c.args.room in let k : ℕ = c.loop-i.i + 1 in let ws : List ℕ = c.parts-length.result.1 in let w : ℕ → ℕ = bound_word (c.parts-length.result.0 + 1) ws in
    let x : ℕ = get_or ws c.loop-i.i 0 in let e : put_room now (at_high r k) x ≡ g.H.HeldRooms.rooms c.store-in-loop-i.new.self = sym c.store-in-loop-i.ensures.stored in record {
      stays = g.met.H.HeldRooms.stays_on c.args.rooms.now c.loop-i.rooms c.store-in-loop-i.new.self i.stays c.store-in-loop-i.ensures.stays;
      ranges = c.store-in-loop-i.ensures.ranges ∙ i.ranges;
      slots = c.store-in-loop-i.ensures.slots ∙ i.slots;
      set = subst (λ (n : RoomMemory). Sets r (k + 1) w m.high n.high) e (sets_more r k x w m.high now.high i.set (word_behind (c.parts-length.result.0 + 1) ws c.loop-i.i));
      other = subst (λ (n : RoomMemory). n.low ≡ m.low) e i.other;
      rest = subst (λ (n : RoomMemory). KeepsButBounds m n) e (keeps_high r k x m now i.rest);
    }
