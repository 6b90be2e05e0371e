use Rattle.std.proofs.Common.{◌≡◌, ℕ, ◌<◌, List, sym, ap, refl, ◌∙◌, subst, arith}
use mathlib.Core.Logic.{dite}
use native.Mathlib.Decide.{ℕ_discrete}
use Rattle.chunk_core.specs.declared.holds.MovingRange.{MovingRange}
use Rattle.chunk_core.specs.Rooms.{RoomMemory}
use Rattle.chunk_core.specs.ValueWord.{names_header}
use Rattle.rebalance.specs.Dropping.{DropsKeys}
use Rattle.rebalance.specs.HeldRooms.{IsLoose}
use Rattle.rebalance.proofs.DropLaws.{drops_none, ranges_none}
use Rattle.rebalance.proofs.ReadLaws.{read_none}
use Rattle.rebalance.proofs.reading.read_entries.Goals as goal

pub loop-i-init : goal.loop-i-init
loop-i-init g c = let rooms = c.args.rooms.now in let t = c.load.new.self in let m : RoomMemory = g.H.HeldRooms.rooms rooms in let r = c.args.room in let w = c.load.ensures in record {
  stays = w.stays;
  sees = λ j l _ _. absurd {A = g.H.HeldRooms.sees rooms t r j} (omega arith);
  many = refl;
  rooms = subst (λ (n : RoomMemory). DropsKeys r 0 m n) (sym w.rooms) (drops_none r m);
  ranges = w.ranges ∙ ranges_none m r (g.H.HeldRooms.ranges rooms);
  loose = λ j _ l word top. subst (λ (gs : List MovingRange). IsLoose (m.key r j) gs) (sym w.ranges) (c.requires.loose j l word top);
  read = λ keys _. read_none keys m r (m.base r) (g.H.HeldRooms.slots t) (record { kept = 0; dropped = 0; base = c.load.result }) refl refl w.word;
}

pub loop-i-preserved : goal.loop-i-preserved
loop-i-preserved g c = let i = c.loop-i.invariant in let w = c.read_entry.ensures in let rooms = c.args.rooms.now in let now = c.loop-i.rooms in let t = c.read_entry.new.rooms in let r = c.args.room in let k = c.loop-i.i in
    let m : RoomMemory = g.H.HeldRooms.rooms rooms in let n : RoomMemory = g.H.HeldRooms.rooms now in
    let key : n.key r k ≡ m.key r k = i.rooms.others r k (λ _. omega arith) in let value : n.value r k ≡ m.value r k = ap (λ (f : ℕ → ℕ → ℕ). f r k) i.rooms.value in
    let stays : g.H.HeldRooms.stays rooms t = g.met.H.HeldRooms.stays_on rooms now t i.stays w.stays in record {
      stays = stays;
      sees = λ j l word top. dite (ℕ_discrete j k)
          (λ e. subst (g.H.HeldRooms.sees rooms t r) (sym e) (g.met.H.HeldRooms.sees_earlier rooms now t r k i.stays (w.sees (subst (λ (n : ℕ). 0 < n) (ap (m.key r) e ∙ sym key) word) (ap names_header (value ∙ ap (m.value r) (sym e)) ∙ top))))
          (λ ne. g.met.H.HeldRooms.sees_later rooms now t r j (i.sees j (omega arith) word top) w.stays);
      many = let a = w.many in let b = i.many in omega arith;
      rooms = w.rooms m i.rooms;
      ranges = w.ranges m (g.H.HeldRooms.ranges rooms) i.rooms i.ranges;
      loose = λ j from l word top. w.loose (m.key r j) (λ some _ s. c.requires.apart k j (omega arith) l (subst (λ (n : ℕ). 0 < n) key some) (sym (s ∙ key))) (i.loose j (omega arith) l word top);
      read = λ keys same. w.read keys m (m.base r)
          (λ some top. let word : 0 < m.key r k = subst (λ (n : ℕ). 0 < n) key some in ap keys key ∙ (same k c.loop-i-test.true word (ap names_header (sym value) ∙ top)
          ∙ (sym (g.met.H.HeldRooms.still_names rooms now (m.key r k) i.stays (c.requires.named k c.loop-i-test.true word (ap names_header (sym value) ∙ top))).1 ∙ ap (g.H.HeldRooms.keys now) (sym key))))
          i.rooms (i.read keys same);
    }
