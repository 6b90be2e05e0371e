use Rattle.std.proofs.Common.{◌≡◌, ℕ, ◌+◌, ◌-◌, ◌/◌, refl, sym, ap, subst, arith}
use Rattle.link_search.specs.Bits.{bits}
use Rattle.link_search.proofs.OrderLaws.{turned, one_key}
use Rattle.chunk_ops.specs.Room.{Room, HasFound}
use Rattle.chunk_ops.proofs.BitLaws.{bits_more, bits_half}
use Rattle.chunk_ops.proofs.ReadLaws.{reads_both, reads_here, reads_few}
use Rattle.chunk_ops.proofs.SearchLaws.{order_at, all_above, all_below}
use Rattle.chunk_ops.proofs.finding.search_sorted.Goals as goal

pub loop-low-init : goal.loop-low-init
loop-low-init g c = let s = c.args.room.now in let p = c.requires.prefix in record {
  inside = (omega arith, omega arith);
  reads = (0, (let b = bits_more (c.args.prefix - 0) (g.R.SearchedRoom.room s).found.prefix (omega arith) in omega arith), reads_here s c.requires.pinned (g.met.R.SearchedRoom.meets_none s));
  below = λ j l. absurd (omega arith);
  above = λ j le l. absurd (omega arith);
}

-- the entry in the middle is one of the prefix
pub compare-requires-clause-found : goal.compare-requires-clause-found
compare-requires-clause-found g c = let s = c.args.room.now in let i = c.loop-low.invariant in let rd = i.reads.2 in let low = c.loop-low.low in let high = c.loop-low.high in let m : ℕ = low + (high - low) / 2 in let t = c.loop-low-test.true in let in1 = i.inside.1 in
    subst (λ (r : Room). HasFound r m) (sym rd.same) (c.requires.front.found m (omega arith))

pub loop-low-preserved-in-Less : goal.loop-low-preserved-in-Less
loop-low-preserved-in-Less g c = let s = c.args.room.now in let i = c.loop-low.invariant in let rd = i.reads.2 in let r : Room = g.R.SearchedRoom.room s in let low = c.loop-low.low in let high = c.loop-low.high in let n : ℕ = i.reads.0 in let w : ℕ = high - low in
    let m : ℕ = low + (high - low) / 2 in let t = c.loop-low-test.true in let in0 = i.inside.0 in let in1 = i.inside.1 in record {
      inside = (omega arith, omega arith);
      reads = (n + 1, (let b = bits_half (m - low) w (omega arith) (omega arith) in let f = i.reads.1 in omega arith), reads_both g.met.R.SearchedRoom.meets_both n 1 s c.loop-low.room c.compare.new.room rd c.in-Less.ensures.reads);
      below = i.below;
      above = all_above r.found c.requires.front c.args.key.now m (omega arith) (order_at r (g.R.SearchedRoom.room c.loop-low.room) c.args.key.now m _ _ rd.same refl c.in-Less.ensures.order);
    }

pub loop-low-preserved : goal.loop-low-preserved
loop-low-preserved g c = let s = c.args.room.now in let i = c.loop-low.invariant in let rd = i.reads.2 in let r : Room = g.R.SearchedRoom.room s in let low = c.loop-low.low in let high = c.loop-low.high in let n : ℕ = i.reads.0 in let w : ℕ = high - low in
    let m : ℕ = low + (high - low) / 2 in let t = c.loop-low-test.true in let in0 = i.inside.0 in let in1 = i.inside.1 in record {
      inside = (omega arith, omega arith);
      reads = (n + 1, (let b = bits_half (high - (m + 1)) w (omega arith) (omega arith) in let f = i.reads.1 in omega arith), reads_both g.met.R.SearchedRoom.meets_both n 1 s c.loop-low.room c.compare.new.room rd c.in-Greater.ensures.reads);
      below = all_below r.found c.requires.front c.args.key.now m (omega arith) (turned c.args.key.now (r.found.key m) (order_at r (g.R.SearchedRoom.room c.loop-low.room) c.args.key.now m _ _ rd.same refl c.in-Greater.ensures.order));
      above = i.above;
    }

pub returns-in-Equal-clause-reads : goal.returns-in-Equal-clause-reads
returns-in-Equal-clause-reads g c = let s = c.args.room.now in let i = c.loop-low.invariant in let rd = i.reads.2 in let n : ℕ = i.reads.0 in let w : ℕ = c.loop-low.high - c.loop-low.low in let t = c.loop-low-test.true in let p = c.requires.prefix in
    let f = i.reads.1 in let b = bits_half 0 w (omega arith) (omega arith) in let e : bits c.args.prefix ≡ bits (g.R.SearchedRoom.room s).found.prefix = ap bits p in
    reads_few (n + 1) (bits c.args.prefix) s c.compare.new.room (reads_both g.met.R.SearchedRoom.meets_both n 1 s c.loop-low.room c.compare.new.room rd c.in-Equal.ensures.reads) (omega arith)

pub returns-in-Equal-clause-place : goal.returns-in-Equal-clause-place
returns-in-Equal-clause-place g c = let s = c.args.room.now in let i = c.loop-low.invariant in let rd = i.reads.2 in let r : Room = g.R.SearchedRoom.room s in let low = c.loop-low.low in let high = c.loop-low.high in
    let m : ℕ = low + (high - low) / 2 in let t = c.loop-low-test.true in let in1 = i.inside.1 in
    (omega arith, one_key c.args.key.now (r.found.key m) (order_at r (g.R.SearchedRoom.room c.loop-low.room) c.args.key.now m _ _ rd.same refl c.in-Equal.ensures.order))
