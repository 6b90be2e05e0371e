use Rattle.std.proofs.Common.{ℕ, take, subst}
use Rattle.oak_model.specs.Limits.{Sizes}
use Rattle.oak_core.specs.Passes.{state, key as sizes, call_of, slots_of}
use Rattle.rebalance.specs.Chunks.{CompactsFront}
use Rattle.rebalance.proofs.TakenChunks.{taken}
use Rattle.rebalance.proofs.chunk_pairs.try_take_chunk.Goals as goal

pub compact_front-read-requires-clause-front : goal.compact_front-read-requires-clause-front
compact_front-read-requires-clause-front c = let v = state c.args.pass.now in let h = c.in_ok-room.ensures.holds in (h.0, h.1, v.rooms.held, v.rooms.moving, h.2.front, c.requires.compacted.valued)

pub returns-clause-takes : goal.returns-clause-takes
returns-clause-takes c = let z : Sizes = sizes c.args.table.now in let call = call_of c.args.pass.now in let r = c.in_ok-room.room in let v = state c.args.pass.now in let t = state c.try_hold.new.pass in let u = state c.compact_front-read.new.pass in
    let h = c.in_ok-room.ensures.holds in let x = c.compact_front-read.result in let slots = take x.kept (slots_of c.compact_front-read.new.pass) in let w = h.0 in let b = c.requires.compacted in
    taken z call r c.args.key.now w h.1 x slots v t u h.2 (subst (λ (k : ℕ). CompactsFront z k r x.dropped slots w v.rooms.held v.rooms.moving t u) c.try_hold.ensures.own.call (c.compact_front-read.ensures.compacted w h.1 v.rooms.held v.rooms.moving h.2.front b.valued b.rows b.apart))
    c.compact_front-read.ensures.many c.compact_front-read.ensures.base
