use Rattle.std.proofs.Common.{ℕ, take, ◌∙◌, subst, arith}
use Rattle.oak_core.specs.Passes.{state, call_of, slots_of, key as sizes}
use Rattle.chunk_ops.proofs.WordParts.{slice_bytes}
use Rattle.rebalance.specs.Chunks.{CompactsFront, OpensFront}
use Rattle.rebalance.proofs.ChainedFronts.{compacted_chained}
use Rattle.rebalance.proofs.CompactCalls.{compacts_key, no_ranges, no_rows, no_several}
use Rattle.rebalance.proofs.GivenUp.{gives_up}
use Rattle.rebalance.proofs.TakenChunks.{idle_compacted}
use Rattle.rebalance.proofs.FrontRewrites.{entries_limited}
use Rattle.rebalance.proofs.compacting.try_compact.Goals as goal

pub compact_front-read-requires-clause-front : goal.compact_front-read-requires-clause-front
compact_front-read-requires-clause-front c = let v = state c.args.pass.now in let h = c.in-Some.ensures.holds in (h.0, h.1, v.rooms.held, v.rooms.moving, h.2.front, no_ranges v c.requires.idle)

pub open_front-requires-clause-front : goal.open_front-requires-clause-front
open_front-requires-clause-front c = let z = sizes c.args.table.now in let v = state c.args.pass.now in let h = c.in-Some.ensures.holds in
    let k = c.compact_front-read.ensures.compacted h.0 h.1 v.rooms.held v.rooms.moving h.2.front (no_ranges v c.requires.idle) (no_rows z v c.requires.idle) (no_several v c.requires.idle) in
    (k.words, k.range, v.rooms.held, v.rooms.moving, k.front, compacted_chained z (call_of c.try_hold.new.pass) c.in-Some.room c.compact_front-read.result.dropped (take c.compact_front-read.result.kept (slots_of c.compact_front-read.new.pass)) h.0 v.rooms.held v.rooms.moving (state c.try_hold.new.pass) (state c.compact_front-read.new.pass) k, k.rewritten.linked)

pub overflow_cast-result : goal.overflow_cast-result
overflow_cast-result c = let z = sizes c.args.table.now in let v = state c.args.pass.now in let h = c.in-Some.ensures.holds in
    let k = c.compact_front-read.ensures.compacted h.0 h.1 v.rooms.held v.rooms.moving h.2.front (no_ranges v c.requires.idle) (no_rows z v c.requires.idle) (no_several v c.requires.idle) in
    let few = h.2.front.mirrors.few in let limit = entries_limited z (state c.try_hold.new.pass) h.2.front.moment in let count = k.count_is in omega arith

pub returns-clause-compacted : goal.returns-clause-compacted
returns-clause-compacted c = let z = sizes c.args.table.now in let call = call_of c.args.pass.now in let v = state c.args.pass.now in let r = c.in-Some.room in let x = c.compact_front-read.result in
    let p = c.try_hold.new.pass in let q = c.compact_front-read.new.pass in let t = c.open_front.new.pass in let h = c.in-Some.ensures.holds in let slots = take x.kept (slots_of q) in
    let k : CompactsFront z call r x.dropped slots h.0 v.rooms.held v.rooms.moving (state p) (state q) = subst (λ (n : ℕ). CompactsFront z n r x.dropped slots h.0 v.rooms.held v.rooms.moving (state p) (state q)) c.try_hold.ensures.own.call
    (c.compact_front-read.ensures.compacted h.0 h.1 v.rooms.held v.rooms.moving h.2.front (no_ranges v c.requires.idle) (no_rows z v c.requires.idle) (no_several v c.requires.idle)) in
    let o : OpensFront z call r k.words v.rooms.held v.rooms.moving (state q) (state t) = subst (λ (n : ℕ). OpensFront z n r k.words v.rooms.held v.rooms.moving (state q) (state t)) (c.compact_front-read.ensures.own.call ∙ c.try_hold.ensures.own.call)
    (c.open_front.ensures.opens k.words k.range v.rooms.held v.rooms.moving k.front) in
    compacts_key z call c.args.key.now c.requires.key (slice_bytes c.args.key.now c.type_inv.key) r x.dropped slots h.0 h.1 v (state p) (state q) (state t) c.requires.idle h.2 k o

pub returns-clause-unclaimed : goal.returns-clause-unclaimed
returns-clause-unclaimed c = let z = sizes c.args.table.now in let v = state c.args.pass.now in let h = c.in-Some.ensures.holds in
    let k = c.compact_front-read.ensures.compacted h.0 h.1 v.rooms.held v.rooms.moving h.2.front (no_ranges v c.requires.idle) (no_rows z v c.requires.idle) (no_several v c.requires.idle) in
    (c.open_front.ensures.opens k.words k.range v.rooms.held v.rooms.moving k.front).claims ∙ (k.works.stands.claims ∙ h.2.claims)

pub returns-in_default-clause-busy : goal.returns-in_default-clause-busy
returns-in_default-clause-busy c = let x = c.in_default.ensures in gives_up (sizes c.args.table.now) (call_of c.args.pass.now) c.args.looks c.args.key.now (state c.args.pass.now) (state c.try_hold.new.pass) c.requires.idle x.back x.busy x.swept x.alone

pub returns-in_default-clause-unclaimed : goal.returns-in_default-clause-unclaimed
returns-in_default-clause-unclaimed c = c.in_default.ensures.back.claims

pub try_hold-requires-clause-compacted : goal.try_hold-requires-clause-compacted
try_hold-requires-clause-compacted c = idle_compacted (sizes c.args.table.now) (state c.args.pass.now) c.requires.idle
