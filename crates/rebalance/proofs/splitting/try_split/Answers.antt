use Rattle.std.proofs.Common.{◌≡◌, ℕ, Result, Ok, Err, List, take, sym, ap, ◌∙◌, subst, arith}
use Rattle.chunk_core.specs.declared.holds.RoomCopy.{RoomCopy}
use Rattle.chunk_ops.proofs.WordParts.{slice_bytes}
use Rattle.oak_core.specs.declared.sorting.SortSlot.{SortSlot}
use Rattle.oak_core.specs.Passes.{state, call_of, slots_of, key as sizes}
use Rattle.rebalance.specs.declared.answers.Busy.{Busy}
use Rattle.rebalance.specs.declared.answers.NoRoom.{NoRoom}
use Rattle.rebalance.specs.declared.answers.Split.{Split}
use Rattle.rebalance.specs.declared.answers.Split.TheVariants.{Halved, Loosened}
use Rattle.rebalance.specs.Calls.{Halves}
use Rattle.rebalance.specs.Chunks.{OpensFront, ReadsFront}
use Rattle.rebalance.specs.Filled.{Fills}
use Rattle.rebalance.specs.Halving.{HasWhole, OpensHalves}
use Rattle.rebalance.specs.HeldTables.{WorksOnRooms}
use Rattle.rebalance.specs.Holding.{Claims, FindsNoneFree}
use Rattle.rebalance.specs.Mirrors.{held_memory}
use Rattle.rebalance.proofs.FrontReads.{read_alone, read_few}
use Rattle.rebalance.proofs.FrontRooms.{front_alone}
use Rattle.rebalance.proofs.GivenUp.{gives_up}
use Rattle.rebalance.proofs.TakenChunks.{idle_compacted}
use Rattle.rebalance.proofs.SplitCalls.{none_filled, none_front, none_lacks, split_filled, split_halves, split_loosens, split_only, split_pair, split_whole}
use Rattle.rebalance.proofs.ChainedFronts.{compacted_chained}
use Rattle.rebalance.proofs.CompactCalls.{no_ranges}
use Rattle.rebalance.proofs.ValuedRanges.{read_valued}
use Rattle.rebalance.specs.HeldRooms.{AllValued}
use Rattle.oak_model.specs.Counts.{Each}
use Rattle.chunk_core.specs.declared.holds.RoomHolds.{RoomHolds}
use Rattle.rebalance.proofs.splitting.try_split.Goals as goal

-- the room of the upper half
room_of : Result (Result Split NoRoom) Busy → ℕ
room_of (Ok (Ok (Halved r))) = r
room_of (Ok (Ok Loosened)) = 0
room_of (Ok (Err e)) = 0
room_of (Err e) = 0

pub fill_front-requires-clause-held : goal.fill_front-requires-clause-held
fill_front-requires-clause-held c = let z = sizes c.args.table.now in let r = c.in-Some.room in let v = state c.try_hold.new.pass in let h = c.in-Some.ensures.holds in let v0 = state c.args.pass.now in let u = state c.read_front-read.new.pass in
    read_alone z (call_of c.try_hold.new.pass) r h.0 h.1 v0.rooms.held v0.rooms.moving v h.2.front u (slots_of c.read_front-read.new.pass) c.read_front-read.result c.read_front-read.ensures.reads

pub fill_front-requires-clause-valued : goal.fill_front-requires-clause-valued
fill_front-requires-clause-valued c = let z = sizes c.args.table.now in let r = c.in-Some.room in let v = state c.try_hold.new.pass in let h = c.in-Some.ensures.holds in let v0 = state c.args.pass.now in let u = state c.read_front-read.new.pass in
    read_valued z r h.0 h.1 v0.rooms.held v0.rooms.moving v h.2.front (no_ranges v0 c.requires.idle) (call_of c.try_hold.new.pass) (slots_of c.read_front-read.new.pass) c.read_front-read.result u c.read_front-read.ensures.reads

pub open_front-requires-clause-front : goal.open_front-requires-clause-front
open_front-requires-clause-front c = let z = sizes c.args.table.now in let call = call_of c.args.pass.now in let r = c.in-Some.room in let v = state c.try_hold.new.pass in let h = c.in-Some.ensures.holds in let v0 = state c.args.pass.now in let u = state c.read_front-read.new.pass in let t = state c.fill_front.new.pass in
    let slots = slots_of c.read_front-read.new.pass in let x = c.read_front-read.result in let here = c.try_hold.ensures.own.call in let k = c.fill_front.ensures in
    let reads = subst (λ (n : ℕ). ReadsFront z n r slots x v u) here c.read_front-read.ensures.reads in
    let filled = split_filled z call r c.args.key.now h.0 h.1 v0 v c.requires.idle c.requires.key (slice_bytes c.args.key.now c.type_inv.key) h.2 u slots x reads t (subst (λ (n : ℕ). WorksOnRooms z n u t) (c.read_front-read.ensures.own.call ∙ here) k.works) k.ranges k.filled in
    (filled.words, filled.range, v0.rooms.held, v0.rooms.moving, filled.front, compacted_chained z call r x.dropped (take x.kept slots) h.0 v0.rooms.held v0.rooms.moving v t filled, filled.rewritten.linked)

pub returns-then-read-entries-clause-loosened : goal.returns-then-read-entries-clause-loosened
returns-then-read-entries-clause-loosened c _ = let z = sizes c.args.table.now in let call = call_of c.args.pass.now in let r = c.in-Some.room in let v = state c.try_hold.new.pass in let h = c.in-Some.ensures.holds in let v0 = state c.args.pass.now in let u = state c.read_front-read.new.pass in let t = state c.fill_front.new.pass in let e = state c.open_front.new.pass in
    let slots = slots_of c.read_front-read.new.pass in let x = c.read_front-read.result in let here = c.try_hold.ensures.own.call in let k = c.fill_front.ensures in let bytes = slice_bytes c.args.key.now c.type_inv.key in
    let reads = subst (λ (n : ℕ). ReadsFront z n r slots x v u) here c.read_front-read.ensures.reads in
    let filled = split_filled z call r c.args.key.now h.0 h.1 v0 v c.requires.idle c.requires.key bytes h.2 u slots x reads t (subst (λ (n : ℕ). WorksOnRooms z n u t) (c.read_front-read.ensures.own.call ∙ here) k.works) k.ranges k.filled in
    let opens = subst (λ (n : ℕ). OpensFront z n r filled.words v0.rooms.held v0.rooms.moving t e) (k.own.call ∙ (c.read_front-read.ensures.own.call ∙ here)) (c.open_front.ensures.opens filled.words filled.range v0.rooms.held v0.rooms.moving filled.front) in
    split_loosens z call r c.args.key.now h.0 h.1 v0 v c.requires.idle c.requires.key bytes h.2 u slots x reads t e filled opens (let a = c.if-read-entries.true in let b = c.entries.ensures.is in omega arith)

pub claim_free-requires-clause-only : goal.claim_free-requires-clause-only
claim_free-requires-clause-only c = let z = sizes c.args.table.now in let call = call_of c.args.pass.now in let r = c.in-Some.room in let v = state c.try_hold.new.pass in let h = c.in-Some.ensures.holds in let v0 = state c.args.pass.now in let u = state c.read_front-read.new.pass in
    let slots = slots_of c.read_front-read.new.pass in let x = c.read_front-read.result in let reads = subst (λ (n : ℕ). ReadsFront z n r slots x v u) c.try_hold.ensures.own.call c.read_front-read.ensures.reads in
    let few = read_few z call r h.0 h.1 v0.rooms.held v0.rooms.moving v h.2.front u slots x reads in
    split_only z call r c.args.key.now h.0 h.1 v0 v c.requires.idle c.requires.key (slice_bytes c.args.key.now c.type_inv.key) h.2 u slots x reads (let a = c.if-read-entries.false in let b = c.entries.ensures.is in omega arith)

pub fill_front-requires-in_default-claim_free-clause-held : goal.fill_front-requires-in_default-claim_free-clause-held
fill_front-requires-in_default-claim_free-clause-held c = let z = sizes c.args.table.now in let call = call_of c.args.pass.now in let r = c.in-Some.room in let v = state c.try_hold.new.pass in let h = c.in-Some.ensures.holds in let v0 = state c.args.pass.now in let u = state c.read_front-read.new.pass in let t = state c.claim_free.new.pass in
    let slots = slots_of c.read_front-read.new.pass in let x = c.read_front-read.result in let here = c.try_hold.ensures.own.call in let reads = subst (λ (n : ℕ). ReadsFront z n r slots x v u) here c.read_front-read.ensures.reads in
    let few = read_few z call r h.0 h.1 v0.rooms.held v0.rooms.moving v h.2.front u slots x reads in
    let none = subst (λ (n : ℕ). FindsNoneFree z n r u t) (c.read_front-read.ensures.own.call ∙ here) c.in_default-claim_free.ensures.none in
    front_alone z r h.0 h.1 v0.rooms.held v0.rooms.moving t (none_front z call r c.args.key.now h.0 h.1 v0 v c.requires.idle c.requires.key (slice_bytes c.args.key.now c.type_inv.key) h.2 u slots x reads (let a = c.if-read-entries.false in let b = c.entries.ensures.is in omega arith) t none)

pub fill_front-requires-in_default-claim_free-clause-valued : goal.fill_front-requires-in_default-claim_free-clause-valued
fill_front-requires-in_default-claim_free-clause-valued c = let z = sizes c.args.table.now in let r = c.in-Some.room in let v = state c.try_hold.new.pass in let h = c.in-Some.ensures.holds in let v0 = state c.args.pass.now in let u = state c.read_front-read.new.pass in
    let none = c.in_default-claim_free.ensures.none in let valued = read_valued z r h.0 h.1 v0.rooms.held v0.rooms.moving v h.2.front (no_ranges v0 c.requires.idle) (call_of c.try_hold.new.pass) (slots_of c.read_front-read.new.pass) c.read_front-read.result u c.read_front-read.ensures.reads in
    subst (λ (a : RoomHolds). Each AllValued a.moving) (sym none.only.rooms) valued

pub fill_front-requires-in_default-claim_free-clause-few : goal.fill_front-requires-in_default-claim_free-clause-few
fill_front-requires-in_default-claim_free-clause-few c = let z = sizes c.args.table.now in let r = c.in-Some.room in let v = state c.try_hold.new.pass in let h = c.in-Some.ensures.holds in let v0 = state c.args.pass.now in
    read_few z (call_of c.try_hold.new.pass) r h.0 h.1 v0.rooms.held v0.rooms.moving v h.2.front (state c.read_front-read.new.pass) (slots_of c.read_front-read.new.pass) c.read_front-read.result c.read_front-read.ensures.reads

pub open_front-requires-in_default-claim_free-clause-front : goal.open_front-requires-in_default-claim_free-clause-front
open_front-requires-in_default-claim_free-clause-front c = let z = sizes c.args.table.now in let call = call_of c.args.pass.now in let r = c.in-Some.room in let v = state c.try_hold.new.pass in let h = c.in-Some.ensures.holds in let v0 = state c.args.pass.now in let u = state c.read_front-read.new.pass in let t = state c.claim_free.new.pass in let s = state c.fill_front-in_default-claim_free.new.pass in
    let slots = slots_of c.read_front-read.new.pass in let x = c.read_front-read.result in let here = c.try_hold.ensures.own.call in let to_read = c.read_front-read.ensures.own.call ∙ here in let k = c.fill_front-in_default-claim_free.ensures in
    let reads = subst (λ (n : ℕ). ReadsFront z n r slots x v u) here c.read_front-read.ensures.reads in
    let few = read_few z call r h.0 h.1 v0.rooms.held v0.rooms.moving v h.2.front u slots x reads in
    let none = subst (λ (n : ℕ). FindsNoneFree z n r u t) to_read c.in_default-claim_free.ensures.none in
    let filled = none_filled z call r c.args.key.now h.0 h.1 v0 v c.requires.idle c.requires.key (slice_bytes c.args.key.now c.type_inv.key) h.2 u slots x reads (let a = c.if-read-entries.false in let b = c.entries.ensures.is in omega arith) t none s
    (subst (λ (n : ℕ). WorksOnRooms z n t s) (c.claim_free.ensures.own.call ∙ to_read) k.works) k.ranges (subst (λ (xs : List SortSlot). Fills z.entries r (take x.kept xs) x.base (held_memory t.rooms.held) (held_memory s.rooms.held)) c.claim_free.ensures.own.sorting k.filled) in
    (filled.words, filled.range, v0.rooms.held, v0.rooms.moving, filled.front, compacted_chained z call r 0 (take x.kept slots) h.0 v0.rooms.held v0.rooms.moving t s filled, filled.rewritten.linked)

pub returns-in_default-claim_free-clause-none : goal.returns-in_default-claim_free-clause-none
returns-in_default-claim_free-clause-none c = let z = sizes c.args.table.now in let call = call_of c.args.pass.now in let r = c.in-Some.room in let v = state c.try_hold.new.pass in let h = c.in-Some.ensures.holds in let v0 = state c.args.pass.now in let u = state c.read_front-read.new.pass in let t = state c.claim_free.new.pass in let s = state c.fill_front-in_default-claim_free.new.pass in let e = state c.open_front-in_default-claim_free.new.pass in
    let slots = slots_of c.read_front-read.new.pass in let x = c.read_front-read.result in let here = c.try_hold.ensures.own.call in let to_read = c.read_front-read.ensures.own.call ∙ here in let k = c.fill_front-in_default-claim_free.ensures in let bytes = slice_bytes c.args.key.now c.type_inv.key in
    let reads = subst (λ (n : ℕ). ReadsFront z n r slots x v u) here c.read_front-read.ensures.reads in
    let few = read_few z call r h.0 h.1 v0.rooms.held v0.rooms.moving v h.2.front u slots x reads in
    let full : x.kept ≡ z.entries = (let a = c.if-read-entries.false in let b = c.entries.ensures.is in omega arith) in
    let none = subst (λ (n : ℕ). FindsNoneFree z n r u t) to_read c.in_default-claim_free.ensures.none in
    let filled = none_filled z call r c.args.key.now h.0 h.1 v0 v c.requires.idle c.requires.key bytes h.2 u slots x reads full t none s
    (subst (λ (n : ℕ). WorksOnRooms z n t s) (c.claim_free.ensures.own.call ∙ to_read) k.works) k.ranges (subst (λ (xs : List SortSlot). Fills z.entries r (take x.kept xs) x.base (held_memory t.rooms.held) (held_memory s.rooms.held)) c.claim_free.ensures.own.sorting k.filled) in
    let opens = subst (λ (n : ℕ). OpensFront z n r filled.words v0.rooms.held v0.rooms.moving s e) (k.own.call ∙ (c.claim_free.ensures.own.call ∙ to_read)) (c.open_front-in_default-claim_free.ensures.opens filled.words filled.range v0.rooms.held v0.rooms.moving filled.front) in
    none_lacks z call r c.args.key.now h.0 h.1 v0 v c.requires.idle c.requires.key bytes h.2 u slots x reads full t none c.claim_free.ensures.others c.read_front-read.ensures.sees s e filled opens

pub halve-requires-clause-pair : goal.halve-requires-clause-pair
halve-requires-clause-pair c = let z = sizes c.args.table.now in let call = call_of c.args.pass.now in let r = c.in-Some.room in let v = state c.try_hold.new.pass in let h = c.in-Some.ensures.holds in let v0 = state c.args.pass.now in let u = state c.read_front-read.new.pass in let t = state c.claim_free.new.pass in
    let slots = slots_of c.read_front-read.new.pass in let x = c.read_front-read.result in let here = c.try_hold.ensures.own.call in let to_read = c.read_front-read.ensures.own.call ∙ here in let q = c.in-Some-claim_free.upper in
    let reads = subst (λ (n : ℕ). ReadsFront z n r slots x v u) here c.read_front-read.ensures.reads in
    let few = read_few z call r h.0 h.1 v0.rooms.held v0.rooms.moving v h.2.front u slots x reads in
    let claim = subst (λ (n : ℕ). (w : RoomCopy) × Claims z n q w u t) to_read c.in-Some-claim_free.ensures.claims.1 in
    (h.0, claim.0, h.1, split_pair z call r c.args.key.now h.0 h.1 v0 v c.requires.idle c.requires.key (slice_bytes c.args.key.now c.type_inv.key) h.2 u slots x reads (let a = c.if-read-entries.false in let b = c.entries.ensures.is in omega arith) q c.in-Some-claim_free.ensures.claims.0 claim.0 t claim.1)

pub halve-requires-clause-whole : goal.halve-requires-clause-whole
halve-requires-clause-whole c = let z = sizes c.args.table.now in let call = call_of c.args.pass.now in let r = c.in-Some.room in let v = state c.try_hold.new.pass in let h = c.in-Some.ensures.holds in let v0 = state c.args.pass.now in let u = state c.read_front-read.new.pass in let t = state c.claim_free.new.pass in
    let slots = slots_of c.read_front-read.new.pass in let x = c.read_front-read.result in let here = c.try_hold.ensures.own.call in let to_read = c.read_front-read.ensures.own.call ∙ here in let q = c.in-Some-claim_free.upper in
    let reads = subst (λ (n : ℕ). ReadsFront z n r slots x v u) here c.read_front-read.ensures.reads in
    let few = read_few z call r h.0 h.1 v0.rooms.held v0.rooms.moving v h.2.front u slots x reads in
    let claim = subst (λ (n : ℕ). (w : RoomCopy) × Claims z n q w u t) to_read c.in-Some-claim_free.ensures.claims.1 in
    subst (λ (xs : List SortSlot). HasWhole z r xs x t) (sym c.claim_free.ensures.own.sorting)
    (split_whole z call r c.args.key.now h.0 h.1 v0 v c.requires.idle c.requires.key (slice_bytes c.args.key.now c.type_inv.key) h.2 u slots x reads (let a = c.if-read-entries.false in let b = c.entries.ensures.is in omega arith) q c.in-Some-claim_free.ensures.claims.0 claim.0 t claim.1)

pub returns-clause-halved : goal.returns-clause-halved
unfolding room_of
returns-clause-halved c room same = let z = sizes c.args.table.now in let call = call_of c.args.pass.now in let r = c.in-Some.room in let v = state c.try_hold.new.pass in let h = c.in-Some.ensures.holds in let v0 = state c.args.pass.now in let u = state c.read_front-read.new.pass in let t = state c.claim_free.new.pass in let e = state c.halve.new.pass in
    let slots = slots_of c.read_front-read.new.pass in let x = c.read_front-read.result in let here = c.try_hold.ensures.own.call in let to_read = c.read_front-read.ensures.own.call ∙ here in let q = c.in-Some-claim_free.upper in let bytes = slice_bytes c.args.key.now c.type_inv.key in
    let reads = subst (λ (n : ℕ). ReadsFront z n r slots x v u) here c.read_front-read.ensures.reads in
    let few = read_few z call r h.0 h.1 v0.rooms.held v0.rooms.moving v h.2.front u slots x reads in
    let full : x.kept ≡ z.entries = (let a = c.if-read-entries.false in let b = c.entries.ensures.is in omega arith) in
    let claim = subst (λ (n : ℕ). (w : RoomCopy) × Claims z n q w u t) to_read c.in-Some-claim_free.ensures.claims.1 in
    let pair = split_pair z call r c.args.key.now h.0 h.1 v0 v c.requires.idle c.requires.key bytes h.2 u slots x reads full q c.in-Some-claim_free.ensures.claims.0 claim.0 t claim.1 in
    let halves = subst (λ (n : ℕ). OpensHalves z n r q h.0 t e) (c.claim_free.ensures.own.call ∙ to_read) (c.halve.ensures.halves h.0 claim.0 h.1 pair) in
    subst (λ (j : ℕ). Halves z call c.args.key.now j v0 e) (ap room_of same) (split_halves z call r c.args.key.now h.0 h.1 v0 v c.requires.idle c.requires.key bytes h.2 u slots x reads full q c.in-Some-claim_free.ensures.claims.0 claim.0 t claim.1 c.claim_free.ensures.others e halves)

pub returns-in_default-clause-busy : goal.returns-in_default-clause-busy
returns-in_default-clause-busy c = let x = c.in_default.ensures in gives_up (sizes c.args.table.now) (call_of c.args.pass.now) c.args.looks c.args.key.now (state c.args.pass.now) (state c.try_hold.new.pass) c.requires.idle x.back x.busy x.swept x.alone

pub try_hold-requires-clause-compacted : goal.try_hold-requires-clause-compacted
try_hold-requires-clause-compacted c = idle_compacted (sizes c.args.table.now) (state c.args.pass.now) c.requires.idle
