use Rattle.std.proofs.Common.{ℕ, List, [], Option, Some, None, take, refl, sym, ap, ◌∙◌, subst, arith}
use Rattle.oak_model.specs.Key.{IsKey}
use Rattle.oak_model.specs.Limits.{Sizes}
use Rattle.oak_core.specs.Passes.{state, key as sizes, call_of, slots_of}
use Rattle.chunk_ops.proofs.WordParts.{slice_bytes}
use Rattle.oak_model.specs.KeyNumber.{key_number}
use Rattle.oak_core.specs.AloneWords.{Runs}
use Rattle.chunk_ops.specs.LoneRooms.{NeverElsewhere}
use Rattle.rebalance.specs.Busy.{IsBusyFor}
use Rattle.rebalance.specs.Chunks.{ComesBack, OpensFront}
use Rattle.rebalance.specs.HeldTables.{WorksOnRooms}
use Rattle.rebalance.specs.Merging.{ApartUpTo, JoinsPair, TakesChunk}
use Rattle.rebalance.proofs.ChainedFronts.{taken_chained}
use Rattle.rebalance.proofs.GivenUp.{gives_up, gives_up_lower}
use Rattle.rebalance.proofs.MergedChunks.{apart_alone, apart_full, apart_of, busy_above, merged_chunks, none_of}
use Rattle.rebalance.proofs.NeighbourChunks.{pair_held}
use Rattle.rebalance.proofs.TakenChunks.{end_is_key, front_back, front_kept, front_looked, lone_compacted, lone_front}
use Rattle.rebalance.proofs.chunk_pairs.try_merge_chunk.Goals as goal

pub open_front-requires-clause-front : goal.open_front-requires-clause-front
open_front-requires-clause-front c = let z : Sizes = sizes c.args.table.now in let call = call_of c.args.pass.now in let key = c.args.key.now in let v = state c.args.pass.now in let a = state c.try_take_chunk.new.pass in let q = state c.high_of.new.pass in
    let low = c.in-Some.low in let ys = take low.kept (slots_of c.try_take_chunk.new.pass) in let idle = c.requires.idle in let lower = c.in-Some.ensures.takes in let to_a = c.try_take_chunk.ensures.own.call in
    let works = subst (λ (k : ℕ). WorksOnRooms z k a q) to_a c.high_of.ensures.works in let alone = lone_front z call key low ys v a idle lower in let front = front_looked z call low.room lower.words lower.range [] [] a q alone works c.high_of.ensures.rooms in
    (lower.words, lower.range, [], [], front, taken_chained z call key low ys v a lower, lower.rewritten.linked)

pub returns-in_default-high_of-clause-apart : goal.returns-in_default-high_of-clause-apart
returns-in_default-high_of-clause-apart c = λ high same. let z : Sizes = sizes c.args.table.now in let call = call_of c.args.pass.now in let key = c.args.key.now in let v = state c.args.pass.now in let a = state c.try_take_chunk.new.pass in let q = state c.high_of.new.pass in
    let low = c.in-Some.low in let ys = take low.kept (slots_of c.try_take_chunk.new.pass) in let idle = c.requires.idle in let lower = c.in-Some.ensures.takes in let to_a = c.try_take_chunk.ensures.own.call in
    let works = subst (λ (k : ℕ). WorksOnRooms z k a q) to_a c.high_of.ensures.works in let alone = lone_front z call key low ys v a idle lower in let front = front_looked z call low.room lower.words lower.range [] [] a q alone works c.high_of.ensures.rooms in
    let u = state c.open_front.new.pass in let end = c.high_of.ensures.high lower.words lower.range [] [] alone ∙ none_of c.high_of.result c.in_default-high_of.not-Some in
    let o = subst (λ (k : ℕ). OpensFront z k low.room lower.words [] [] q u) (c.high_of.ensures.own.call ∙ to_a) (c.open_front.ensures.opens lower.words lower.range [] [] front) in let bytes = slice_bytes key c.type_inv.key in
    subst (λ (x : Option (List ℕ)). ApartUpTo z call key x v u) (ap apart_of same) (apart_alone z call key low ys v a idle lower q works front bytes c.requires.key u o end)

pub try_take_chunk-requires-2-clause-key : goal.try_take_chunk-requires-2-clause-key
try_take_chunk-requires-2-clause-key c = let z : Sizes = sizes c.args.table.now in let call = call_of c.args.pass.now in let key = c.args.key.now in let v = state c.args.pass.now in let a = state c.try_take_chunk.new.pass in let q = state c.high_of.new.pass in
    let low = c.in-Some.low in let ys = take low.kept (slots_of c.try_take_chunk.new.pass) in let idle = c.requires.idle in let lower = c.in-Some.ensures.takes in let to_a = c.try_take_chunk.ensures.own.call in
    let works = subst (λ (k : ℕ). WorksOnRooms z k a q) to_a c.high_of.ensures.works in let alone = lone_front z call key low ys v a idle lower in let front = front_looked z call low.room lower.words lower.range [] [] a q alone works c.high_of.ensures.rooms in
    let h = c.in-Some-high_of.high in let end = c.high_of.ensures.high lower.words lower.range [] [] alone ∙ c.in-Some-high_of.is in let to_q = c.high_of.ensures.own.call ∙ to_a in
    subst (λ (l : List ℕ). IsKey l) (sym c.as_slice.ensures) (end_is_key z call key low ys v a idle lower h end)

pub try_take_chunk-requires-2-clause-compacted : goal.try_take_chunk-requires-2-clause-compacted
try_take_chunk-requires-2-clause-compacted c = let z : Sizes = sizes c.args.table.now in let call = call_of c.args.pass.now in let key = c.args.key.now in let v = state c.args.pass.now in let a = state c.try_take_chunk.new.pass in let q = state c.high_of.new.pass in
    let low = c.in-Some.low in let ys = take low.kept (slots_of c.try_take_chunk.new.pass) in let idle = c.requires.idle in let lower = c.in-Some.ensures.takes in let to_a = c.try_take_chunk.ensures.own.call in
    let works = subst (λ (k : ℕ). WorksOnRooms z k a q) to_a c.high_of.ensures.works in let alone = lone_front z call key low ys v a idle lower in let front = front_looked z call low.room lower.words lower.range [] [] a q alone works c.high_of.ensures.rooms in
    lone_compacted z call key low ys v a idle lower q front

pub open_front-requires-then-low-up-clause-front : goal.open_front-requires-then-low-up-clause-front
open_front-requires-then-low-up-clause-front c = let z : Sizes = sizes c.args.table.now in let q = state c.high_of.new.pass in let up = c.in-Some-try_take_chunk.up in let b = state c.try_take_chunk-2.new.pass in
    let xs = take up.kept (slots_of c.try_take_chunk-2.new.pass) in let upper = c.in-Some-try_take_chunk.ensures.takes in
    (upper.words, upper.range, q.rooms.held, q.rooms.moving, upper.front, taken_chained z (call_of c.high_of.new.pass) c.as_slice.result.now up xs q b upper, upper.rewritten.linked)

pub open_front-requires-then-low-up-2-clause-front : goal.open_front-requires-then-low-up-2-clause-front
open_front-requires-then-low-up-2-clause-front c = let z : Sizes = sizes c.args.table.now in let call = call_of c.args.pass.now in let key = c.args.key.now in let v = state c.args.pass.now in let a = state c.try_take_chunk.new.pass in let q = state c.high_of.new.pass in
    let low = c.in-Some.low in let ys = take low.kept (slots_of c.try_take_chunk.new.pass) in let idle = c.requires.idle in let lower = c.in-Some.ensures.takes in let to_a = c.try_take_chunk.ensures.own.call in
    let works = subst (λ (k : ℕ). WorksOnRooms z k a q) to_a c.high_of.ensures.works in let alone = lone_front z call key low ys v a idle lower in let front = front_looked z call low.room lower.words lower.range [] [] a q alone works c.high_of.ensures.rooms in
    let h = c.in-Some-high_of.high in let end = c.high_of.ensures.high lower.words lower.range [] [] alone ∙ c.in-Some-high_of.is in let to_q = c.high_of.ensures.own.call ∙ to_a in
    let up = c.in-Some-try_take_chunk.up in let b = state c.try_take_chunk-2.new.pass in let xs = take up.kept (slots_of c.try_take_chunk-2.new.pass) in let to_b = c.try_take_chunk-2.ensures.own.call ∙ to_q in
    let upper = subst (λ (k : ℕ). TakesChunk z k h up xs q b) to_q (subst (λ (l : List ℕ). TakesChunk z (call_of c.high_of.new.pass) l up xs q b) c.as_slice.ensures c.in-Some-try_take_chunk.ensures.takes) in
    let d = state c.open_front-then-low-up.new.pass in let n = subst (λ (k : ℕ). OpensFront z k up.room upper.words q.rooms.held q.rooms.moving b d) to_b (c.open_front-then-low-up.ensures.opens upper.words upper.range q.rooms.held q.rooms.moving upper.front) in
    let again = front_back z call low.room up.room lower.words upper.words lower.range upper.range [] [] q b d front upper.front n in
    (lower.words, lower.range, [], [], again, taken_chained z call key low ys v a lower, lower.rewritten.linked)

pub returns-then-low-up-clause-apart : goal.returns-then-low-up-clause-apart
returns-then-low-up-clause-apart c = λ high same. let z : Sizes = sizes c.args.table.now in let call = call_of c.args.pass.now in let key = c.args.key.now in let v = state c.args.pass.now in let a = state c.try_take_chunk.new.pass in let q = state c.high_of.new.pass in
    let low = c.in-Some.low in let ys = take low.kept (slots_of c.try_take_chunk.new.pass) in let idle = c.requires.idle in let lower = c.in-Some.ensures.takes in let to_a = c.try_take_chunk.ensures.own.call in
    let works = subst (λ (k : ℕ). WorksOnRooms z k a q) to_a c.high_of.ensures.works in let alone = lone_front z call key low ys v a idle lower in let front = front_looked z call low.room lower.words lower.range [] [] a q alone works c.high_of.ensures.rooms in
    let h = c.in-Some-high_of.high in let end = c.high_of.ensures.high lower.words lower.range [] [] alone ∙ c.in-Some-high_of.is in let to_q = c.high_of.ensures.own.call ∙ to_a in
    let up = c.in-Some-try_take_chunk.up in let b = state c.try_take_chunk-2.new.pass in let xs = take up.kept (slots_of c.try_take_chunk-2.new.pass) in let to_b = c.try_take_chunk-2.ensures.own.call ∙ to_q in
    let upper = subst (λ (k : ℕ). TakesChunk z k h up xs q b) to_q (subst (λ (l : List ℕ). TakesChunk z (call_of c.high_of.new.pass) l up xs q b) c.as_slice.ensures c.in-Some-try_take_chunk.ensures.takes) in
    let d = state c.open_front-then-low-up.new.pass in let n = subst (λ (k : ℕ). OpensFront z k up.room upper.words q.rooms.held q.rooms.moving b d) to_b (c.open_front-then-low-up.ensures.opens upper.words upper.range q.rooms.held q.rooms.moving upper.front) in
    let again = front_back z call low.room up.room lower.words upper.words lower.range upper.range [] [] q b d front upper.front n in
    let u = state c.open_front-then-low-up-2.new.pass in let bytes = slice_bytes key c.type_inv.key in let much = c.if-low-up.true in let is = c.entries.ensures.is in
    let o = subst (λ (k : ℕ). OpensFront z k low.room lower.words [] [] d u) (c.open_front-then-low-up.ensures.own.call ∙ to_b) (c.open_front-then-low-up-2.ensures.opens lower.words lower.range [] [] again) in
    subst (λ (x : Option (List ℕ)). ApartUpTo z call key x v u) (ap apart_of same) (apart_full z call key low ys v a idle lower q works front bytes c.requires.key h end up xs b upper d u n o (omega (arith, much, is)))

pub join_above-requires-clause-pair : goal.join_above-requires-clause-pair
join_above-requires-clause-pair c = let z : Sizes = sizes c.args.table.now in let call = call_of c.args.pass.now in let key = c.args.key.now in let v = state c.args.pass.now in let a = state c.try_take_chunk.new.pass in let q = state c.high_of.new.pass in
    let low = c.in-Some.low in let ys = take low.kept (slots_of c.try_take_chunk.new.pass) in let idle = c.requires.idle in let lower = c.in-Some.ensures.takes in let to_a = c.try_take_chunk.ensures.own.call in
    let works = subst (λ (k : ℕ). WorksOnRooms z k a q) to_a c.high_of.ensures.works in let alone = lone_front z call key low ys v a idle lower in let front = front_looked z call low.room lower.words lower.range [] [] a q alone works c.high_of.ensures.rooms in
    let h = c.in-Some-high_of.high in let end = c.high_of.ensures.high lower.words lower.range [] [] alone ∙ c.in-Some-high_of.is in let to_q = c.high_of.ensures.own.call ∙ to_a in
    let up = c.in-Some-try_take_chunk.up in let b = state c.try_take_chunk-2.new.pass in let xs = take up.kept (slots_of c.try_take_chunk-2.new.pass) in let to_b = c.try_take_chunk-2.ensures.own.call ∙ to_q in
    let upper = subst (λ (k : ℕ). TakesChunk z k h up xs q b) to_q (subst (λ (l : List ℕ). TakesChunk z (call_of c.high_of.new.pass) l up xs q b) c.as_slice.ensures c.in-Some-try_take_chunk.ensures.takes) in
    let few = c.if-low-up.false in let is = c.entries.ensures.is in pair_held z call key h low up ys xs v a q b lower front upper end (omega (arith, few, is))

pub open_front-requires-2-clause-front : goal.open_front-requires-2-clause-front
open_front-requires-2-clause-front c = let z : Sizes = sizes c.args.table.now in let call = call_of c.args.pass.now in let key = c.args.key.now in let v = state c.args.pass.now in let a = state c.try_take_chunk.new.pass in let q = state c.high_of.new.pass in
    let low = c.in-Some.low in let ys = take low.kept (slots_of c.try_take_chunk.new.pass) in let idle = c.requires.idle in let lower = c.in-Some.ensures.takes in let to_a = c.try_take_chunk.ensures.own.call in
    let works = subst (λ (k : ℕ). WorksOnRooms z k a q) to_a c.high_of.ensures.works in let alone = lone_front z call key low ys v a idle lower in let front = front_looked z call low.room lower.words lower.range [] [] a q alone works c.high_of.ensures.rooms in
    let h = c.in-Some-high_of.high in let end = c.high_of.ensures.high lower.words lower.range [] [] alone ∙ c.in-Some-high_of.is in let to_q = c.high_of.ensures.own.call ∙ to_a in
    let up = c.in-Some-try_take_chunk.up in let b = state c.try_take_chunk-2.new.pass in let xs = take up.kept (slots_of c.try_take_chunk-2.new.pass) in let to_b = c.try_take_chunk-2.ensures.own.call ∙ to_q in
    let upper = subst (λ (k : ℕ). TakesChunk z k h up xs q b) to_q (subst (λ (l : List ℕ). TakesChunk z (call_of c.high_of.new.pass) l up xs q b) c.as_slice.ensures c.in-Some-try_take_chunk.ensures.takes) in
    let few = c.if-low-up.false in let is = c.entries.ensures.is in let pair = pair_held z call key h low up ys xs v a q b lower front upper end (omega (arith, few, is)) in let d = state c.join_above.new.pass in
    let joins = subst (λ (k : ℕ). JoinsPair z k low up lower.range upper.range b d) to_b (c.join_above.ensures.joins pair) in
    (joins.opened, _, [], [], joins.front, joins.chained, joins.linked)

pub returns-clause-joined : goal.returns-clause-joined
returns-clause-joined c = λ _. let z : Sizes = sizes c.args.table.now in let call = call_of c.args.pass.now in let key = c.args.key.now in let v = state c.args.pass.now in let a = state c.try_take_chunk.new.pass in let q = state c.high_of.new.pass in
    let low = c.in-Some.low in let ys = take low.kept (slots_of c.try_take_chunk.new.pass) in let idle = c.requires.idle in let lower = c.in-Some.ensures.takes in let to_a = c.try_take_chunk.ensures.own.call in
    let works = subst (λ (k : ℕ). WorksOnRooms z k a q) to_a c.high_of.ensures.works in let alone = lone_front z call key low ys v a idle lower in let front = front_looked z call low.room lower.words lower.range [] [] a q alone works c.high_of.ensures.rooms in
    let h = c.in-Some-high_of.high in let end = c.high_of.ensures.high lower.words lower.range [] [] alone ∙ c.in-Some-high_of.is in let to_q = c.high_of.ensures.own.call ∙ to_a in
    let up = c.in-Some-try_take_chunk.up in let b = state c.try_take_chunk-2.new.pass in let xs = take up.kept (slots_of c.try_take_chunk-2.new.pass) in let to_b = c.try_take_chunk-2.ensures.own.call ∙ to_q in
    let upper = subst (λ (k : ℕ). TakesChunk z k h up xs q b) to_q (subst (λ (l : List ℕ). TakesChunk z (call_of c.high_of.new.pass) l up xs q b) c.as_slice.ensures c.in-Some-try_take_chunk.ensures.takes) in
    let few = c.if-low-up.false in let is = c.entries.ensures.is in let pair = pair_held z call key h low up ys xs v a q b lower front upper end (omega (arith, few, is)) in let d = state c.join_above.new.pass in
    let joins = subst (λ (k : ℕ). JoinsPair z k low up lower.range upper.range b d) to_b (c.join_above.ensures.joins pair) in
    let u = state c.open_front-2.new.pass in let bytes = slice_bytes key c.type_inv.key in
    let o = subst (λ (k : ℕ). OpensFront z k low.room joins.opened [] [] d u) (c.join_above.ensures.own.call ∙ to_b) (c.open_front-2.ensures.opens joins.opened _ [] [] joins.front) in
    merged_chunks z call key low ys v a idle lower q works front bytes c.requires.key h end up xs b upper d u joins o (omega (arith, few, is))

pub returns-clause-ended : goal.returns-clause-ended
returns-clause-ended c = let z : Sizes = sizes c.args.table.now in let call = call_of c.args.pass.now in let key = c.args.key.now in let v = state c.args.pass.now in let a = state c.try_take_chunk.new.pass in let q = state c.high_of.new.pass in
    let low = c.in-Some.low in let ys = take low.kept (slots_of c.try_take_chunk.new.pass) in let idle = c.requires.idle in let lower = c.in-Some.ensures.takes in let to_a = c.try_take_chunk.ensures.own.call in
    let works = subst (λ (k : ℕ). WorksOnRooms z k a q) to_a c.high_of.ensures.works in let alone = lone_front z call key low ys v a idle lower in let front = front_looked z call low.room lower.words lower.range [] [] a q alone works c.high_of.ensures.rooms in
    let h = c.in-Some-high_of.high in let end = c.high_of.ensures.high lower.words lower.range [] [] alone ∙ c.in-Some-high_of.is in let to_q = c.high_of.ensures.own.call ∙ to_a in
    let up = c.in-Some-try_take_chunk.up in let b = state c.try_take_chunk-2.new.pass in let xs = take up.kept (slots_of c.try_take_chunk-2.new.pass) in let to_b = c.try_take_chunk-2.ensures.own.call ∙ to_q in
    let upper = subst (λ (k : ℕ). TakesChunk z k h up xs q b) to_q (subst (λ (l : List ℕ). TakesChunk z (call_of c.high_of.new.pass) l up xs q b) c.as_slice.ensures c.in-Some-try_take_chunk.ensures.takes) in
    let few = c.if-low-up.false in let is = c.entries.ensures.is in let pair = pair_held z call key h low up ys xs v a q b lower front upper end (omega (arith, few, is)) in let d = state c.join_above.new.pass in
    let joins = subst (λ (k : ℕ). JoinsPair z k low up lower.range upper.range b d) to_b (c.join_above.ensures.joins pair) in
    let u = state c.open_front-2.new.pass in
    let o = subst (λ (k : ℕ). OpensFront z k low.room joins.opened [] [] d u) (c.join_above.ensures.own.call ∙ to_b) (c.open_front-2.ensures.opens joins.opened _ [] [] joins.front) in o.moment

pub returns-in_default-high_of-clause-ended : goal.returns-in_default-high_of-clause-ended
returns-in_default-high_of-clause-ended c = (returns-in_default-high_of-clause-apart c None refl).stays.ended

pub returns-then-low-up-clause-ended : goal.returns-then-low-up-clause-ended
returns-then-low-up-clause-ended c = (returns-then-low-up-clause-apart c (Some c.in-Some-high_of.high) refl).stays.ended

-- one of the two was busy

pub returns-in_default-clause-busy : goal.returns-in_default-clause-busy
returns-in_default-clause-busy c = let gave = c.in_default.ensures in
    gives_up_lower (sizes c.args.table.now) (call_of c.args.pass.now) c.args.looks c.args.key.now (state c.args.pass.now) (state c.try_take_chunk.new.pass)
    (gives_up (sizes c.args.table.now) (call_of c.args.pass.now) c.args.looks c.args.key.now (state c.args.pass.now) (state c.try_take_chunk.new.pass) c.requires.idle gave.back gave.busy gave.swept gave.alone)

pub open_front-requires-in_default-try_take_chunk-clause-front : goal.open_front-requires-in_default-try_take_chunk-clause-front
open_front-requires-in_default-try_take_chunk-clause-front c = let z : Sizes = sizes c.args.table.now in let call = call_of c.args.pass.now in let key = c.args.key.now in let v = state c.args.pass.now in let a = state c.try_take_chunk.new.pass in let q = state c.high_of.new.pass in
    let low = c.in-Some.low in let ys = take low.kept (slots_of c.try_take_chunk.new.pass) in let idle = c.requires.idle in let lower = c.in-Some.ensures.takes in let to_a = c.try_take_chunk.ensures.own.call in
    let works = subst (λ (k : ℕ). WorksOnRooms z k a q) to_a c.high_of.ensures.works in let alone = lone_front z call key low ys v a idle lower in let front = front_looked z call low.room lower.words lower.range [] [] a q alone works c.high_of.ensures.rooms in
    let to_q = c.high_of.ensures.own.call ∙ to_a in let b = state c.try_take_chunk-2.new.pass in let gave = c.in_default-try_take_chunk.ensures in let back = subst (λ (k : ℕ). ComesBack z k q b) to_q gave.back in let kept = front_kept z call low.room lower.words lower.range [] [] q b front back in
    (lower.words, lower.range, [], [], kept, taken_chained z call key low ys v a lower, lower.rewritten.linked)

pub returns-in_default-try_take_chunk-clause-busy : goal.returns-in_default-try_take_chunk-clause-busy
returns-in_default-try_take_chunk-clause-busy c = let z : Sizes = sizes c.args.table.now in let call = call_of c.args.pass.now in let key = c.args.key.now in let v = state c.args.pass.now in let a = state c.try_take_chunk.new.pass in let q = state c.high_of.new.pass in
    let low = c.in-Some.low in let ys = take low.kept (slots_of c.try_take_chunk.new.pass) in let idle = c.requires.idle in let lower = c.in-Some.ensures.takes in let to_a = c.try_take_chunk.ensures.own.call in
    let works = subst (λ (k : ℕ). WorksOnRooms z k a q) to_a c.high_of.ensures.works in let alone = lone_front z call key low ys v a idle lower in let front = front_looked z call low.room lower.words lower.range [] [] a q alone works c.high_of.ensures.rooms in
    let to_q = c.high_of.ensures.own.call ∙ to_a in let b = state c.try_take_chunk-2.new.pass in let gave = c.in_default-try_take_chunk.ensures in let back = subst (λ (k : ℕ). ComesBack z k q b) to_q gave.back in let kept = front_kept z call low.room lower.words lower.range [] [] q b front back in
    let h = c.in-Some-high_of.high in let end = c.high_of.ensures.high lower.words lower.range [] [] alone ∙ c.in-Some-high_of.is in let u = state c.open_front-in_default-try_take_chunk.new.pass in let bytes = slice_bytes key c.type_inv.key in
    let busy = subst (λ (p : ℕ × List ℕ). IsBusyFor z p.0 c.args.looks p.1 q b) (λ i. (to_q i, c.as_slice.ensures i)) gave.busy in let never = subst (λ (l : List ℕ). Runs (NeverElsewhere (key_number l) q) q b) c.as_slice.ensures gave.alone in
    let o = subst (λ (k : ℕ). OpensFront z k low.room lower.words [] [] b u) (c.try_take_chunk-2.ensures.own.call ∙ to_q) (c.open_front-in_default-try_take_chunk.ensures.opens lower.words lower.range [] [] kept) in
    busy_above z call key low ys v a idle lower q works front bytes c.requires.key c.args.looks h end b u back busy never o
