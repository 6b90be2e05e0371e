-- A chunk that a pass compacted is chained.
use Rattle.std.proofs.Common.{ℕ, ◌≤◌, List, length, subst, arith}
use Rattle.oak_model.specs.Limits.{Sizes}
use Rattle.chunk_core.specs.declared.holds.HeldRoom.{HeldRoom}
use Rattle.chunk_core.specs.declared.holds.MovingRange.{MovingRange}
use Rattle.chunk_core.specs.declared.holds.RoomCopy.{RoomCopy}
use Rattle.chunk_core.specs.ChainedRooms.{IsChained}
use Rattle.oak_core.specs.declared.sorting.SortSlot.{SortSlot}
use Rattle.oak_core.specs.declared.states.PassState.{PassState}
use Rattle.rebalance.specs.declared.chunk_pairs.Taken.{Taken}
use Rattle.rebalance.specs.Chunks.{CompactsFront, HoldsFront}
use Rattle.rebalance.specs.Filled.{IsFilled}
use Rattle.rebalance.specs.Merging.{TakesChunk}
use Rattle.rebalance.specs.Mirrors.{held_memory}
use Rattle.rebalance.proofs.FilledChains.{filled_chained}
use Rattle.rebalance.proofs.FrontRewrites.{entries_limited}
use Rattle.rebalance.proofs.FrontRooms.{front_words}

-- a front room that was filled
pub front_chained : (z : Sizes) (r : ℕ) (w : RoomCopy) (g : MovingRange) (hs : List HeldRoom) (gs : List MovingRange) (v : PassState) (xs : List SortSlot) (base : ℕ) → HoldsFront z r w g hs gs v → IsFilled z.entries r xs base (held_memory v.rooms.held) → length xs ≤ z.entries → IsChained z w
front_chained z r w g hs gs v xs base f filled few = subst (IsChained z) (front_words z r w g hs gs v f) (filled_chained z (held_memory v.rooms.held) r xs base filled few (entries_limited z v f.moment))

-- so is one that was compacted
pub compacted_chained : (z : Sizes) (call r dropped : ℕ) (slots : List SortSlot) (w : RoomCopy) (hs : List HeldRoom) (gs : List MovingRange) (v u : PassState) (c : CompactsFront z call r dropped slots w hs gs v u) → IsChained z c.words
compacted_chained z call r dropped slots w hs gs v u c = front_chained z r c.words c.range hs gs u slots c.words.base c.front c.filled (let a = c.kept_is in let b = c.rewritten.sorted.count in let d = c.front.mirrors.few in omega arith)

-- and one that was taken
pub taken_chained : (z : Sizes) (call : ℕ) (key : List ℕ) (t : Taken) (slots : List SortSlot) (v u : PassState) (c : TakesChunk z call key t slots v u) → IsChained z c.words
taken_chained z call key t slots v u c = front_chained z t.room c.words c.range v.rooms.held v.rooms.moving u slots c.words.base c.front c.filled (let a = c.kept_is in let b = c.rewritten.sorted.count in let d = c.front.mirrors.few in let e = c.many in omega arith)
